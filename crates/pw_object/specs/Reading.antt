-- Reading an object file from left to right, with the first fault that is met.
use Rattle.std.specs.Prelude.{ℕ, nat_lt, List, [], ◌∷◌, length, Option, Result}
use Rattle.pw_fields.specs.Fields.{◌>>=◌, done, checked, u32_at, text_at, choice_at}
use Rattle.pw_fields.specs.FieldFrame.{here, ended}
use Rattle.pw_fields.specs.FieldNames.{name_at}
use Rattle.pw_files.specs.Rising.{counted_at}
use Rattle.pw_files.specs.Names.{name_list_at, shaped_list_at}
use Rattle.pw_files.specs.Contents.{Contents, module_rules, contents_file_at}
use Rattle.pw_value.specs.declared.program_names.StartName.TheVariants.{Allowed}
use Rattle.pw_flow.specs.declared.flow.FlowGlobal.{FlowGlobal}
use Rattle.pw_flow_ops.specs.Reading.{one_of_at}
use Rattle.pw_flowfile.specs.Reading.{global_body_at}
use Rattle.pw_inst.specs.Limits.{routine_count}
use Rattle.pw_inst.specs.declared.relocation.Symbol.{Symbol}
use Rattle.pw_inst.specs.declared.relocation.Symbol.TheVariants as symbol
use Rattle.pw_inst.specs.declared.relocation.Fix.{Fix}
use Rattle.pw_object.specs.declared.functions.ObjectFn.{ObjectFn}
use Rattle.pw_object.specs.declared.functions.SymbolForm.{SymbolForm}
use Rattle.pw_object.specs.declared.functions.SymbolForm.TheVariants as form
use Rattle.pw_object.specs.declared.object.Object.{Object}
use Rattle.pw_object.specs.Functions.{fix_kinds, symbol_forms}
use Rattle.pw_object.specs.Object.{object_version, whole_object, global_names, function_names, names_of}
use Rattle.pw_object.specs.Object.{kind as kind_of_file}

-- a name, a word of the function, the end of the stack, or a routine
unfoldable pub named_at : List (List ℕ) → List ℕ → Result (Symbol × List ℕ) ℕ
named_at names = do
  name ← name_at names
  done (symbol.Named name)

unfoldable pub word_at : List ℕ → Result (Symbol × List ℕ) ℕ
word_at = do
  word ← u32_at
  done (symbol.Word word)

unfoldable pub routine_at : List ℕ → Result (Symbol × List ℕ) ℕ
routine_at = do
  number ← choice_at routine_count
  done (symbol.Routine number)

abbrev pub symbol_of_form_at : List (List ℕ) → SymbolForm → List ℕ → Result (Symbol × List ℕ) ℕ
symbol_of_form_at names form.Named = named_at names
symbol_of_form_at names form.Word = word_at
symbol_of_form_at names form.StackLimit = done symbol.StackLimit
symbol_of_form_at names form.Routine = routine_at

unfoldable pub symbol_at : List (List ℕ) → List ℕ → Result (Symbol × List ℕ) ℕ
symbol_at names = one_of_at symbol_forms >>= λ f. symbol_of_form_at names f

-- a fix of a function of so many words
unfoldable pub fix_at : List (List ℕ) → ℕ → List ℕ → Result (Fix × List ℕ) ℕ
fix_at names words = do
  word ← checked (λ w. nat_lt w words) u32_at
  kind ← one_of_at fix_kinds
  symbol ← symbol_at names
  addend ← u32_at
  done (record { word = word; kind = kind; symbol = symbol; addend = addend })

unfoldable pub function_at : List (List ℕ) → List ℕ → Result (ObjectFn × List ℕ) ℕ
function_at names = do
  name ← name_at names
  frame ← u32_at
  words ← counted_at u32_at
  fixes ← counted_at (fix_at names (length words))
  done (record { name = name; frame = frame; words = words; fixes = fixes })

-- a global, which may have an item that names $start
unfoldable pub global_at : List (List ℕ) → List ℕ → Result (FlowGlobal × List ℕ) ℕ
global_at names = name_at names >>= λ name. global_body_at Allowed names name

-- the globals and functions that the module defines, behind the other fields
unfoldable pub defined_at : List (List ℕ) → (Object → ℕ → Option ℕ) → List ℕ → List ℕ → List ℕ → List (List ℕ × List ℕ) → List (List ℕ) → List ℕ → Result (Contents Object × List ℕ) ℕ
defined_at names late «module» flow directives declared used = do
  globals ← counted_at (global_at names)
  count ← here
  functions ← counted_at (function_at names)
  let o = whole_object «module» flow directives declared used globals functions in ended (late o count) (record { names = names; value = o })

-- the fields to their end, under a rule that is looked at last
unfoldable pub fields_at : List (List ℕ) → (Object → ℕ → Option ℕ) → List ℕ → Result (Contents Object × List ℕ) ℕ
fields_at names late = do
  «module» ← name_at names
  flow ← text_at
  directives ← text_at
  declared ← shaped_list_at names Allowed
  used ← name_list_at names Allowed
  defined_at names late «module» flow directives declared used

-- The rules that are looked at last: each name of the table is used, where so many bytes are left behind
-- the table; and $start stands beside main, where so many are left from the count of the functions on.
abbrev pub last_rules : List (List ℕ) → ℕ → Object → ℕ → Option ℕ
last_rules names behind o count = module_rules names (names_of o) behind (function_names o) (global_names o) count

abbrev pub object_file_at : List ℕ → Result (Contents Object) ℕ
object_file_at = contents_file_at kind_of_file object_version object_version (λ version. fields_at) last_rules
