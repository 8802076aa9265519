-- The functions of an object file: words, and fixes that a linker puts into them.
use Rattle.std.specs.Prelude.{ℕ, ◌<◌, List, [], ◌∷◌, length, All, Contains}
use Rattle.std.specs.List.{flat_map, AllByRecursion}
use denote.Enum.Bare.{sameb}
use Rattle.pw_fields.specs.Fields.{u8, u32, parts, FitsU32}
use Rattle.pw_fields.specs.FieldNames.{name_index}
use Rattle.pw_files.specs.Rising.{counted}
use Rattle.pw_flow_ops.specs.Operations.{place}
use Rattle.pw_inst.specs.contracts.relocation.FixKind.{the_type as the_fix_kinds}
use Rattle.pw_inst.specs.declared.relocation.FixKind.{FixKind}
use Rattle.pw_inst.specs.declared.relocation.FixKind.TheVariants as kind
use Rattle.pw_inst.specs.declared.relocation.Symbol.{Symbol}
use Rattle.pw_inst.specs.Limits.{routine_count}
use Rattle.pw_inst.specs.declared.relocation.Symbol.TheVariants as symbol
use Rattle.pw_inst.specs.declared.relocation.Fix.{Fix}
use Rattle.pw_object.specs.declared.functions.ObjectFn.{ObjectFn}
use Rattle.pw_object.specs.contracts.functions.SymbolForm.{the_type as the_symbol_forms}
use Rattle.pw_object.specs.declared.functions.SymbolForm.{SymbolForm}
use Rattle.pw_object.specs.declared.functions.SymbolForm.TheVariants as form

-- ---- the rules

-- one of the routines $divs, $divu, $mul, $rems, $remu, by its place among them
abbrev pub IsSymbol : Symbol → Type 0
IsSymbol (symbol.Named name) = Unit {0}
IsSymbol (symbol.Word word) = FitsU32 word
IsSymbol symbol.StackLimit = Unit {0}
IsSymbol (symbol.Routine number) = number < routine_count

-- it names a word of a function of so many words
pub record IsFix (words : ℕ) (f : Fix) : Type 0 where
  pub word : f.word < words
  pub symbol : IsSymbol f.symbol
  pub addend : FitsU32 f.addend

-- numbers are of 32 bits
pub record IsFunction (f : ObjectFn) : Type 0 where
  pub frame : FitsU32 f.frame
  pub words : AllByRecursion FitsU32 f.words
  pub fixes : AllByRecursion (IsFix (length f.words)) f.fixes

-- ---- the spelling

-- in the order of their bytes
abbrev pub fix_kinds : List FixKind
fix_kinds = kind.Ldil ∷ kind.Im14 ∷ kind.Bl ∷ []

abbrev pub kind_code : FixKind → ℕ
kind_code = place (sameb the_fix_kinds) fix_kinds

abbrev pub symbol_forms : List SymbolForm
symbol_forms = form.Named ∷ form.Word ∷ form.StackLimit ∷ form.Routine ∷ []

abbrev pub form_number : SymbolForm → ℕ
form_number = place (sameb the_symbol_forms) symbol_forms

-- the byte at the beginning of a symbol
abbrev pub form_byte : SymbolForm → List ℕ
form_byte f = u8 (form_number f)

abbrev pub symbol_spelling : List (List ℕ) → Symbol → List ℕ
symbol_spelling names (symbol.Named name) = parts (form_byte form.Named ∷ name_index names name ∷ [])
symbol_spelling names (symbol.Word word) = parts (form_byte form.Word ∷ u32 word ∷ [])
symbol_spelling names symbol.StackLimit = form_byte form.StackLimit
symbol_spelling names (symbol.Routine number) = parts (form_byte form.Routine ∷ u8 number ∷ [])

abbrev pub fix : List (List ℕ) → Fix → List ℕ
fix names f = parts (u32 f.word ∷ u8 (kind_code f.kind) ∷ symbol_spelling names f.symbol ∷ u32 f.addend ∷ [])

abbrev pub function : List (List ℕ) → ObjectFn → List ℕ
function names f = parts (name_index names f.name ∷ u32 f.frame ∷ counted u32 f.words ∷ counted (fix names) f.fixes ∷ [])

-- the names that a function uses, its own first
abbrev pub names_of_symbol : Symbol → List (List ℕ)
names_of_symbol (symbol.Named name) = name ∷ []
names_of_symbol (symbol.Word word) = []
names_of_symbol symbol.StackLimit = []
names_of_symbol (symbol.Routine number) = []

abbrev pub names_of_function : ObjectFn → List (List ℕ)
names_of_function f = f.name ∷ flat_map (λ x. names_of_symbol x.symbol) f.fixes

-- these names stand in a table
abbrev pub IsSymbolNamed : List (List ℕ) → Symbol → Type 0
IsSymbolNamed names (symbol.Named name) = Contains names name
IsSymbolNamed names (symbol.Word word) = Unit {0}
IsSymbolNamed names symbol.StackLimit = Unit {0}
IsSymbolNamed names (symbol.Routine number) = Unit {0}

pub record IsFunctionNamed (names : List (List ℕ)) (f : ObjectFn) : Type 0 where
  pub name : Contains names f.name
  pub fixes : All (λ x. IsSymbolNamed names x.symbol) f.fixes
