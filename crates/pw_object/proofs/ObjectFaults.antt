-- A fault of an object file's fields rests on the bytes up to the faulty field's end.
use Rattle.std.proofs.Common.{ℕ, List, length}
use Rattle.std.specs.Prelude.{Option, None}
use Rattle.pw_value.specs.declared.program_names.StartName.TheVariants.{Allowed}
use Rattle.pw_fields.specs.Fields.{u32_at, text_at, choice_at}
use Rattle.pw_fields.specs.FieldFrame.{here}
use Rattle.pw_fields.specs.FieldNames.{name_at}
use Rattle.pw_files.specs.Rising.{counted_at}
use Rattle.pw_files.specs.Names.{name_list_at, shaped_list_at}
use Rattle.pw_files.specs.Contents.{Contents, value_of}
use Rattle.pw_files.specs.Faults.{FaultsStay}
use Rattle.pw_files.proofs.OnwardLaws.{Onward, one_onward, behind, done_onward, here_onward, ended_onward, checked_one, mapped_one, choice_one, u32_one, text_one, name_one, counted_onward, name_list_onward, shaped_list_onward}
use Rattle.pw_files.proofs.FaultLaws.{Keeps, keeps_behind, keeps_ended, contents_onward, contents_keep}
use Rattle.pw_files.proofs.FaultLaws as files
use Rattle.pw_inst.specs.Limits.{routine_count}
use Rattle.pw_inst.specs.declared.relocation.Symbol.TheVariants as symbol
use Rattle.pw_flow_ops.proofs.OnwardLaws.{choice_of_one}
use Rattle.pw_flowfile.proofs.FlowFaults.{global_body_onward}
use Rattle.pw_object.specs.declared.functions.ObjectFn.{ObjectFn}
use Rattle.pw_object.specs.declared.functions.SymbolForm.{SymbolForm}
use Rattle.pw_object.specs.declared.functions.SymbolForm.TheVariants as form
use Rattle.pw_object.specs.declared.object.Object.{Object}
use Rattle.pw_object.specs.Object.{kind, object_version, whole_object}
use Rattle.pw_object.specs.Functions.{fix_kinds, symbol_forms}
use Rattle.pw_object.specs.Reading.{named_at, word_at, routine_at, symbol_of_form_at, symbol_at, fix_at, function_at, global_at, last_rules, defined_at, fields_at, object_file_at}

named_onward : (names : List (List ℕ)) → Onward (named_at names)
unfolding named_at
named_onward names = one_onward _ (mapped_one (name_at names) symbol.Named (name_one names))

word_onward : Onward word_at
unfolding word_at
word_onward = one_onward _ (mapped_one u32_at symbol.Word u32_one)

routine_onward : Onward routine_at
unfolding routine_at
routine_onward = one_onward _ (mapped_one (choice_at routine_count) symbol.Routine (choice_one routine_count))

form_onward : (names : List (List ℕ)) (f : SymbolForm) → Onward (symbol_of_form_at names f)
form_onward names form.Named = named_onward names
form_onward names form.Word = word_onward
form_onward names form.StackLimit = done_onward symbol.StackLimit
form_onward names form.Routine = routine_onward

symbol_onward : (names : List (List ℕ)) → Onward (symbol_at names)
unfolding symbol_at
symbol_onward names = behind _ _ (one_onward _ (choice_of_one symbol_forms)) (λ f. form_onward names f)

fix_onward : (names : List (List ℕ)) (words : ℕ) → Onward (fix_at names words)
unfolding fix_at
fix_onward names words =
    behind _ _ (one_onward _ (checked_one _ u32_at u32_one)) (λ word. behind _ _ (one_onward _ (choice_of_one fix_kinds)) (λ kind. behind _ _ (symbol_onward names) (λ symbol. behind _ _ (one_onward _ u32_one) (λ addend. done_onward _))))

function_onward : (names : List (List ℕ)) → Onward (function_at names)
unfolding function_at
function_onward names =
    behind _ _ (one_onward _ (name_one names)) (λ name. behind _ _ (one_onward _ u32_one) (λ frame. behind _ _ (counted_onward u32_at (one_onward _ u32_one)) (λ words.
    behind _ _ (counted_onward (fix_at names (length words)) (fix_onward names (length words))) (λ fixes. done_onward {X = ObjectFn} (record { name = name; frame = frame; words = words; fixes = fixes })))))

global_onward : (names : List (List ℕ)) → Onward (global_at names)
unfolding global_at
global_onward names = behind _ _ (one_onward _ (name_one names)) (λ name. global_body_onward Allowed names name)

abbrev contents : List (List ℕ) → Object → Contents Object
contents names o = record { names = names; value = o }

fields_onward : (names : List (List ℕ)) → Onward (fields_at names (λ o count. None))
unfolding fields_at defined_at
fields_onward names =
    behind _ _ (one_onward _ (name_one names)) (λ m. behind _ _ (one_onward _ text_one) (λ flow. behind _ _ (one_onward _ text_one) (λ directives. behind _ _ (shaped_list_onward names Allowed) (λ declared.
    behind _ _ (name_list_onward names Allowed) (λ used. behind _ _ (counted_onward (global_at names) (global_onward names)) (λ globals. behind _ _ here_onward (λ count.
    behind _ _ (counted_onward (function_at names) (function_onward names)) (λ functions. ended_onward (contents names (whole_object m flow directives declared used globals functions))))))))))

fields_keep : (names : List (List ℕ)) (rule : Object → ℕ → Option ℕ) → Keeps (fields_at names (λ o count. None)) (fields_at names rule)
unfolding fields_at defined_at
fields_keep names rule =
    keeps_behind (name_at names) _ _ (λ m. keeps_behind text_at _ _ (λ flow. keeps_behind text_at _ _ (λ directives. keeps_behind (shaped_list_at names Allowed) _ _ (λ declared. keeps_behind (name_list_at names Allowed) _ _ (λ used.
    keeps_behind (counted_at (global_at names)) _ _ (λ globals. keeps_behind here _ _ (λ count. keeps_behind (counted_at (function_at names)) _ _ (λ functions.
    keeps_ended (rule (whole_object m flow directives declared used globals functions) count) (contents names (whole_object m flow directives declared used globals functions))))))))))

pub faults_stay : FaultsStay kind object_version object_version (λ version. fields_at) (λ bytes. value_of (object_file_at bytes))
faults_stay = files.faults_stay kind object_version object_version (λ version. fields_at) last_rules (λ version. contents_onward fields_at fields_onward) (λ version. contents_keep fields_at last_rules fields_keep)
