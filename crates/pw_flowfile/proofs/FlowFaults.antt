-- A fault of a flow file's fields rests on the bytes up to the faulty field's end.
use Rattle.std.proofs.Common.{ℕ, List, [], map}
use Rattle.std.specs.Prelude.{Option, None, Result}
use Rattle.pw_value.specs.declared.program_names.StartName.{StartName}
use Rattle.pw_value.specs.declared.program_names.StartName.TheVariants.{Refused}
use Rattle.pw_fields.specs.Fields.{u32_at}
use Rattle.pw_fields.specs.FieldNames.{name_at}
use Rattle.pw_files.specs.Contents.{Contents, value_of}
use Rattle.pw_files.specs.Faults.{FaultsStay}
use Rattle.pw_files.specs.Kinds.{kind_at}
use Rattle.pw_files.proofs.OnwardLaws.{Onward, OneField, one_onward, behind, done_onward, here_onward, ended_onward, checked_one, u32_one, text_one, flag_one, kind_one, name_one, items_onward, repeated_onward}
use Rattle.pw_files.proofs.FaultLaws.{Keeps, keeps_behind, keeps_ended, contents_onward, contents_keep}
use Rattle.pw_files.proofs.FaultLaws as files
use Rattle.pw_flow.specs.declared.flow.FlowModule.{FlowModule}
use Rattle.pw_flow_ops.specs.Reading.{one_of_at, op_at}
use Rattle.pw_flow_ops.proofs.OnwardLaws.{choice_of_one, named_one, op_onward, end_onward}
use Rattle.pw_flowfile.specs.declared.globals.ItemForm.{ItemForm}
use Rattle.pw_flowfile.specs.declared.globals.ItemForm.TheVariants as form
use Rattle.pw_flowfile.specs.FlowFile.{item_forms, kind_of_file, flow_version}
use Rattle.pw_flowfile.specs.Reading.{fresh_at, content_at, item_at, placed_item_at, next_free, global_body_at, global_at, next_global, block_at, slot_at, next_room, code_at, function_body_at, function_at, next_function, declared_body_at, declared_at, next_declared, seen_after, list_at, parts_at, fields_at, late_rules, flow_file_at}

fresh_one : (names seen : List (List ℕ)) → OneField (fresh_at names seen)
unfolding fresh_at
fresh_one names seen = checked_one _ (name_at names) (name_one names)

-- ---- objects

content_onward : (start : StartName) (names : List (List ℕ)) (size offset : ℕ) (f : ItemForm) → Onward (content_at start names size offset f)
unfolding content_at
content_onward start names size offset form.Bytes = behind _ _ (one_onward _ (checked_one _ _ text_one)) (λ bytes. done_onward _)
content_onward start names size offset form.Address = behind _ _ (one_onward _ (named_one start names)) (λ name. behind _ _ (one_onward _ u32_one) (λ n. done_onward _))

item_onward : (start : StartName) (names : List (List ℕ)) (size offset : ℕ) → Onward (item_at start names size offset)
unfolding item_at
item_onward start names size offset = behind _ _ (one_onward _ (checked_one _ (one_of_at item_forms) (choice_of_one item_forms))) (λ f. content_onward start names size offset f)

placed_onward : (start : StartName) (names : List (List ℕ)) (size free : ℕ) → Onward (placed_item_at start names size free)
unfolding placed_item_at
placed_onward start names size free = behind _ _ (one_onward _ (checked_one _ u32_at u32_one)) (λ offset. behind _ _ (item_onward start names size offset) (λ item. done_onward _))

pub global_body_onward : (start : StartName) (names : List (List ℕ)) (name : List ℕ) → Onward (global_body_at start names name)
unfolding global_body_at
global_body_onward start names name =
    behind _ _ (one_onward _ u32_one) (λ size. behind _ _ (one_onward _ text_one) (λ shape. behind _ _ (one_onward _ (checked_one _ kind_at kind_one)) (λ kind. behind _ _ (one_onward _ flag_one) (λ volatile.
    behind _ _ (one_onward _ u32_one) (λ count. behind _ _ (items_onward (placed_item_at start names size) next_free (λ free. placed_onward start names size free) count 0) (λ items. done_onward _))))))

global_onward : (names seen : List (List ℕ)) → Onward (global_at names seen)
unfolding global_at
global_onward names seen = behind _ _ (one_onward _ (fresh_one names seen)) (λ name. global_body_onward Refused names name)

-- ---- functions

block_onward : (names : List (List ℕ)) (temps slots blocks : ℕ) → Onward (block_at names temps slots blocks)
unfolding block_at
block_onward names temps slots blocks =
    behind _ _ (one_onward _ u32_one) (λ depth. behind _ _ (one_onward _ u32_one) (λ count. behind _ _ (repeated_onward (op_at names temps slots) (op_onward names temps slots) count) (λ ops.
    behind _ _ (end_onward temps blocks) (λ end. done_onward _))))

slot_onward : (room : ℕ) → Onward (slot_at room)
unfolding slot_at
slot_onward room = one_onward _ (checked_one _ u32_at u32_one)

code_onward : (names : List (List ℕ)) (temps : ℕ) → Onward (code_at names temps)
unfolding code_at
code_onward names temps =
    behind _ _ (one_onward _ u32_one) (λ slot_count. behind _ _ (items_onward slot_at next_room slot_onward slot_count _) (λ slots. behind _ _ (one_onward _ (checked_one _ u32_at u32_one)) (λ count.
    behind _ _ (repeated_onward (block_at names temps slot_count count) (block_onward names temps slot_count count) count) (λ blocks. done_onward _))))

function_body_onward : (names : List (List ℕ)) (name : List ℕ) → Onward (function_body_at names name)
unfolding function_body_at
function_body_onward names name =
    behind _ _ (one_onward _ text_one) (λ shape. behind _ _ (one_onward _ (checked_one _ u32_at u32_one)) (λ params. behind _ _ (one_onward _ (checked_one _ u32_at u32_one)) (λ temps.
    behind _ _ (code_onward names temps) (λ code. done_onward _))))

function_onward : (names seen : List (List ℕ)) → Onward (function_at names seen)
unfolding function_at
function_onward names seen = behind _ _ (one_onward _ (fresh_one names seen)) (λ name. function_body_onward names name)

-- ---- the whole

declared_body_onward : (name : List ℕ) → Onward (declared_body_at name)
unfolding declared_body_at
declared_body_onward name = behind _ _ (one_onward _ text_one) (λ shape. done_onward _)

declared_onward : (names seen : List (List ℕ)) → Onward (declared_at names seen)
unfolding declared_at
declared_onward names seen = behind _ _ (one_onward _ (fresh_one names seen)) (λ name. declared_body_onward name)

list_onward : {S X : Type 0} (item : S → List ℕ → Result (X × List ℕ) ℕ) (next : S → X → S) → ((s : S) → Onward (item s)) → (s : S) → Onward (list_at item next s)
unfolding list_at
list_onward item next laws s = behind _ _ (one_onward _ u32_one) (λ count. items_onward item next laws count s)

parts_onward : (names : List (List ℕ)) → Onward (parts_at names)
unfolding parts_at
parts_onward names =
    behind _ _ (one_onward _ (name_one names)) (λ name. behind _ _ (list_onward (global_at names) next_global (λ seen. global_onward names seen) []) (λ globals.
    behind _ _ (list_onward (declared_at names) next_declared (λ seen. declared_onward names seen) []) (λ declared. behind _ _ here_onward (λ place.
    behind _ _ (list_onward (function_at names) next_function (λ seen. function_onward names seen) (seen_after [] (map (λ g. g.name) globals))) (λ functions. done_onward {X = FlowModule × ℕ} (record { name = name; globals = globals; functions = functions; declared = declared }, place))))))

fields_onward : (names : List (List ℕ)) → Onward (fields_at names (λ m place. None))
unfolding fields_at
fields_onward names = behind _ _ (parts_onward names) (λ p. ended_onward {X = Contents FlowModule} (record { names = names; value = p.0 }))

fields_keep : (names : List (List ℕ)) (rule : FlowModule → ℕ → Option ℕ) → Keeps (fields_at names (λ m place. None)) (fields_at names rule)
unfolding fields_at
fields_keep names rule = keeps_behind (parts_at names) _ _ (λ p. keeps_ended {X = Contents FlowModule} (rule p.0 p.1) (record { names = names; value = p.0 }))

pub faults_stay : FaultsStay kind_of_file flow_version flow_version (λ version. fields_at) (λ bytes. value_of (flow_file_at bytes))
faults_stay = files.faults_stay kind_of_file flow_version flow_version (λ version. fields_at) late_rules (λ version. contents_onward fields_at fields_onward) (λ version. contents_keep fields_at late_rules fields_keep)
