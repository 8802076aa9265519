-- A fault of a database's fields rests on the bytes up to the faulty field's end.
use Rattle.std.proofs.Common.{ℕ, Bool, true, false, List, [], length}
use Rattle.std.specs.Prelude.{Option, None, ◌==◌, if◌then◌else◌}
use Rattle.pw_fields.specs.Fields.{u8_at, u32_at, flag_at}
use Rattle.pw_fields.specs.FieldFrame.{here, placed}
use Rattle.pw_fields.specs.FieldNames.{name_at}
use Rattle.pw_value.specs.declared.program_names.StartName.TheVariants.{Allowed}
use Rattle.pw_files.specs.Contents.{Contents, value_of}
use Rattle.pw_files.specs.Faults.{FaultsStay, PayloadFaultsStay}
use Rattle.pw_files.specs.Kinds.{scalar_at}
use Rattle.pw_files.proofs.OnwardLaws.{Onward, one_onward, behind, done_onward, here_onward, ended_onward, checked_one, mapped_one, u8_one, u32_one, choice_one, flag_one, scalar_one, name_one, items_onward, name_above_one}
use Rattle.pw_files.proofs.FaultLaws.{Keeps, keeps_behind, keeps_ended, contents_onward, contents_keep}
use Rattle.pw_files.proofs.FaultLaws as files
use Rattle.pw_db.specs.declared.database.Web.{Web}
use Rattle.pw_db.specs.declared.database.Directives.{Directives}
use Rattle.pw_db.specs.declared.database.Database.{Database}
use Rattle.pw_db.specs.Limits.{first_register}
use Rattle.pw_db.specs.Database.{kind, first_version, database_version, of_version}
use Rattle.pw_db_sharing.specs.Reading.{kept_at, next_least, registers_at, no_sharing_at, all_sharing_at}
use Rattle.pw_db_file.specs.Reading.{number_at, global_at, kind_at, register_at, writes_at, role_at, web_at, next_web, webs_at, Before, function_at, next_function, nothing_before, functions_at, unused_rule, fields_at, payload_at, database_file_at}

web_onward : (names : List (List ℕ)) (seen own : List Web) → Onward (web_at names seen own)
unfolding web_at number_at global_at kind_at register_at writes_at role_at
web_onward names seen own =
    behind _ _ (one_onward _ (checked_one _ u32_at u32_one)) (λ id. behind _ _ (one_onward _ (checked_one _ (name_at names) (name_one names))) (λ global. behind _ _ (one_onward _ (checked_one _ scalar_at scalar_one)) (λ kind.
    behind _ _ (one_onward _ (checked_one _ u8_at u8_one)) (λ reg. behind _ _ (one_onward _ (checked_one _ flag_at flag_one)) (λ writes. behind _ _ (one_onward _ (mapped_one _ _ (choice_one 2))) (λ role. done_onward _))))))

webs_onward : (names : List (List ℕ)) (seen : List Web) (count : ℕ) → Onward (webs_at names seen count)
webs_onward names seen count = items_onward _ next_web (λ own. web_onward names _ own) count []

kept_onward : (others : List ℕ) (least : ℕ) → Onward (kept_at others least)
unfolding kept_at
kept_onward others least = one_onward _ (checked_one _ u8_at u8_one)

registers_onward : (others : List ℕ) → Onward (registers_at others)
unfolding registers_at
registers_onward others = behind _ _ (one_onward _ u32_one) (λ count. behind _ _ (items_onward (kept_at others) next_least (kept_onward others) count first_register) (λ registers. done_onward _))

sharing_by : (b : Bool) → Onward (if b then no_sharing_at else all_sharing_at)
unfolding no_sharing_at all_sharing_at
sharing_by true = behind _ _ (one_onward _ (checked_one _ u32_at u32_one)) (λ count. done_onward _)
sharing_by false = behind _ _ (registers_onward []) (λ free. behind _ _ (registers_onward free) (λ saves. done_onward _))

function_onward : (version : ℕ) (names : List (List ℕ)) (before : Before) → Onward (function_at version names before)
unfolding function_at
function_onward version names before =
    behind _ _ (one_onward _ (name_above_one names Allowed before.name)) (λ name. behind _ _ (one_onward _ u32_one) (λ count. behind _ _ (webs_onward names before.webs count) (λ webs.
    behind _ _ (sharing_by (version == first_version)) (λ shared. done_onward _))))

functions_onward : (version : ℕ) (names : List (List ℕ)) → Onward (functions_at version names)
unfolding functions_at
functions_onward version names = behind _ _ (one_onward _ u32_one) (λ count. behind _ _ (items_onward (function_at version names) next_function (function_onward version names) count nothing_before) (λ functions. done_onward _))

abbrev contents : ℕ → List (List ℕ) → List (List ℕ × Directives) → Contents Database
contents version names functions = record { names = names; value = of_version version functions }

fields_onward : (version : ℕ) (names : List (List ℕ)) → Onward (fields_at version names (λ db count. None))
unfolding fields_at
fields_onward version names = behind _ _ here_onward (λ count. behind _ _ (functions_onward version names) (λ functions. ended_onward (contents version names functions)))

fields_keep : (version : ℕ) (names : List (List ℕ)) (rule : Database → ℕ → Option ℕ) → Keeps (fields_at version names (λ db count. None)) (fields_at version names rule)
unfolding fields_at
fields_keep version names rule = keeps_behind here _ _ (λ count. keeps_behind (functions_at version names) _ _ (λ functions. keeps_ended (rule (of_version version functions) count) (contents version names functions)))

pub faults_stay : FaultsStay kind first_version database_version fields_at (λ bytes. value_of (database_file_at bytes))
faults_stay = files.faults_stay kind first_version database_version fields_at unused_rule (λ version. contents_onward (fields_at version) (fields_onward version)) (λ version. contents_keep (fields_at version) unused_rule (fields_keep version))

pub payload_faults_stay : PayloadFaultsStay (fields_at database_version) (λ bytes. value_of (placed (length bytes) (payload_at bytes)))
payload_faults_stay = files.payload_faults_stay (fields_at database_version) unused_rule (contents_onward (fields_at database_version) (fields_onward database_version)) (contents_keep (fields_at database_version) unused_rule (fields_keep database_version))
