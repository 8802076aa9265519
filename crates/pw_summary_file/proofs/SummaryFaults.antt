-- A fault of a summary's fields rests on the bytes up to the faulty field's end.
use Rattle.std.proofs.Common.{ℕ, Bool, true, false, List, length}
use Rattle.std.specs.Prelude.{Option, None, ◌==◌, if◌then◌else◌}
use Rattle.pw_fields.specs.Fields.{done, u8_at, u64_at}
use Rattle.pw_value.specs.declared.program_names.StartName.TheVariants.{Allowed, Refused}
use Rattle.pw_fields.specs.FieldNames.{name_at}
use Rattle.pw_files.specs.Contents.{Contents, value_of}
use Rattle.pw_files.specs.Faults.{FaultsStay}
use Rattle.pw_files.proofs.OnwardLaws.{Onward, one_onward, behind, done_onward, here_onward, ended_onward, checked_one, u8_one, u64_one, text_one, flag_one, kind_one, name_one, repeated_onward, rising_onward, name_above_one, name_list_onward, text_list_onward, shaped_list_onward}
use Rattle.pw_files.proofs.FaultLaws.{Keeps, keeps_behind, keeps_ended, contents_onward, contents_keep}
use Rattle.pw_files.proofs.FaultLaws as files
use Rattle.pw_summary.specs.declared.summary.Defined.{Defined}
use Rattle.pw_summary.specs.declared.summary.Used.{Used}
use Rattle.pw_summary.specs.declared.summary.Summary.{Summary}
use Rattle.pw_summary.specs.Summary.{whole_summary, kind, first_version, summary_version}
use Rattle.pw_summary_parts.specs.Reading.{global_at, weight_at, reference_at, some_need_at, uses_at}
use Rattle.pw_summary_file.specs.Reading.{defined_at, used_at, last_rules, fields_at, summary_file_at}

global_onward : (names : List (List ℕ)) (before : Option (List ℕ)) → Onward (global_at names before)
unfolding global_at
global_onward names before = behind _ _ (one_onward _ (name_above_one names Allowed before)) (λ name. behind _ _ (one_onward _ text_one) (λ shape. behind _ _ (one_onward _ kind_one) (λ kind. behind _ _ (one_onward _ flag_one) (λ volatile. done_onward _))))

weight_onward : Onward weight_at
unfolding weight_at
weight_onward = one_onward _ (checked_one _ u64_at u64_one)

reference_onward : (names : List (List ℕ)) (before : Option (List ℕ)) → Onward (reference_at names before)
unfolding reference_at
reference_onward names before = behind _ _ (one_onward _ (name_above_one names Allowed before)) (λ name. behind _ _ weight_onward (λ reads. behind _ _ weight_onward (λ writes. done_onward _)))

need_by : (b : Bool) → Onward (if b then done 0 else some_need_at)
unfolding some_need_at
need_by true = done_onward 0
need_by false = one_onward _ (checked_one _ u8_at u8_one)

uses_onward : (version : ℕ) (names : List (List ℕ)) → Onward (uses_at version names)
unfolding uses_at
uses_onward version names = behind _ _ (name_list_onward names Refused) (λ calls. behind _ _ text_list_onward (λ shapes. behind _ _ (rising_onward _ _ (reference_onward names)) (λ refs. behind _ _ (need_by (version == first_version)) (λ need. done_onward _))))

defined_onward : (names : List (List ℕ)) → Onward (defined_at names)
unfolding defined_at
defined_onward names =
    behind _ _ (rising_onward _ _ (global_onward names)) (λ globals. behind _ _ here_onward (λ count. behind _ _ (shaped_list_onward names Allowed) (λ functions.
    behind _ _ (shaped_list_onward names Allowed) (λ declared. done_onward (record { globals = globals; functions = functions; declared = declared }, count)))))

used_onward : (version : ℕ) (names : List (List ℕ)) (functions : ℕ) → Onward (used_at version names functions)
unfolding used_at
used_onward version names functions =
    behind _ _ (name_list_onward names Allowed) (λ used. behind _ _ (shaped_list_onward names Refused) (λ taken. behind _ _ (name_list_onward names Allowed) (λ escaped.
    behind _ _ (repeated_onward _ (uses_onward version names) functions) (λ uses. done_onward _))))

abbrev contents : ℕ → List (List ℕ) → List ℕ → Defined → Used → Contents Summary
contents version names name d u = record { names = names; value = whole_summary version name d u }

fields_onward : (version : ℕ) (names : List (List ℕ)) → Onward (fields_at version names (λ s count. None))
unfolding fields_at
fields_onward version names =
    behind _ _ (one_onward _ (name_one names)) (λ name. behind _ _ (defined_onward names) (λ d. behind _ _ (used_onward version names (length d.0.functions)) (λ u. ended_onward (contents version names name d.0 u))))

fields_keep : (version : ℕ) (names : List (List ℕ)) (rule : Summary → ℕ → Option ℕ) → Keeps (fields_at version names (λ s count. None)) (fields_at version names rule)
unfolding fields_at
fields_keep version names rule =
    keeps_behind (name_at names) _ _ (λ name. keeps_behind (defined_at names) _ _ (λ d. keeps_behind (used_at version names (length d.0.functions)) _ _ (λ u.
    keeps_ended (rule (whole_summary version name d.0 u) d.1) (contents version names name d.0 u))))

pub faults_stay : FaultsStay kind first_version summary_version fields_at (λ bytes. value_of (summary_file_at bytes))
faults_stay = files.faults_stay kind first_version summary_version fields_at last_rules (λ version. contents_onward (fields_at version) (fields_onward version)) (λ version. contents_keep (fields_at version) last_rules (fields_keep version))
