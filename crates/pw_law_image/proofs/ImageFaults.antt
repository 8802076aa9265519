-- A fault of an image's fields rests on the bytes up to the faulty field's end.
use Rattle.std.proofs.Common.{◌≡◌, ℕ, List, length, Result, Ok, Err, ap}
use Rattle.pw_fields.specs.Fields.{u32_at, text_at, repeated}
use Rattle.pw_fields.specs.FieldNames.{names_at, first_unused}
use Rattle.pw_files.specs.Contents.{value_of}
use Rattle.pw_files.specs.Faults.{OfPayload, StaysFault}
use Rattle.pw_files.proofs.OnwardLaws.{Onward, one_onward, behind, done_onward, ended_onward, checked_one, u32_one, text_one, name_one, names_onward, items_onward, repeated_onward}
use Rattle.pw_files.proofs.FaultLaws.{Keeps, keeps_behind, keeps_ended, lies_within, fault_stays}
use Rattle.pw_image.specs.declared.image.DataItem.{DataItem}
use Rattle.pw_image.specs.declared.image.Memory.{Memory}
use Rattle.pw_image.specs.declared.image.Image.{Image}
use Rattle.pw_image.specs.Image.{Contents, names_of, kind, image_version}
use Rattle.pw_image.specs.Reading.{item_at, next_free, memory_at, function_at, global_at, contents_at, payload_at, image_at, image_file_at}
use Rattle.pw_law_image.proofs.Entries.{entry_fault, entry_fault_again, stays_later}
use Rattle.pw_law_image.specs.ImageFaults.{fields_at, HasEntry, ImageFaultsStay}

item_onward : (size free : ℕ) → Onward (item_at size free)
unfolding item_at
item_onward size free = behind _ _ (one_onward _ (checked_one _ u32_at u32_one)) (λ offset. behind _ _ (one_onward _ (checked_one _ text_at text_one)) (λ bytes. done_onward {X = DataItem} (record { offset = offset; bytes = bytes })))

memory_onward : Onward memory_at
unfolding memory_at
memory_onward =
    behind _ _ (one_onward _ u32_one) (λ entry. behind _ _ (one_onward _ u32_one) (λ stack. behind _ _ (one_onward _ (checked_one _ u32_at u32_one)) (λ stack_end. behind _ _ (one_onward _ (checked_one _ u32_at u32_one)) (λ count.
    behind _ _ (repeated_onward u32_at (one_onward _ u32_one) count) (λ words. behind _ _ (one_onward _ (checked_one _ u32_at u32_one)) (λ data_size. behind _ _ (one_onward _ u32_one) (λ item_count.
    behind _ _ (items_onward (item_at data_size) next_free (λ free. item_onward data_size free) item_count 0) (λ items.
    done_onward {X = Memory} (record { entry = entry; stack = stack; stack_end = stack_end; words = words; data_size = data_size; items = items })))))))))

function_onward : (names : List (List ℕ)) (words : ℕ) → Onward (function_at names words)
unfolding function_at
function_onward names words = behind _ _ (one_onward _ (name_one names)) (λ name. behind _ _ (one_onward _ (checked_one _ u32_at u32_one)) (λ address. behind _ _ (one_onward _ u32_one) (λ frame. done_onward _)))

global_onward : (names : List (List ℕ)) → Onward (global_at names)
unfolding global_at
global_onward names = behind _ _ (one_onward _ (name_one names)) (λ name. behind _ _ (one_onward _ u32_one) (λ address. done_onward _))

fields_onward : Onward fields_at
unfolding fields_at
fields_onward =
    behind _ _ memory_onward (λ memory. behind _ _ names_onward (λ names. behind _ _ (one_onward _ u32_one) (λ function_count.
    behind _ _ (repeated_onward (function_at names (length memory.words)) (function_onward names (length memory.words)) function_count) (λ functions. behind _ _ (one_onward _ u32_one) (λ global_count.
    behind _ _ (repeated_onward (global_at names) (global_onward names) global_count) (λ globals. ended_onward _))))))

at_once : {X : Type 0} (one : List ℕ → Result (X × List ℕ) ℕ) (two : ℕ → List ℕ → Result (X × List ℕ) ℕ) → ((n : ℕ) → Keeps one (two n)) → Keeps one (λ bytes. two (length bytes) bytes)
at_once one two keeps = record { same = λ bytes left e. (keeps (length bytes)).same bytes left e }

fields_keep : Keeps fields_at contents_at
unfolding fields_at contents_at
fields_keep =
    keeps_behind memory_at _ _ (λ memory. keeps_behind names_at _ _ (λ names. at_once _ _ (λ behind.
    keeps_behind u32_at _ _ (λ function_count. keeps_behind (repeated (function_at names (length memory.words)) function_count) _ _ (λ functions. keeps_behind u32_at _ _ (λ global_count.
    keeps_behind (repeated (global_at names) global_count) _ _ (λ globals.
    keeps_ended (first_unused names (names_of (record { memory = memory; functions = functions; globals = globals })) behind) _)))))))

payload_keeps : (payload : List ℕ) (left : ℕ) → HasEntry payload → fields_at payload ≡ Err left → payload_at payload ≡ Err left
unfolding payload_at
payload_keeps payload left entry e = rw entry (fields_keep.same payload left e)

image_fault : (r : Result (Contents Image) ℕ) (at : ℕ) → value_of r ≡ Err at → r ≡ Err at
image_fault (Ok c) at e = absurd cc
image_fault (Err d) at e = cc

still : (bytes : List ℕ) (at : ℕ) → StaysFault (OfPayload kind image_version image_version HasEntry) image_file_at bytes at → StaysFault (OfPayload kind image_version image_version HasEntry) image_at bytes at
still bytes at f = record { count = f.count; field = f.field; same = λ others len same holds. ap value_of (f.same others len same holds) }

pub faults_stay : ImageFaultsStay
unfolding image_file_at
faults_stay = record {
  within = λ bytes at e. lies_within kind image_version image_version (λ version. fields_at) (λ version. payload_at) HasEntry (λ version. fields_onward) (λ version. payload_keeps) bytes at (image_fault (image_file_at bytes) at e);
  stays = λ bytes at e holds.
      let both = fault_stays kind image_version image_version (λ version. fields_at) (λ version. payload_at) HasEntry (λ version. fields_onward) (λ version. payload_keeps) bytes at e holds in
      (ap value_of both.0, still bytes at both.1);
  later = λ bytes at late e holds.
      let both = fault_stays kind image_version image_version (λ version. fields_at) (λ version. payload_at) HasEntry (λ version. fields_onward) (λ version. payload_keeps) bytes at e holds in
      stays_later bytes at late holds (still bytes at both.1);
  entry = λ bytes lacks. (
    ap value_of (entry_fault bytes lacks.0 lacks.1 lacks.2),
    λ others len same. ap value_of (entry_fault_again bytes others lacks.0 lacks.1 lacks.2 len same),
  );
}
