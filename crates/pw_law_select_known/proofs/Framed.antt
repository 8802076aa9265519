-- Frames where a function is entered.
use Rattle.std.proofs.Common.{◌≡◌, ℕ, ◌+◌, ◌≤◌, Bool, true, List, [], ◌∷◌, length, map, replicate, subst, sym, arith}
use Rattle.std.specs.Prelude.{Option, slice_index_or}
use Rattle.std.specs.List.{AllByRecursion}
use Rattle.std.proofs.lemmas.List.{length-append, length-map}
use Rattle.pw_value.specs.declared.value.Value.{Value}
use Rattle.pw_value.specs.declared.value.Value.TheVariants.{Undefined}
use Rattle.pw_value.specs.declared.value.Byte.TheVariants as B
use Rattle.pw_value.specs.Objects.{Object, no_object, object_at, with_object}
use Rattle.pw_webflow.specs.declared.web.WebBlock.{WebBlock}
use Rattle.pw_alloc.specs.declared.located.Located.{Located}
use Rattle.pw_run_languages.specs.Programs.{Program, globals_of, object_of, start_objects}
use Rattle.pw_run_languages.specs.LawfulPrograms.{IsProgram}
use Rattle.pw_run_languages.specs.FlowRun.{with_slots}
use Rattle.pw_run_languages.specs.PlacedRun.{Frame, Machine, entered}
use Rattle.pw_law_select_states.specs.Pointers.{ValueIsKnown, ByteIsKnown, FrameIsKnown, AreKnown}
use Rattle.pw_law_select_known.proofs.Lists.{read_each, replicate_each, map_each}
use Rattle.pw_law_select_known.proofs.Values.{KnownObject, each_later, value_later}
use Rattle.pw_law_select_known.proofs.Starting.{start_known}
use Rattle.pw_law_select_known.specs.Laws.{EnteredFramesAreKnown, StartBytesAreKnown}

slots_count : (slots : List ℕ) (objects : List Object) → length (with_slots slots objects) ≡ length objects + length slots
slots_count [] objects = omega arith
slots_count (size ∷ rest) objects =
    let new : Object = record { bytes = replicate size B.Undefined; live = true; writable = true } in
    omega (arith, slots_count rest (with_object new objects), length-append objects (new ∷ []))

frame_later : (p : Program) (count more : ℕ) → count ≤ more → (f : Frame) → FrameIsKnown p count f → FrameIsKnown p more f
frame_later p count more le f h =
    let few = h.slots in
    record {
      temps = λ t. value_later p count more le (slice_index_or f.temps t Undefined) (h.temps t);
      saved = each_later (λ (s : ℕ × Value). ValueIsKnown p count s.1) (λ (s : ℕ × Value). ValueIsKnown p more s.1) (λ s k. value_later p count more le s.1 k) f.saved h.saved;
      slots = omega (arith, le, few);
    }

pub entered_frames_are_known : EnteredFramesAreKnown
entered_frames_are_known p f b t m known =
    let count = length m.objects in
    let more = length (with_slots f.body.slots m.objects) in
    let size : more ≡ count + length f.body.slots = slots_count f.body.slots m.objects in
    let le : count ≤ more = omega (arith, size) in (
      record {
        temps = λ t. read_each (ValueIsKnown p more) (replicate f.body.temps Undefined) t Undefined (replicate_each (ValueIsKnown p more) f.body.temps Undefined tt) tt;
        saved = map_each (λ (s : ℕ × Value). ValueIsKnown p more s.1) (λ r. (r, m.registers r)) (λ r. value_later p count more le (m.registers r) (known.registers r)) f.saved;
        slots = omega (arith, size);
      },
      (frame_later p count more le m.frame known.frame, each_later (FrameIsKnown p count) (FrameIsKnown p more) (frame_later p count more le) m.callers known.callers),
    )

pub start_bytes_are_known : StartBytesAreKnown
start_bytes_are_known p ok o i =
    let count = length (start_objects p) in
    let globals = length-map (globals_of p) (object_of p) in
    let low : length (globals_of p) ≤ count = omega (arith, globals) in
    read_each (ByteIsKnown p count) (object_at (start_objects p) o).bytes i B.Undefined (read_each (KnownObject p count) (start_objects p) o no_object (start_known p count ok low) tt) tt
