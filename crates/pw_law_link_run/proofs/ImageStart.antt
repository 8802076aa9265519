-- The state in which an image's program begins is the lines' start, where its data are.
use Rattle.std.specs.Prelude.{ℕ, zero, suc, ◌≡◌, ◌+◌, ◌%◌, ◌^◌, ◌<◌, ◌⊎◌, ◌==◌, Bool, true, false, if◌then◌else◌, Some, None, List, replicate, slice_index, slice_set}
use Rattle.std.proofs.Common.{subst, sym, ap, refl, ◌∙◌, inl, inr, get_or-set_other}
use Rattle.std.proofs.lemmas.Bool.{cases_eq}
use Rattle.pw_value.specs.ProgramNames.{start_name}
use Rattle.pw_image.specs.declared.image.Memory.{Memory}
use Rattle.pw_machine.specs.Core.{Core}
use Rattle.pw_machine.specs.Start.{data_start_of, stack_start_of, start_memory, image_start}
use Rattle.pw_machine.specs.Start as machine
use Rattle.pw_machine.specs.Run.{State}
use Rattle.pw_run_languages.specs.Acts.{put}
use Rattle.pw_run_languages.specs.LineRun.{LineFn, function_named, start_core}
use Rattle.pw_run_languages.specs.MachineRun.{start_state}
use Rattle.pw_law_link_run.specs.Showing.{Shows}
use Rattle.pw_law_link_run.specs.Steps.{Setting}
use Rattle.pw_law_link_run.specs.Placing.{own_address}
use Rattle.pw_law_link_run.specs.Starting.{IsStart, HasData}
use Rattle.pw_law_link_run.proofs.Words.{put_same, put_other}

all_zero : (n r : ℕ) → slice_index (replicate n 0) r ≡ 0
all_zero zero r = refl
all_zero (suc n) zero = refl
all_zero (suc n) (suc r) = all_zero n r

either_zero : (b : Bool) (v : ℕ) → v ≡ 0 → 0 ≡ (if b then 0 else v)
either_zero true v e = refl
either_zero false v e = sym e

registers_by : (base r : ℕ) → (r ≡ 30) ⊎ (r ≡ 30 → ⊥)
    → put 30 base (λ r. 0) r ≡ (if r == 0 then 0 else slice_index (slice_set (replicate 32 0) 30 base) r)
registers_by base r (inl e) =
    put_same (λ r. 0) 30 base r e
    ∙ subst (λ r. base ≡ (if r == 0 then 0 else slice_index (slice_set (replicate 32 0) 30 base) r)) (sym e) refl
registers_by base r (inr ne) =
    put_other (λ r. 0) 30 base r ne
    ∙ either_zero (r == 0) (slice_index (slice_set (replicate 32 0) 30 base) r) (get_or-set_other (replicate 32 0) 30 r base 0 ne ∙ all_zero 32 r)

image_shows : (x : Setting) (m : Memory) → x.addresses.base ≡ stack_start_of m.words m.data_size → HasData x m
    → Shows (start_core x.program x.addresses) (image_start m)
unfolding machine.start_core
image_shows x m base h = record {
  registers = λ r. subst (λ b. put 30 b (λ r. 0) r ≡ (if r == 0 then 0 else slice_index (slice_set (replicate 32 0) 30 (stack_start_of m.words m.data_size)) r)) (sym base)
      (registers_by (stack_start_of m.words m.data_size) r (cases_eq r 30));
  memory = h;
  shift = refl;
  skip = refl;
}

image_parts : (m : Memory) → ((image_start m).front ≡ m.entry) × ((image_start m).back ≡ (m.entry + 4) % 2 ^ 32) × ((image_start m).stopped ≡ None)
unfolding machine.start_core
image_parts m = (refl, refl, refl)

pub image_starts : (x : Setting) (m : Memory) (f : LineFn) (input : List ℕ) → x.start ≡ start_state (image_start m) input
    → function_named x.program start_name ≡ Some f → m.entry ≡ own_address x f → x.addresses.base ≡ stack_start_of m.words m.data_size
    → x.addresses.base < 2 ^ 32 → HasData x m → IsStart x f input
image_starts x m f input start named entry base small h =
    let core : x.start.core ≡ image_start m = ap (λ (s : State). s.core) start in
    let parts = image_parts m in
    record {
      named = named;
      base = small;
      shows = subst (λ core. Shows (start_core x.program x.addresses) core) (sym core) (image_shows x m base h);
      front = ap (λ (c : Core). c.front) core ∙ (parts.0 ∙ entry);
      back = ap (λ (c : Core). c.back) core ∙ (parts.1 ∙ ap (λ (e : ℕ). (e + 4) % 2 ^ 32) entry);
      stopped = ap (λ (c : Core). c.stopped) core ∙ parts.2;
      rest = ap (λ (s : State). s.rest) start;
      output = ap (λ (s : State). s.output) start;
    }
