-- What routines leave, as a function of the registers at their first word: by a state of the machine that has these
-- registers, and nothing else of the run.
use Rattle.std.specs.Prelude.{ℕ, zero, suc, ◌≡◌, ◌+◌, ◌%◌, ◌^◌, ◌<◌, ◌⊎◌, ◌==◌, if◌then◌else◌, false, None, List, [], map, length, slice_index}
use Rattle.std.specs.List.{range_with_len}
use Rattle.std.proofs.Common.{arith, sym, ap, subst, refl, ◌∙◌, inl, inr}
use Rattle.std.proofs.lemmas.Bool.{cases_eq, cases_lt, ne_eqb}
use Rattle.std.proofs.lemmas.List.{ext_get_or, get_or_past}
use Rattle.std.proofs.lemmas.List.FromFn.{get_or-map-range_with_len, length-map-range_with_len}
use Rattle.pw_machine.specs.Core.{register}
use Rattle.pw_machine.specs.Run.{State}
use Rattle.pw_milli.specs.Calls.{StandsAt, Enters}
use Rattle.pw_law_link_run.specs.Leaving.{Leaves}
use Rattle.pw_law_link_run.specs.Steps.{Setting}
use Rattle.pw_law_link_run.proofs.Leaving.{leaves_alike}
use Rattle.pw_law_link_run.specs.Routines.{Makes, HasRoutine, HasRoutines, LeavesSo, LeaveSo}

-- ---- a state that has these registers

abbrev listed : (ℕ → ℕ) → List ℕ
listed f = map (λ r. f r % 2 ^ 32) (range_with_len 0 32)

abbrev entered : Setting → ℕ → (ℕ → ℕ) → State
entered x address f = record {
  core = record x.start.core { registers = listed f; front = address; back = address + 4; nullify = false; stopped = None };
  rest = [];
  output = [];
}

listed_small : (f : ℕ → ℕ) (r : ℕ) → slice_index (listed f) r < 2 ^ 32
listed_small f r = elim (cases_lt r 32) as (λ c. slice_index (listed f) r < 2 ^ 32) [
  | inl lt ↦ let is : slice_index (listed f) r ≡ f r % 2 ^ 32 = get_or-map-range_with_len (λ r. f r % 2 ^ 32) 0 32 r r 0 lt (omega arith) in omega (arith, is)
  | inr past ↦
      let count : length (listed f) ≡ 32 = length-map-range_with_len (λ r. f r % 2 ^ 32) 0 32 in
      let is : slice_index (listed f) r ≡ 0 = get_or_past (listed f) r 0 (omega (arith, count, past)) in
      omega (arith, is)
]

enters_entered : (x : Setting) (words : List ℕ) (address : ℕ) (f : ℕ → ℕ) → StandsAt words address x.start.core → Enters words address (entered x address f)
enters_entered x words address f h = record {
  stands = record { aligned = h.aligned; above = h.above; within = h.within; text = h.text; each = h.each };
  front = refl;
  back = refl;
  nullify = refl;
  stopped = refl;
  registers = record { count = length-map-range_with_len (λ r. f r % 2 ^ 32) 0 32; words = listed_small f };
}

-- ---- it has the registers of every other one

reads_all : (g : List ℕ) (i : ℕ) → slice_index g 0 ≡ 0 → (i ≡ 0) ⊎ (i ≡ 0 → ⊥) → (if i == 0 then 0 else slice_index g i) ≡ slice_index g i
reads_all g i none (inl e) = subst (λ k. (if k == 0 then 0 else slice_index g k) ≡ slice_index g k) (sym e) (sym none)
reads_all g i none (inr ne) = ap (λ b. if b then 0 else slice_index g i) (ne_eqb i 0 ne)

same_registers : (words : List ℕ) (address : ℕ) (s : State) → Enters words address s → (f : ℕ → ℕ) → ((r : ℕ) → f r ≡ register s.core r) → slice_index s.core.registers 0 ≡ 0
    → listed f ≡ s.core.registers
same_registers words address s e f is none =
    let count : length (listed f) ≡ 32 = length-map-range_with_len (λ r. f r % 2 ^ 32) 0 32 in
    ext_get_or 0 (listed f) s.core.registers (count ∙ sym e.registers.count)
    (λ i lt.
    let one : slice_index (listed f) i ≡ f i % 2 ^ 32 = get_or-map-range_with_len (λ r. f r % 2 ^ 32) 0 32 i i 0 (omega (arith, lt, count)) (omega arith) in
    let two : f i ≡ slice_index s.core.registers i = is i ∙ reads_all s.core.registers i none (cases_eq i 0) in
    let small = e.registers.words i in
    omega (arith, one, two, small))

-- ---- what is left

leaves : (words : List ℕ) (address : ℕ) (s : State) (j : ℕ) → Makes words address s j → Leaves words address s
leaves words address s j d = record { steps = d.steps; registers = d.registers; runs = d.runs; inside = d.inside }

left_by : (x : Setting) (j : ℕ) → HasRoutine x j → (ℕ → ℕ) → ℕ → ℕ
left_by x j h f r =
    let address = x.addresses.routine j in
    slice_index (h.makes (entered x address f) (enters_entered x h.words address f h.stands)).registers r

leaves_so : (x : Setting) (j : ℕ) (h : HasRoutine x j) → LeavesSo x j h (left_by x j h)
unfolding left_by leaves
leaves_so x j h f s e is none low r =
    let address = x.addresses.routine j in
    let t = entered x address f in
    let g = enters_entered x h.words address f h.stands in
    let same = same_registers h.words address s e f is none in
    let link : register t.core 31 ≡ register s.core 31 = ap (λ (l : List ℕ). slice_index l 31) same in
    ap (λ (l : List ℕ). slice_index l r)
    (leaves_alike h.words address t s (leaves h.words address t j (h.makes t g)) (leaves h.words address s j (h.makes s e)) h.by_registers g e same (omega (arith, link, low)))

-- by the number of the routine
left_words : (x : Setting) → HasRoutines x → ℕ → (ℕ → ℕ) → ℕ → ℕ
left_words x has zero = left_by x 0 has.divs
left_words x has (suc zero) = left_by x 1 has.divu
left_words x has (suc (suc zero)) = left_by x 2 has.mul
left_words x has (suc (suc (suc zero))) = left_by x 3 has.rems
left_words x has (suc (suc (suc (suc zero)))) = left_by x 4 has.remu
left_words x has (suc (suc (suc (suc (suc j))))) = λ f r. 0

pub some_left : (x : Setting) (has : HasRoutines x) → (scratch : ℕ → (ℕ → ℕ) → ℕ → ℕ) × LeaveSo x has scratch
unfolding left_words left_by
some_left x has = (
  left_words x has,
  record {
    divs = leaves_so x 0 has.divs;
    divu = leaves_so x 1 has.divu;
    mul = leaves_so x 2 has.mul;
    rems = leaves_so x 3 has.rems;
    remu = leaves_so x 4 has.remu;
  },
)
