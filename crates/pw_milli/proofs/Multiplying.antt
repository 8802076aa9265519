-- The loop of `$mul`: one digit of the multiplier a turn, of four bits, as long as there are any.
use Rattle.std.proofs.Common.{ℕ, zero, suc, ◌+◌, ◌*◌, ◌/◌, ◌%◌, ◌^◌, ◌<◌, ◌≤◌, ◌≡◌, inl, inr, Bool, true, false, Some, refl, sym, ap, subst, ◌∙◌, arith}
use Rattle.std.specs.Prelude.{◌==◌, if◌then◌else◌}
use Rattle.std.proofs.lemmas.Bool.{cases_eq, eq-eqb, ne_eqb}
use Rattle.std.proofs.lemmas.Nat.{mul-mod_second}
use Rattle.std.proofs.Math.Nat.{add-mul, mul_assoc, zero-mul}
use Rattle.pw_inst.specs.declared.Inst.TheVariants.{Bv}
use Rattle.pw_machine.specs.Run.{State}
use Rattle.pw_inst.specs.Computing.{extracted, deposited}
use Rattle.pw_milli.proofs.Small.{at, small_run, inst_at, scaled}
use Rattle.pw_milli.proofs.Codes.{multiplying}
use Rattle.pw_milli.proofs.Digits.{turns}
use Rattle.pw_milli.proofs.Bridge.{Lies, Reaches, reaches, computed}

-- the multiplicand is taken as often as the digit says, and the other digits take 16 times the multiplicand
digit_step : (acc n y : ℕ) → y < 2 ^ 32 → ((acc + n % 16 * y) % 2 ^ 32 + n / 16 * deposited y 27 28) % 2 ^ 32 ≡ (acc + n * y) % 2 ^ 32
digit_step acc n y lt =
    let h = n / 16 in
    let d = n % 16 in
    let up : deposited y 27 28 ≡ (16 * y) % 2 ^ 32 = omega arith in
    let wraps : (h * deposited y 27 28) % 2 ^ 32 ≡ (h * (16 * y)) % 2 ^ 32 = ap (λ (k : ℕ). (h * k) % 2 ^ 32) up ∙ mul-mod_second h (16 * y) (2 ^ 32) in
    let moved : h * (16 * y) ≡ h * 16 * y = sym (mul_assoc h 16 y) in
    let parts : n ≡ h * 16 + d = omega arith in
    let product : n * y ≡ h * 16 * y + d * y = ap (λ (k : ℕ). k * y) parts ∙ add-mul (h * 16) d y in
    omega (arith, wraps, moved, product)

-- the instructions before the branch to the digit's entry
looks : (f : ℕ → ℕ) → (g : ℕ → ℕ) × (small_run multiplying 2 (at 134 f) ≡ Some (at 136 g)) × (g 26 ≡ f 26) × (g 25 ≡ f 25) × (g 22 ≡ f 22) × (g 29 ≡ f 29) × (g 1 ≡ (deposited (f 26) 26 4 + f 22) % 2 ^ 32)
looks f = (_, refl, refl, refl, refl, refl, refl)

-- the run comes to a return within so many steps, with a sum in register 29
pub record Finishes (top : ℕ) (s : State) (a m bound total : ℕ) : Type 0 where
  pub steps : ℕ
  pub soon : steps ≤ bound
  pub place : ℕ
  pub last : ℕ → ℕ
  pub reach : Reaches top s a (m + steps) (at place last)
  pub is_return : inst_at multiplying place ≡ Some (Bv 31 true)
  pub inside : place + 1 ≤ 138
  pub sum : last 29 ≡ total % 2 ^ 32

-- after one turn
record OneTurn (top : ℕ) (s : State) (a m : ℕ) (f : ℕ → ℕ) (b : Bool) : Type 0 where
  steps : ℕ
  soon : steps ≤ 11
  place : ℕ
  last : ℕ → ℕ
  reach : Reaches top s a (m + steps) (at (if b then place else 134) last)
  is_return : inst_at multiplying place ≡ Some (Bv 31 true)
  inside : place + 1 ≤ 138
  left : last 26 ≡ f 26 / 16
  table : last 22 ≡ a + 24
  value : (last 29 + last 26 * last 25) % 2 ^ 32 ≡ (f 29 + f 26 * f 25) % 2 ^ 32

value_along : (n acc x y acc' x' y' : ℕ) → y < 2 ^ 32 → acc' ≡ (acc + x % 16 * y) % 2 ^ 32 → x' ≡ x / 16 → y' ≡ deposited y 27 28 → (acc' + x' * y') % 2 ^ 32 ≡ (acc + x * y) % 2 ^ 32
value_along n acc x y acc' x' y' lt e h k = rw (e, h, k) (digit_step acc x y lt)

one_turn : (top : ℕ) (s : State) (a m : ℕ) (f : ℕ → ℕ) (b : Bool) → Lies top multiplying a s.core → (r : Reaches top s a m (at 134 f)) → f 22 ≡ a + 24 → (extracted (f 26) 27 28 == 0) ≡ b → OneTurn top s a m f b
one_turn top s a m f b st r base e =
    let d = f 26 % 16 in
    let x : f 26 < 2 ^ 32 = r.holds.in_range 26 in
    let y : f 25 < 2 ^ 32 = r.holds.in_range 25 in
    let acc : f 29 < 2 ^ 32 = r.holds.in_range 29 in
    let look = looks f in
    let r1 = reaches top 2 s a multiplying st m (at 134 f) (at 136 look.0) r look.1 in
    let entry : look.0 1 ≡ a + 4 * (6 + 8 * d) = let is : look.0 1 ≡ (deposited (f 26) 26 4 + f 22) % 2 ^ 32 = look.6 in omega (arith, is, base, st.stands.within, st.stands.text) in
    let r2 = computed top s a (m + 2) 136 1 (6 + 8 * d) look.0 multiplying st r1 (omega arith) refl entry in
    let turn = turns d look.0 b (omega arith) (ap (λ (n : ℕ). extracted n 27 28 == 0) look.2 ∙ e) (r1.holds.in_range 29) (r1.holds.in_range 25) in
    let soon : turn.steps ≤ 8 = turn.soon in
    let r3 = reaches top turn.steps s a multiplying st (m + 2 + 1) (record { registers = look.0; front = 137; back = 6 + 8 * d; nullify = false }) (at (if b then turn.place else 134) turn.last) r2 turn.runs in
    let count : m + 2 + 1 + turn.steps ≡ m + (3 + turn.steps) = omega arith in
    let left : turn.last 26 ≡ f 26 / 16 = let is : turn.last 26 ≡ extracted (look.0 26) 27 28 = turn.left in let same : look.0 26 ≡ f 26 = look.2 in omega (arith, is, same, x) in
    let up : turn.last 25 ≡ deposited (f 25) 27 28 = turn.raised ∙ ap (λ (n : ℕ). deposited n 27 28) look.3 in
    let sum : turn.last 29 ≡ (f 29 + f 26 % 16 * f 25) % 2 ^ 32 = turn.sum ∙ ap (λ (n : ℕ). (n + d * look.0 25) % 2 ^ 32) look.5 ∙ ap (λ (n : ℕ). (f 29 + d * n) % 2 ^ 32) look.3 in
    record {
      steps = 3 + turn.steps;
      soon = omega arith;
      place = turn.place;
      last = turn.last;
      reach = subst (λ (n : ℕ). Reaches top s a n (at (if b then turn.place else 134) turn.last)) count r3;
      is_return = turn.is_return;
      inside = turn.inside;
      left = left;
      table = turn.table ∙ look.4 ∙ base;
      value = value_along 0 (f 29) (f 26) (f 25) (turn.last 29) (turn.last 26) (turn.last 25) y sum left up;
    }

-- the last turn
last_turn : (top : ℕ) (s : State) (a m : ℕ) (f : ℕ → ℕ) → Lies top multiplying a s.core → Reaches top s a m (at 134 f) → f 22 ≡ a + 24 → f 26 < 2 ^ 32 → f 26 / 16 ≡ 0 → Finishes top s a m 11 (f 29 + f 26 * f 25)
last_turn top s a m f st r base x e =
    let none : extracted (f 26) 27 28 ≡ 0 = omega arith in
    let turn = one_turn top s a m f true st r base (eq-eqb (extracted (f 26) 27 28) 0 none) in
    let over : turn.last 26 * turn.last 25 ≡ 0 = ap (λ (k : ℕ). k * turn.last 25) (turn.left ∙ e) ∙ zero-mul (turn.last 25) in
    let small : turn.last 29 < 2 ^ 32 = turn.reach.holds.in_range 29 in
    record {
      steps = turn.steps;
      soon = turn.soon;
      place = turn.place;
      last = turn.last;
      reach = turn.reach;
      is_return = turn.is_return;
      inside = turn.inside;
      sum = omega (arith, over, small, turn.value);
    }

later : (top : ℕ) (s : State) (a m bound bound' total : ℕ) → bound ≤ bound' → Finishes top s a m bound total → Finishes top s a m bound' total
later top s a m bound bound' total le h =
    let soon : h.steps ≤ bound = h.soon in
    record {
      steps = h.steps;
      soon = omega arith;
      place = h.place;
      last = h.last;
      reach = h.reach;
      is_return = h.is_return;
      inside = h.inside;
      sum = h.sum;
    }

-- a turn, and what comes after it
turn_on : (top : ℕ) (s : State) (a m bound total : ℕ) (f : ℕ → ℕ) (t : OneTurn top s a m f false) → (f 29 + f 26 * f 25) % 2 ^ 32 ≡ total % 2 ^ 32 → Finishes top s a (m + t.steps) bound (t.last 29 + t.last 26 * t.last 25) → Finishes top s a m (11 + bound) total
turn_on top s a m bound total f t e h =
    let soon : h.steps ≤ bound = h.soon in
    let few : t.steps ≤ 11 = t.soon in
    let count : m + t.steps + h.steps ≡ m + (t.steps + h.steps) = omega arith in
    record {
      steps = t.steps + h.steps;
      soon = omega arith;
      place = h.place;
      last = h.last;
      reach = subst (λ (n : ℕ). Reaches top s a n (at h.place h.last)) count h.reach;
      is_return = h.is_return;
      inside = h.inside;
      sum = h.sum ∙ t.value ∙ e;
    }

pub mul_loop : (top : ℕ) (k : ℕ) (s : State) (a m : ℕ) (f : ℕ → ℕ) → Lies top multiplying a s.core → Reaches top s a m (at 134 f) → f 22 ≡ a + 24 → f 26 < 2 ^ 32 → f 26 < scaled k 16 → Finishes top s a m (11 * (k + 1)) (f 29 + f 26 * f 25)
mul_loop top zero s a m f st r base x lt = last_turn top s a m f st r base x (omega arith)
mul_loop top (suc k) s a m f st r base x lt =
    elim (cases_eq (f 26 / 16) 0) as (λ c. Finishes top s a m (11 * (suc k + 1)) (f 29 + f 26 * f 25)) [
      | inl e ↦ later top s a m 11 (11 * (suc k + 1)) (f 29 + f 26 * f 25) (omega arith) (last_turn top s a m f st r base x e)
      | inr ne ↦
          let some : extracted (f 26) 27 28 ≡ 0 → ⊥ = λ e. ne (omega arith) in
          let t = one_turn top s a m f false st r base (ne_eqb (extracted (f 26) 27 28) 0 some) in
          let left : t.last 26 ≡ f 26 / 16 = t.left in
          later top s a m (11 + 11 * (k + 1)) (11 * (suc k + 1)) (f 29 + f 26 * f 25) (omega arith)
          (turn_on top s a m (11 * (k + 1)) (f 29 + f 26 * f 25) f t refl
          (mul_loop top k s a (m + t.steps) t.last st t.reach t.table (omega arith) (omega arith)))
    ]
