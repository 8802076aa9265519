-- One turn of `$mul`: what is added for each digit of the multiplier.
use Rattle.std.proofs.Common.{ℕ, zero, suc, ◌+◌, ◌*◌, ◌%◌, ◌^◌, ◌<◌, ◌≤◌, ◌≡◌, Bool, true, false, not, Some, refl, ap, ◌∙◌, arith}
use Rattle.std.specs.Prelude.{◌==◌, if◌then◌else◌}
use Rattle.pw_inst.specs.declared.Inst.TheVariants.{Bv}
use Rattle.pw_value.specs.Words.{unsigned_difference}
use Rattle.pw_inst.specs.Computing.{extracted, deposited}
use Rattle.pw_milli.proofs.Small.{at, small_run, run_on, inst_at}
use Rattle.pw_milli.proofs.Codes.{multiplying}

-- from the branch to the entry of a digit d on: the multiple of register 25 is added to register 29, register 25
-- goes up and register 26 goes down by four bits; where nothing is left in register 26, a return is next
pub record Turn (d : ℕ) (f : ℕ → ℕ) (b : Bool) : Type 0 where
  pub steps : ℕ
  pub soon : steps ≤ 8
  pub place : ℕ
  pub last : ℕ → ℕ
  pub runs : small_run multiplying steps (record { registers = f; front = 137; back = 6 + 8 * d; nullify = false }) ≡ Some (at (if b then place else 134) last)
  pub is_return : inst_at multiplying place ≡ Some (Bv 31 true)
  pub inside : place + 1 ≤ 138
  pub left : last 26 ≡ extracted (f 26) 27 28
  pub raised : last 25 ≡ deposited (f 25) 27 28
  pub table : last 22 ≡ f 22
  pub sum : last 29 ≡ (f 29 + d * f 25) % 2 ^ 32

-- 0: 0 instructions
adds_0 : (f : ℕ → ℕ) → (g : ℕ → ℕ) × (small_run multiplying 1 (record { registers = f; front = 137; back = 6; nullify = false }) ≡ Some (at 6 g)) × (g 26 ≡ extracted (f 26) 27 28) × (g 25 ≡ f 25) × (g 22 ≡ f 22) × (g 29 ≡ f 29)
adds_0 f = (_, refl, refl, refl, refl, refl)

ends_0 : (f : ℕ → ℕ) (b : Bool) → (f 26 == 0) ≡ b → (g : ℕ → ℕ) × (small_run multiplying 2 (at 6 f) ≡ Some (at (if b then 8 else 134) g)) × (g 26 ≡ f 26) × (g 25 ≡ deposited (f 25) 27 28) × (g 22 ≡ f 22) × (g 29 ≡ f 29)
ends_0 f true e = (_, run_on multiplying 1 1 (at 6 f) _ (ap (λ (c : Bool). Some (record { registers = f; front = 7; back = if not c then 134 else 8; nullify = false })) e) ∙ refl, refl, refl, refl, refl)
ends_0 f false e = (_, run_on multiplying 1 1 (at 6 f) _ (ap (λ (c : Bool). Some (record { registers = f; front = 7; back = if not c then 134 else 8; nullify = false })) e) ∙ refl, refl, refl, refl, refl)

value_0 : (f : ℕ → ℕ) → f 29 < 2 ^ 32 → f 25 < 2 ^ 32 → f 29 ≡ (f 29 + 0 * f 25) % 2 ^ 32
value_0 f acc y = omega arith

turn_0 : (f : ℕ → ℕ) (b : Bool) → (extracted (f 26) 27 28 == 0) ≡ b → f 29 < 2 ^ 32 → f 25 < 2 ^ 32 → Turn 0 f b
turn_0 f b e acc y =
    let one = adds_0 f in
    let two = ends_0 one.0 b (ap (λ (n : ℕ). n == 0) one.2 ∙ e) in
    record {
      steps = 1 + 2;
      soon = omega arith;
      place = 8;
      last = two.0;
      runs = run_on multiplying 1 2 (record { registers = f; front = 137; back = 6; nullify = false }) (at 6 one.0) one.1 ∙ two.1;
      is_return = refl;
      inside = omega arith;
      left = two.2 ∙ one.2;
      raised = two.3 ∙ ap (λ (n : ℕ). deposited n 27 28) one.3;
      table = two.4 ∙ one.4;
      sum = two.5 ∙ one.5 ∙ value_0 f acc y;
    }

-- 1: 1 instruction
adds_1 : (f : ℕ → ℕ) → (g : ℕ → ℕ) × (small_run multiplying 2 (record { registers = f; front = 137; back = 14; nullify = false }) ≡ Some (at 15 g)) × (g 26 ≡ extracted (f 26) 27 28) × (g 25 ≡ f 25) × (g 22 ≡ f 22) × (g 29 ≡ ((f 29) + (f 25)) % 2 ^ 32)
adds_1 f = (_, refl, refl, refl, refl, refl)

ends_1 : (f : ℕ → ℕ) (b : Bool) → (f 26 == 0) ≡ b → (g : ℕ → ℕ) × (small_run multiplying 2 (at 15 f) ≡ Some (at (if b then 17 else 134) g)) × (g 26 ≡ f 26) × (g 25 ≡ deposited (f 25) 27 28) × (g 22 ≡ f 22) × (g 29 ≡ f 29)
ends_1 f true e = (_, run_on multiplying 1 1 (at 15 f) _ (ap (λ (c : Bool). Some (record { registers = f; front = 16; back = if not c then 134 else 17; nullify = false })) e) ∙ refl, refl, refl, refl, refl)
ends_1 f false e = (_, run_on multiplying 1 1 (at 15 f) _ (ap (λ (c : Bool). Some (record { registers = f; front = 16; back = if not c then 134 else 17; nullify = false })) e) ∙ refl, refl, refl, refl, refl)

value_1 : (f : ℕ → ℕ) → f 29 < 2 ^ 32 → f 25 < 2 ^ 32 → ((f 29) + (f 25)) % 2 ^ 32 ≡ (f 29 + 1 * f 25) % 2 ^ 32
value_1 f acc y = omega arith

turn_1 : (f : ℕ → ℕ) (b : Bool) → (extracted (f 26) 27 28 == 0) ≡ b → f 29 < 2 ^ 32 → f 25 < 2 ^ 32 → Turn 1 f b
turn_1 f b e acc y =
    let one = adds_1 f in
    let two = ends_1 one.0 b (ap (λ (n : ℕ). n == 0) one.2 ∙ e) in
    record {
      steps = 2 + 2;
      soon = omega arith;
      place = 17;
      last = two.0;
      runs = run_on multiplying 2 2 (record { registers = f; front = 137; back = 14; nullify = false }) (at 15 one.0) one.1 ∙ two.1;
      is_return = refl;
      inside = omega arith;
      left = two.2 ∙ one.2;
      raised = two.3 ∙ ap (λ (n : ℕ). deposited n 27 28) one.3;
      table = two.4 ∙ one.4;
      sum = two.5 ∙ one.5 ∙ value_1 f acc y;
    }

-- 2: 2 instructions
adds_2 : (f : ℕ → ℕ) → (g : ℕ → ℕ) × (small_run multiplying 3 (record { registers = f; front = 137; back = 22; nullify = false }) ≡ Some (at 24 g)) × (g 26 ≡ extracted (f 26) 27 28) × (g 25 ≡ f 25) × (g 22 ≡ f 22) × (g 29 ≡ ((f 29) + (((f 25) + (f 25)) % 2 ^ 32)) % 2 ^ 32)
adds_2 f = (_, refl, refl, refl, refl, refl)

ends_2 : (f : ℕ → ℕ) (b : Bool) → (f 26 == 0) ≡ b → (g : ℕ → ℕ) × (small_run multiplying 2 (at 24 f) ≡ Some (at (if b then 26 else 134) g)) × (g 26 ≡ f 26) × (g 25 ≡ deposited (f 25) 27 28) × (g 22 ≡ f 22) × (g 29 ≡ f 29)
ends_2 f true e = (_, run_on multiplying 1 1 (at 24 f) _ (ap (λ (c : Bool). Some (record { registers = f; front = 25; back = if not c then 134 else 26; nullify = false })) e) ∙ refl, refl, refl, refl, refl)
ends_2 f false e = (_, run_on multiplying 1 1 (at 24 f) _ (ap (λ (c : Bool). Some (record { registers = f; front = 25; back = if not c then 134 else 26; nullify = false })) e) ∙ refl, refl, refl, refl, refl)

value_2 : (f : ℕ → ℕ) → f 29 < 2 ^ 32 → f 25 < 2 ^ 32 → ((f 29) + (((f 25) + (f 25)) % 2 ^ 32)) % 2 ^ 32 ≡ (f 29 + 2 * f 25) % 2 ^ 32
value_2 f acc y = omega arith

turn_2 : (f : ℕ → ℕ) (b : Bool) → (extracted (f 26) 27 28 == 0) ≡ b → f 29 < 2 ^ 32 → f 25 < 2 ^ 32 → Turn 2 f b
turn_2 f b e acc y =
    let one = adds_2 f in
    let two = ends_2 one.0 b (ap (λ (n : ℕ). n == 0) one.2 ∙ e) in
    record {
      steps = 3 + 2;
      soon = omega arith;
      place = 26;
      last = two.0;
      runs = run_on multiplying 3 2 (record { registers = f; front = 137; back = 22; nullify = false }) (at 24 one.0) one.1 ∙ two.1;
      is_return = refl;
      inside = omega arith;
      left = two.2 ∙ one.2;
      raised = two.3 ∙ ap (λ (n : ℕ). deposited n 27 28) one.3;
      table = two.4 ∙ one.4;
      sum = two.5 ∙ one.5 ∙ value_2 f acc y;
    }

-- 3: 3 instructions
adds_3 : (f : ℕ → ℕ) → (g : ℕ → ℕ) × (small_run multiplying 4 (record { registers = f; front = 137; back = 30; nullify = false }) ≡ Some (at 33 g)) × (g 26 ≡ extracted (f 26) 27 28) × (g 25 ≡ f 25) × (g 22 ≡ f 22) × (g 29 ≡ ((((f 29) + (f 25)) % 2 ^ 32) + (((f 25) + (f 25)) % 2 ^ 32)) % 2 ^ 32)
adds_3 f = (_, refl, refl, refl, refl, refl)

ends_3 : (f : ℕ → ℕ) (b : Bool) → (f 26 == 0) ≡ b → (g : ℕ → ℕ) × (small_run multiplying 2 (at 33 f) ≡ Some (at (if b then 35 else 134) g)) × (g 26 ≡ f 26) × (g 25 ≡ deposited (f 25) 27 28) × (g 22 ≡ f 22) × (g 29 ≡ f 29)
ends_3 f true e = (_, run_on multiplying 1 1 (at 33 f) _ (ap (λ (c : Bool). Some (record { registers = f; front = 34; back = if not c then 134 else 35; nullify = false })) e) ∙ refl, refl, refl, refl, refl)
ends_3 f false e = (_, run_on multiplying 1 1 (at 33 f) _ (ap (λ (c : Bool). Some (record { registers = f; front = 34; back = if not c then 134 else 35; nullify = false })) e) ∙ refl, refl, refl, refl, refl)

value_3 : (f : ℕ → ℕ) → f 29 < 2 ^ 32 → f 25 < 2 ^ 32 → ((((f 29) + (f 25)) % 2 ^ 32) + (((f 25) + (f 25)) % 2 ^ 32)) % 2 ^ 32 ≡ (f 29 + 3 * f 25) % 2 ^ 32
value_3 f acc y = omega arith

turn_3 : (f : ℕ → ℕ) (b : Bool) → (extracted (f 26) 27 28 == 0) ≡ b → f 29 < 2 ^ 32 → f 25 < 2 ^ 32 → Turn 3 f b
turn_3 f b e acc y =
    let one = adds_3 f in
    let two = ends_3 one.0 b (ap (λ (n : ℕ). n == 0) one.2 ∙ e) in
    record {
      steps = 4 + 2;
      soon = omega arith;
      place = 35;
      last = two.0;
      runs = run_on multiplying 4 2 (record { registers = f; front = 137; back = 30; nullify = false }) (at 33 one.0) one.1 ∙ two.1;
      is_return = refl;
      inside = omega arith;
      left = two.2 ∙ one.2;
      raised = two.3 ∙ ap (λ (n : ℕ). deposited n 27 28) one.3;
      table = two.4 ∙ one.4;
      sum = two.5 ∙ one.5 ∙ value_3 f acc y;
    }

-- 4: 2 instructions
adds_4 : (f : ℕ → ℕ) → (g : ℕ → ℕ) × (small_run multiplying 3 (record { registers = f; front = 137; back = 38; nullify = false }) ≡ Some (at 40 g)) × (g 26 ≡ extracted (f 26) 27 28) × (g 25 ≡ f 25) × (g 22 ≡ f 22) × (g 29 ≡ ((f 29) + (deposited (f 25) 29 30)) % 2 ^ 32)
adds_4 f = (_, refl, refl, refl, refl, refl)

ends_4 : (f : ℕ → ℕ) (b : Bool) → (f 26 == 0) ≡ b → (g : ℕ → ℕ) × (small_run multiplying 2 (at 40 f) ≡ Some (at (if b then 42 else 134) g)) × (g 26 ≡ f 26) × (g 25 ≡ deposited (f 25) 27 28) × (g 22 ≡ f 22) × (g 29 ≡ f 29)
ends_4 f true e = (_, run_on multiplying 1 1 (at 40 f) _ (ap (λ (c : Bool). Some (record { registers = f; front = 41; back = if not c then 134 else 42; nullify = false })) e) ∙ refl, refl, refl, refl, refl)
ends_4 f false e = (_, run_on multiplying 1 1 (at 40 f) _ (ap (λ (c : Bool). Some (record { registers = f; front = 41; back = if not c then 134 else 42; nullify = false })) e) ∙ refl, refl, refl, refl, refl)

value_4 : (f : ℕ → ℕ) → f 29 < 2 ^ 32 → f 25 < 2 ^ 32 → ((f 29) + (deposited (f 25) 29 30)) % 2 ^ 32 ≡ (f 29 + 4 * f 25) % 2 ^ 32
value_4 f acc y = omega arith

turn_4 : (f : ℕ → ℕ) (b : Bool) → (extracted (f 26) 27 28 == 0) ≡ b → f 29 < 2 ^ 32 → f 25 < 2 ^ 32 → Turn 4 f b
turn_4 f b e acc y =
    let one = adds_4 f in
    let two = ends_4 one.0 b (ap (λ (n : ℕ). n == 0) one.2 ∙ e) in
    record {
      steps = 3 + 2;
      soon = omega arith;
      place = 42;
      last = two.0;
      runs = run_on multiplying 3 2 (record { registers = f; front = 137; back = 38; nullify = false }) (at 40 one.0) one.1 ∙ two.1;
      is_return = refl;
      inside = omega arith;
      left = two.2 ∙ one.2;
      raised = two.3 ∙ ap (λ (n : ℕ). deposited n 27 28) one.3;
      table = two.4 ∙ one.4;
      sum = two.5 ∙ one.5 ∙ value_4 f acc y;
    }

-- 5: 3 instructions
adds_5 : (f : ℕ → ℕ) → (g : ℕ → ℕ) × (small_run multiplying 4 (record { registers = f; front = 137; back = 46; nullify = false }) ≡ Some (at 49 g)) × (g 26 ≡ extracted (f 26) 27 28) × (g 25 ≡ f 25) × (g 22 ≡ f 22) × (g 29 ≡ ((((f 29) + (f 25)) % 2 ^ 32) + (deposited (f 25) 29 30)) % 2 ^ 32)
adds_5 f = (_, refl, refl, refl, refl, refl)

ends_5 : (f : ℕ → ℕ) (b : Bool) → (f 26 == 0) ≡ b → (g : ℕ → ℕ) × (small_run multiplying 2 (at 49 f) ≡ Some (at (if b then 51 else 134) g)) × (g 26 ≡ f 26) × (g 25 ≡ deposited (f 25) 27 28) × (g 22 ≡ f 22) × (g 29 ≡ f 29)
ends_5 f true e = (_, run_on multiplying 1 1 (at 49 f) _ (ap (λ (c : Bool). Some (record { registers = f; front = 50; back = if not c then 134 else 51; nullify = false })) e) ∙ refl, refl, refl, refl, refl)
ends_5 f false e = (_, run_on multiplying 1 1 (at 49 f) _ (ap (λ (c : Bool). Some (record { registers = f; front = 50; back = if not c then 134 else 51; nullify = false })) e) ∙ refl, refl, refl, refl, refl)

value_5 : (f : ℕ → ℕ) → f 29 < 2 ^ 32 → f 25 < 2 ^ 32 → ((((f 29) + (f 25)) % 2 ^ 32) + (deposited (f 25) 29 30)) % 2 ^ 32 ≡ (f 29 + 5 * f 25) % 2 ^ 32
value_5 f acc y = omega arith

turn_5 : (f : ℕ → ℕ) (b : Bool) → (extracted (f 26) 27 28 == 0) ≡ b → f 29 < 2 ^ 32 → f 25 < 2 ^ 32 → Turn 5 f b
turn_5 f b e acc y =
    let one = adds_5 f in
    let two = ends_5 one.0 b (ap (λ (n : ℕ). n == 0) one.2 ∙ e) in
    record {
      steps = 4 + 2;
      soon = omega arith;
      place = 51;
      last = two.0;
      runs = run_on multiplying 4 2 (record { registers = f; front = 137; back = 46; nullify = false }) (at 49 one.0) one.1 ∙ two.1;
      is_return = refl;
      inside = omega arith;
      left = two.2 ∙ one.2;
      raised = two.3 ∙ ap (λ (n : ℕ). deposited n 27 28) one.3;
      table = two.4 ∙ one.4;
      sum = two.5 ∙ one.5 ∙ value_5 f acc y;
    }

-- 6: 4 instructions
adds_6 : (f : ℕ → ℕ) → (g : ℕ → ℕ) × (small_run multiplying 5 (record { registers = f; front = 137; back = 54; nullify = false }) ≡ Some (at 58 g)) × (g 26 ≡ extracted (f 26) 27 28) × (g 25 ≡ f 25) × (g 22 ≡ f 22) × (g 29 ≡ ((((f 29) + (((f 25) + (f 25)) % 2 ^ 32)) % 2 ^ 32) + (((((f 25) + (f 25)) % 2 ^ 32) + (((f 25) + (f 25)) % 2 ^ 32)) % 2 ^ 32)) % 2 ^ 32)
adds_6 f = (_, refl, refl, refl, refl, refl)

ends_6 : (f : ℕ → ℕ) (b : Bool) → (f 26 == 0) ≡ b → (g : ℕ → ℕ) × (small_run multiplying 2 (at 58 f) ≡ Some (at (if b then 60 else 134) g)) × (g 26 ≡ f 26) × (g 25 ≡ deposited (f 25) 27 28) × (g 22 ≡ f 22) × (g 29 ≡ f 29)
ends_6 f true e = (_, run_on multiplying 1 1 (at 58 f) _ (ap (λ (c : Bool). Some (record { registers = f; front = 59; back = if not c then 134 else 60; nullify = false })) e) ∙ refl, refl, refl, refl, refl)
ends_6 f false e = (_, run_on multiplying 1 1 (at 58 f) _ (ap (λ (c : Bool). Some (record { registers = f; front = 59; back = if not c then 134 else 60; nullify = false })) e) ∙ refl, refl, refl, refl, refl)

value_6 : (f : ℕ → ℕ) → f 29 < 2 ^ 32 → f 25 < 2 ^ 32 → ((((f 29) + (((f 25) + (f 25)) % 2 ^ 32)) % 2 ^ 32) + (((((f 25) + (f 25)) % 2 ^ 32) + (((f 25) + (f 25)) % 2 ^ 32)) % 2 ^ 32)) % 2 ^ 32 ≡ (f 29 + 6 * f 25) % 2 ^ 32
value_6 f acc y = omega arith

turn_6 : (f : ℕ → ℕ) (b : Bool) → (extracted (f 26) 27 28 == 0) ≡ b → f 29 < 2 ^ 32 → f 25 < 2 ^ 32 → Turn 6 f b
turn_6 f b e acc y =
    let one = adds_6 f in
    let two = ends_6 one.0 b (ap (λ (n : ℕ). n == 0) one.2 ∙ e) in
    record {
      steps = 5 + 2;
      soon = omega arith;
      place = 60;
      last = two.0;
      runs = run_on multiplying 5 2 (record { registers = f; front = 137; back = 54; nullify = false }) (at 58 one.0) one.1 ∙ two.1;
      is_return = refl;
      inside = omega arith;
      left = two.2 ∙ one.2;
      raised = two.3 ∙ ap (λ (n : ℕ). deposited n 27 28) one.3;
      table = two.4 ∙ one.4;
      sum = two.5 ∙ one.5 ∙ value_6 f acc y;
    }

-- 7: 3 instructions
adds_7 : (f : ℕ → ℕ) → (g : ℕ → ℕ) × (small_run multiplying 4 (record { registers = f; front = 137; back = 62; nullify = false }) ≡ Some (at 65 g)) × (g 26 ≡ extracted (f 26) 27 28) × (g 25 ≡ f 25) × (g 22 ≡ f 22) × (g 29 ≡ ((unsigned_difference (f 29) (f 25)) + (deposited (f 25) 28 29)) % 2 ^ 32)
adds_7 f = (_, refl, refl, refl, refl, refl)

ends_7 : (f : ℕ → ℕ) (b : Bool) → (f 26 == 0) ≡ b → (g : ℕ → ℕ) × (small_run multiplying 2 (at 65 f) ≡ Some (at (if b then 67 else 134) g)) × (g 26 ≡ f 26) × (g 25 ≡ deposited (f 25) 27 28) × (g 22 ≡ f 22) × (g 29 ≡ f 29)
ends_7 f true e = (_, run_on multiplying 1 1 (at 65 f) _ (ap (λ (c : Bool). Some (record { registers = f; front = 66; back = if not c then 134 else 67; nullify = false })) e) ∙ refl, refl, refl, refl, refl)
ends_7 f false e = (_, run_on multiplying 1 1 (at 65 f) _ (ap (λ (c : Bool). Some (record { registers = f; front = 66; back = if not c then 134 else 67; nullify = false })) e) ∙ refl, refl, refl, refl, refl)

value_7 : (f : ℕ → ℕ) → f 29 < 2 ^ 32 → f 25 < 2 ^ 32 → ((unsigned_difference (f 29) (f 25)) + (deposited (f 25) 28 29)) % 2 ^ 32 ≡ (f 29 + 7 * f 25) % 2 ^ 32
value_7 f acc y = omega arith

turn_7 : (f : ℕ → ℕ) (b : Bool) → (extracted (f 26) 27 28 == 0) ≡ b → f 29 < 2 ^ 32 → f 25 < 2 ^ 32 → Turn 7 f b
turn_7 f b e acc y =
    let one = adds_7 f in
    let two = ends_7 one.0 b (ap (λ (n : ℕ). n == 0) one.2 ∙ e) in
    record {
      steps = 4 + 2;
      soon = omega arith;
      place = 67;
      last = two.0;
      runs = run_on multiplying 4 2 (record { registers = f; front = 137; back = 62; nullify = false }) (at 65 one.0) one.1 ∙ two.1;
      is_return = refl;
      inside = omega arith;
      left = two.2 ∙ one.2;
      raised = two.3 ∙ ap (λ (n : ℕ). deposited n 27 28) one.3;
      table = two.4 ∙ one.4;
      sum = two.5 ∙ one.5 ∙ value_7 f acc y;
    }

-- 8: 2 instructions
adds_8 : (f : ℕ → ℕ) → (g : ℕ → ℕ) × (small_run multiplying 3 (record { registers = f; front = 137; back = 70; nullify = false }) ≡ Some (at 72 g)) × (g 26 ≡ extracted (f 26) 27 28) × (g 25 ≡ f 25) × (g 22 ≡ f 22) × (g 29 ≡ ((f 29) + (deposited (f 25) 28 29)) % 2 ^ 32)
adds_8 f = (_, refl, refl, refl, refl, refl)

ends_8 : (f : ℕ → ℕ) (b : Bool) → (f 26 == 0) ≡ b → (g : ℕ → ℕ) × (small_run multiplying 2 (at 72 f) ≡ Some (at (if b then 74 else 134) g)) × (g 26 ≡ f 26) × (g 25 ≡ deposited (f 25) 27 28) × (g 22 ≡ f 22) × (g 29 ≡ f 29)
ends_8 f true e = (_, run_on multiplying 1 1 (at 72 f) _ (ap (λ (c : Bool). Some (record { registers = f; front = 73; back = if not c then 134 else 74; nullify = false })) e) ∙ refl, refl, refl, refl, refl)
ends_8 f false e = (_, run_on multiplying 1 1 (at 72 f) _ (ap (λ (c : Bool). Some (record { registers = f; front = 73; back = if not c then 134 else 74; nullify = false })) e) ∙ refl, refl, refl, refl, refl)

value_8 : (f : ℕ → ℕ) → f 29 < 2 ^ 32 → f 25 < 2 ^ 32 → ((f 29) + (deposited (f 25) 28 29)) % 2 ^ 32 ≡ (f 29 + 8 * f 25) % 2 ^ 32
value_8 f acc y = omega arith

turn_8 : (f : ℕ → ℕ) (b : Bool) → (extracted (f 26) 27 28 == 0) ≡ b → f 29 < 2 ^ 32 → f 25 < 2 ^ 32 → Turn 8 f b
turn_8 f b e acc y =
    let one = adds_8 f in
    let two = ends_8 one.0 b (ap (λ (n : ℕ). n == 0) one.2 ∙ e) in
    record {
      steps = 3 + 2;
      soon = omega arith;
      place = 74;
      last = two.0;
      runs = run_on multiplying 3 2 (record { registers = f; front = 137; back = 70; nullify = false }) (at 72 one.0) one.1 ∙ two.1;
      is_return = refl;
      inside = omega arith;
      left = two.2 ∙ one.2;
      raised = two.3 ∙ ap (λ (n : ℕ). deposited n 27 28) one.3;
      table = two.4 ∙ one.4;
      sum = two.5 ∙ one.5 ∙ value_8 f acc y;
    }

-- 9: 3 instructions
adds_9 : (f : ℕ → ℕ) → (g : ℕ → ℕ) × (small_run multiplying 4 (record { registers = f; front = 137; back = 78; nullify = false }) ≡ Some (at 81 g)) × (g 26 ≡ extracted (f 26) 27 28) × (g 25 ≡ f 25) × (g 22 ≡ f 22) × (g 29 ≡ ((((f 29) + (f 25)) % 2 ^ 32) + (deposited (f 25) 28 29)) % 2 ^ 32)
adds_9 f = (_, refl, refl, refl, refl, refl)

ends_9 : (f : ℕ → ℕ) (b : Bool) → (f 26 == 0) ≡ b → (g : ℕ → ℕ) × (small_run multiplying 2 (at 81 f) ≡ Some (at (if b then 83 else 134) g)) × (g 26 ≡ f 26) × (g 25 ≡ deposited (f 25) 27 28) × (g 22 ≡ f 22) × (g 29 ≡ f 29)
ends_9 f true e = (_, run_on multiplying 1 1 (at 81 f) _ (ap (λ (c : Bool). Some (record { registers = f; front = 82; back = if not c then 134 else 83; nullify = false })) e) ∙ refl, refl, refl, refl, refl)
ends_9 f false e = (_, run_on multiplying 1 1 (at 81 f) _ (ap (λ (c : Bool). Some (record { registers = f; front = 82; back = if not c then 134 else 83; nullify = false })) e) ∙ refl, refl, refl, refl, refl)

value_9 : (f : ℕ → ℕ) → f 29 < 2 ^ 32 → f 25 < 2 ^ 32 → ((((f 29) + (f 25)) % 2 ^ 32) + (deposited (f 25) 28 29)) % 2 ^ 32 ≡ (f 29 + 9 * f 25) % 2 ^ 32
value_9 f acc y = omega arith

turn_9 : (f : ℕ → ℕ) (b : Bool) → (extracted (f 26) 27 28 == 0) ≡ b → f 29 < 2 ^ 32 → f 25 < 2 ^ 32 → Turn 9 f b
turn_9 f b e acc y =
    let one = adds_9 f in
    let two = ends_9 one.0 b (ap (λ (n : ℕ). n == 0) one.2 ∙ e) in
    record {
      steps = 4 + 2;
      soon = omega arith;
      place = 83;
      last = two.0;
      runs = run_on multiplying 4 2 (record { registers = f; front = 137; back = 78; nullify = false }) (at 81 one.0) one.1 ∙ two.1;
      is_return = refl;
      inside = omega arith;
      left = two.2 ∙ one.2;
      raised = two.3 ∙ ap (λ (n : ℕ). deposited n 27 28) one.3;
      table = two.4 ∙ one.4;
      sum = two.5 ∙ one.5 ∙ value_9 f acc y;
    }

-- 10: 4 instructions
adds_10 : (f : ℕ → ℕ) → (g : ℕ → ℕ) × (small_run multiplying 5 (record { registers = f; front = 137; back = 86; nullify = false }) ≡ Some (at 90 g)) × (g 26 ≡ extracted (f 26) 27 28) × (g 25 ≡ f 25) × (g 22 ≡ f 22) × (g 29 ≡ ((((f 29) + (((f 25) + (f 25)) % 2 ^ 32)) % 2 ^ 32) + (deposited (((f 25) + (f 25)) % 2 ^ 32) 29 30)) % 2 ^ 32)
adds_10 f = (_, refl, refl, refl, refl, refl)

ends_10 : (f : ℕ → ℕ) (b : Bool) → (f 26 == 0) ≡ b → (g : ℕ → ℕ) × (small_run multiplying 2 (at 90 f) ≡ Some (at (if b then 92 else 134) g)) × (g 26 ≡ f 26) × (g 25 ≡ deposited (f 25) 27 28) × (g 22 ≡ f 22) × (g 29 ≡ f 29)
ends_10 f true e = (_, run_on multiplying 1 1 (at 90 f) _ (ap (λ (c : Bool). Some (record { registers = f; front = 91; back = if not c then 134 else 92; nullify = false })) e) ∙ refl, refl, refl, refl, refl)
ends_10 f false e = (_, run_on multiplying 1 1 (at 90 f) _ (ap (λ (c : Bool). Some (record { registers = f; front = 91; back = if not c then 134 else 92; nullify = false })) e) ∙ refl, refl, refl, refl, refl)

value_10 : (f : ℕ → ℕ) → f 29 < 2 ^ 32 → f 25 < 2 ^ 32 → ((((f 29) + (((f 25) + (f 25)) % 2 ^ 32)) % 2 ^ 32) + (deposited (((f 25) + (f 25)) % 2 ^ 32) 29 30)) % 2 ^ 32 ≡ (f 29 + 10 * f 25) % 2 ^ 32
value_10 f acc y = omega arith

turn_10 : (f : ℕ → ℕ) (b : Bool) → (extracted (f 26) 27 28 == 0) ≡ b → f 29 < 2 ^ 32 → f 25 < 2 ^ 32 → Turn 10 f b
turn_10 f b e acc y =
    let one = adds_10 f in
    let two = ends_10 one.0 b (ap (λ (n : ℕ). n == 0) one.2 ∙ e) in
    record {
      steps = 5 + 2;
      soon = omega arith;
      place = 92;
      last = two.0;
      runs = run_on multiplying 5 2 (record { registers = f; front = 137; back = 86; nullify = false }) (at 90 one.0) one.1 ∙ two.1;
      is_return = refl;
      inside = omega arith;
      left = two.2 ∙ one.2;
      raised = two.3 ∙ ap (λ (n : ℕ). deposited n 27 28) one.3;
      table = two.4 ∙ one.4;
      sum = two.5 ∙ one.5 ∙ value_10 f acc y;
    }

-- 11: 5 instructions
adds_11 : (f : ℕ → ℕ) → (g : ℕ → ℕ) × (small_run multiplying 6 (record { registers = f; front = 137; back = 94; nullify = false }) ≡ Some (at 99 g)) × (g 26 ≡ extracted (f 26) 27 28) × (g 25 ≡ f 25) × (g 22 ≡ f 22) × (g 29 ≡ ((((((f 29) + (f 25)) % 2 ^ 32) + (((f 25) + (f 25)) % 2 ^ 32)) % 2 ^ 32) + (deposited (((f 25) + (f 25)) % 2 ^ 32) 29 30)) % 2 ^ 32)
adds_11 f = (_, refl, refl, refl, refl, refl)

ends_11 : (f : ℕ → ℕ) (b : Bool) → (f 26 == 0) ≡ b → (g : ℕ → ℕ) × (small_run multiplying 2 (at 99 f) ≡ Some (at (if b then 101 else 134) g)) × (g 26 ≡ f 26) × (g 25 ≡ deposited (f 25) 27 28) × (g 22 ≡ f 22) × (g 29 ≡ f 29)
ends_11 f true e = (_, run_on multiplying 1 1 (at 99 f) _ (ap (λ (c : Bool). Some (record { registers = f; front = 100; back = if not c then 134 else 101; nullify = false })) e) ∙ refl, refl, refl, refl, refl)
ends_11 f false e = (_, run_on multiplying 1 1 (at 99 f) _ (ap (λ (c : Bool). Some (record { registers = f; front = 100; back = if not c then 134 else 101; nullify = false })) e) ∙ refl, refl, refl, refl, refl)

value_11 : (f : ℕ → ℕ) → f 29 < 2 ^ 32 → f 25 < 2 ^ 32 → ((((((f 29) + (f 25)) % 2 ^ 32) + (((f 25) + (f 25)) % 2 ^ 32)) % 2 ^ 32) + (deposited (((f 25) + (f 25)) % 2 ^ 32) 29 30)) % 2 ^ 32 ≡ (f 29 + 11 * f 25) % 2 ^ 32
value_11 f acc y = omega arith

turn_11 : (f : ℕ → ℕ) (b : Bool) → (extracted (f 26) 27 28 == 0) ≡ b → f 29 < 2 ^ 32 → f 25 < 2 ^ 32 → Turn 11 f b
turn_11 f b e acc y =
    let one = adds_11 f in
    let two = ends_11 one.0 b (ap (λ (n : ℕ). n == 0) one.2 ∙ e) in
    record {
      steps = 6 + 2;
      soon = omega arith;
      place = 101;
      last = two.0;
      runs = run_on multiplying 6 2 (record { registers = f; front = 137; back = 94; nullify = false }) (at 99 one.0) one.1 ∙ two.1;
      is_return = refl;
      inside = omega arith;
      left = two.2 ∙ one.2;
      raised = two.3 ∙ ap (λ (n : ℕ). deposited n 27 28) one.3;
      table = two.4 ∙ one.4;
      sum = two.5 ∙ one.5 ∙ value_11 f acc y;
    }

-- 12: 4 instructions
adds_12 : (f : ℕ → ℕ) → (g : ℕ → ℕ) × (small_run multiplying 5 (record { registers = f; front = 137; back = 102; nullify = false }) ≡ Some (at 106 g)) × (g 26 ≡ extracted (f 26) 27 28) × (g 25 ≡ f 25) × (g 22 ≡ f 22) × (g 29 ≡ ((((f 29) + (deposited (f 25) 29 30)) % 2 ^ 32) + (((deposited (f 25) 29 30) + (deposited (f 25) 29 30)) % 2 ^ 32)) % 2 ^ 32)
adds_12 f = (_, refl, refl, refl, refl, refl)

ends_12 : (f : ℕ → ℕ) (b : Bool) → (f 26 == 0) ≡ b → (g : ℕ → ℕ) × (small_run multiplying 2 (at 106 f) ≡ Some (at (if b then 108 else 134) g)) × (g 26 ≡ f 26) × (g 25 ≡ deposited (f 25) 27 28) × (g 22 ≡ f 22) × (g 29 ≡ f 29)
ends_12 f true e = (_, run_on multiplying 1 1 (at 106 f) _ (ap (λ (c : Bool). Some (record { registers = f; front = 107; back = if not c then 134 else 108; nullify = false })) e) ∙ refl, refl, refl, refl, refl)
ends_12 f false e = (_, run_on multiplying 1 1 (at 106 f) _ (ap (λ (c : Bool). Some (record { registers = f; front = 107; back = if not c then 134 else 108; nullify = false })) e) ∙ refl, refl, refl, refl, refl)

value_12 : (f : ℕ → ℕ) → f 29 < 2 ^ 32 → f 25 < 2 ^ 32 → ((((f 29) + (deposited (f 25) 29 30)) % 2 ^ 32) + (((deposited (f 25) 29 30) + (deposited (f 25) 29 30)) % 2 ^ 32)) % 2 ^ 32 ≡ (f 29 + 12 * f 25) % 2 ^ 32
value_12 f acc y = omega arith

turn_12 : (f : ℕ → ℕ) (b : Bool) → (extracted (f 26) 27 28 == 0) ≡ b → f 29 < 2 ^ 32 → f 25 < 2 ^ 32 → Turn 12 f b
turn_12 f b e acc y =
    let one = adds_12 f in
    let two = ends_12 one.0 b (ap (λ (n : ℕ). n == 0) one.2 ∙ e) in
    record {
      steps = 5 + 2;
      soon = omega arith;
      place = 108;
      last = two.0;
      runs = run_on multiplying 5 2 (record { registers = f; front = 137; back = 102; nullify = false }) (at 106 one.0) one.1 ∙ two.1;
      is_return = refl;
      inside = omega arith;
      left = two.2 ∙ one.2;
      raised = two.3 ∙ ap (λ (n : ℕ). deposited n 27 28) one.3;
      table = two.4 ∙ one.4;
      sum = two.5 ∙ one.5 ∙ value_12 f acc y;
    }

-- 13: 5 instructions
adds_13 : (f : ℕ → ℕ) → (g : ℕ → ℕ) × (small_run multiplying 6 (record { registers = f; front = 137; back = 110; nullify = false }) ≡ Some (at 115 g)) × (g 26 ≡ extracted (f 26) 27 28) × (g 25 ≡ f 25) × (g 22 ≡ f 22) × (g 29 ≡ ((((((f 29) + (f 25)) % 2 ^ 32) + (deposited (f 25) 29 30)) % 2 ^ 32) + (((deposited (f 25) 29 30) + (deposited (f 25) 29 30)) % 2 ^ 32)) % 2 ^ 32)
adds_13 f = (_, refl, refl, refl, refl, refl)

ends_13 : (f : ℕ → ℕ) (b : Bool) → (f 26 == 0) ≡ b → (g : ℕ → ℕ) × (small_run multiplying 2 (at 115 f) ≡ Some (at (if b then 117 else 134) g)) × (g 26 ≡ f 26) × (g 25 ≡ deposited (f 25) 27 28) × (g 22 ≡ f 22) × (g 29 ≡ f 29)
ends_13 f true e = (_, run_on multiplying 1 1 (at 115 f) _ (ap (λ (c : Bool). Some (record { registers = f; front = 116; back = if not c then 134 else 117; nullify = false })) e) ∙ refl, refl, refl, refl, refl)
ends_13 f false e = (_, run_on multiplying 1 1 (at 115 f) _ (ap (λ (c : Bool). Some (record { registers = f; front = 116; back = if not c then 134 else 117; nullify = false })) e) ∙ refl, refl, refl, refl, refl)

value_13 : (f : ℕ → ℕ) → f 29 < 2 ^ 32 → f 25 < 2 ^ 32 → ((((((f 29) + (f 25)) % 2 ^ 32) + (deposited (f 25) 29 30)) % 2 ^ 32) + (((deposited (f 25) 29 30) + (deposited (f 25) 29 30)) % 2 ^ 32)) % 2 ^ 32 ≡ (f 29 + 13 * f 25) % 2 ^ 32
value_13 f acc y = omega arith

turn_13 : (f : ℕ → ℕ) (b : Bool) → (extracted (f 26) 27 28 == 0) ≡ b → f 29 < 2 ^ 32 → f 25 < 2 ^ 32 → Turn 13 f b
turn_13 f b e acc y =
    let one = adds_13 f in
    let two = ends_13 one.0 b (ap (λ (n : ℕ). n == 0) one.2 ∙ e) in
    record {
      steps = 6 + 2;
      soon = omega arith;
      place = 117;
      last = two.0;
      runs = run_on multiplying 6 2 (record { registers = f; front = 137; back = 110; nullify = false }) (at 115 one.0) one.1 ∙ two.1;
      is_return = refl;
      inside = omega arith;
      left = two.2 ∙ one.2;
      raised = two.3 ∙ ap (λ (n : ℕ). deposited n 27 28) one.3;
      table = two.4 ∙ one.4;
      sum = two.5 ∙ one.5 ∙ value_13 f acc y;
    }

-- 14: 4 instructions
adds_14 : (f : ℕ → ℕ) → (g : ℕ → ℕ) × (small_run multiplying 5 (record { registers = f; front = 137; back = 118; nullify = false }) ≡ Some (at 122 g)) × (g 26 ≡ extracted (f 26) 27 28) × (g 25 ≡ f 25) × (g 22 ≡ f 22) × (g 29 ≡ ((unsigned_difference (f 29) (((f 25) + (f 25)) % 2 ^ 32)) + (deposited (((f 25) + (f 25)) % 2 ^ 32) 28 29)) % 2 ^ 32)
adds_14 f = (_, refl, refl, refl, refl, refl)

ends_14 : (f : ℕ → ℕ) (b : Bool) → (f 26 == 0) ≡ b → (g : ℕ → ℕ) × (small_run multiplying 2 (at 122 f) ≡ Some (at (if b then 124 else 134) g)) × (g 26 ≡ f 26) × (g 25 ≡ deposited (f 25) 27 28) × (g 22 ≡ f 22) × (g 29 ≡ f 29)
ends_14 f true e = (_, run_on multiplying 1 1 (at 122 f) _ (ap (λ (c : Bool). Some (record { registers = f; front = 123; back = if not c then 134 else 124; nullify = false })) e) ∙ refl, refl, refl, refl, refl)
ends_14 f false e = (_, run_on multiplying 1 1 (at 122 f) _ (ap (λ (c : Bool). Some (record { registers = f; front = 123; back = if not c then 134 else 124; nullify = false })) e) ∙ refl, refl, refl, refl, refl)

value_14 : (f : ℕ → ℕ) → f 29 < 2 ^ 32 → f 25 < 2 ^ 32 → ((unsigned_difference (f 29) (((f 25) + (f 25)) % 2 ^ 32)) + (deposited (((f 25) + (f 25)) % 2 ^ 32) 28 29)) % 2 ^ 32 ≡ (f 29 + 14 * f 25) % 2 ^ 32
value_14 f acc y = omega arith

turn_14 : (f : ℕ → ℕ) (b : Bool) → (extracted (f 26) 27 28 == 0) ≡ b → f 29 < 2 ^ 32 → f 25 < 2 ^ 32 → Turn 14 f b
turn_14 f b e acc y =
    let one = adds_14 f in
    let two = ends_14 one.0 b (ap (λ (n : ℕ). n == 0) one.2 ∙ e) in
    record {
      steps = 5 + 2;
      soon = omega arith;
      place = 124;
      last = two.0;
      runs = run_on multiplying 5 2 (record { registers = f; front = 137; back = 118; nullify = false }) (at 122 one.0) one.1 ∙ two.1;
      is_return = refl;
      inside = omega arith;
      left = two.2 ∙ one.2;
      raised = two.3 ∙ ap (λ (n : ℕ). deposited n 27 28) one.3;
      table = two.4 ∙ one.4;
      sum = two.5 ∙ one.5 ∙ value_14 f acc y;
    }

-- 15: 3 instructions
adds_15 : (f : ℕ → ℕ) → (g : ℕ → ℕ) × (small_run multiplying 4 (record { registers = f; front = 137; back = 126; nullify = false }) ≡ Some (at 129 g)) × (g 26 ≡ extracted (f 26) 27 28) × (g 25 ≡ f 25) × (g 22 ≡ f 22) × (g 29 ≡ ((unsigned_difference (f 29) (f 25)) + (deposited (f 25) 27 28)) % 2 ^ 32)
adds_15 f = (_, refl, refl, refl, refl, refl)

ends_15 : (f : ℕ → ℕ) (b : Bool) → (f 26 == 0) ≡ b → (g : ℕ → ℕ) × (small_run multiplying 2 (at 129 f) ≡ Some (at (if b then 131 else 134) g)) × (g 26 ≡ f 26) × (g 25 ≡ deposited (f 25) 27 28) × (g 22 ≡ f 22) × (g 29 ≡ f 29)
ends_15 f true e = (_, run_on multiplying 1 1 (at 129 f) _ (ap (λ (c : Bool). Some (record { registers = f; front = 130; back = if not c then 134 else 131; nullify = false })) e) ∙ refl, refl, refl, refl, refl)
ends_15 f false e = (_, run_on multiplying 1 1 (at 129 f) _ (ap (λ (c : Bool). Some (record { registers = f; front = 130; back = if not c then 134 else 131; nullify = false })) e) ∙ refl, refl, refl, refl, refl)

value_15 : (f : ℕ → ℕ) → f 29 < 2 ^ 32 → f 25 < 2 ^ 32 → ((unsigned_difference (f 29) (f 25)) + (deposited (f 25) 27 28)) % 2 ^ 32 ≡ (f 29 + 15 * f 25) % 2 ^ 32
value_15 f acc y = omega arith

turn_15 : (f : ℕ → ℕ) (b : Bool) → (extracted (f 26) 27 28 == 0) ≡ b → f 29 < 2 ^ 32 → f 25 < 2 ^ 32 → Turn 15 f b
turn_15 f b e acc y =
    let one = adds_15 f in
    let two = ends_15 one.0 b (ap (λ (n : ℕ). n == 0) one.2 ∙ e) in
    record {
      steps = 4 + 2;
      soon = omega arith;
      place = 131;
      last = two.0;
      runs = run_on multiplying 4 2 (record { registers = f; front = 137; back = 126; nullify = false }) (at 129 one.0) one.1 ∙ two.1;
      is_return = refl;
      inside = omega arith;
      left = two.2 ∙ one.2;
      raised = two.3 ∙ ap (λ (n : ℕ). deposited n 27 28) one.3;
      table = two.4 ∙ one.4;
      sum = two.5 ∙ one.5 ∙ value_15 f acc y;
    }

-- something of each digit
by_digit : (P : ℕ → Type 0) → P 0 → P 1 → P 2 → P 3 → P 4 → P 5 → P 6 → P 7 → P 8 → P 9 → P 10 → P 11 → P 12 → P 13 → P 14 → P 15 → (d : ℕ) → d < 16 → P d
by_digit P p0 p1 p2 p3 p4 p5 p6 p7 p8 p9 p10 p11 p12 p13 p14 p15 zero lt = p0
by_digit P p0 p1 p2 p3 p4 p5 p6 p7 p8 p9 p10 p11 p12 p13 p14 p15 (suc zero) lt = p1
by_digit P p0 p1 p2 p3 p4 p5 p6 p7 p8 p9 p10 p11 p12 p13 p14 p15 (suc (suc zero)) lt = p2
by_digit P p0 p1 p2 p3 p4 p5 p6 p7 p8 p9 p10 p11 p12 p13 p14 p15 (suc (suc (suc zero))) lt = p3
by_digit P p0 p1 p2 p3 p4 p5 p6 p7 p8 p9 p10 p11 p12 p13 p14 p15 (suc (suc (suc (suc zero)))) lt = p4
by_digit P p0 p1 p2 p3 p4 p5 p6 p7 p8 p9 p10 p11 p12 p13 p14 p15 (suc (suc (suc (suc (suc zero))))) lt = p5
by_digit P p0 p1 p2 p3 p4 p5 p6 p7 p8 p9 p10 p11 p12 p13 p14 p15 (suc (suc (suc (suc (suc (suc zero)))))) lt = p6
by_digit P p0 p1 p2 p3 p4 p5 p6 p7 p8 p9 p10 p11 p12 p13 p14 p15 (suc (suc (suc (suc (suc (suc (suc zero))))))) lt = p7
by_digit P p0 p1 p2 p3 p4 p5 p6 p7 p8 p9 p10 p11 p12 p13 p14 p15 (suc (suc (suc (suc (suc (suc (suc (suc zero)))))))) lt = p8
by_digit P p0 p1 p2 p3 p4 p5 p6 p7 p8 p9 p10 p11 p12 p13 p14 p15 (suc (suc (suc (suc (suc (suc (suc (suc (suc zero))))))))) lt = p9
by_digit P p0 p1 p2 p3 p4 p5 p6 p7 p8 p9 p10 p11 p12 p13 p14 p15 (suc (suc (suc (suc (suc (suc (suc (suc (suc (suc zero)))))))))) lt = p10
by_digit P p0 p1 p2 p3 p4 p5 p6 p7 p8 p9 p10 p11 p12 p13 p14 p15 (suc (suc (suc (suc (suc (suc (suc (suc (suc (suc (suc zero))))))))))) lt = p11
by_digit P p0 p1 p2 p3 p4 p5 p6 p7 p8 p9 p10 p11 p12 p13 p14 p15 (suc (suc (suc (suc (suc (suc (suc (suc (suc (suc (suc (suc zero)))))))))))) lt = p12
by_digit P p0 p1 p2 p3 p4 p5 p6 p7 p8 p9 p10 p11 p12 p13 p14 p15 (suc (suc (suc (suc (suc (suc (suc (suc (suc (suc (suc (suc (suc zero))))))))))))) lt = p13
by_digit P p0 p1 p2 p3 p4 p5 p6 p7 p8 p9 p10 p11 p12 p13 p14 p15 (suc (suc (suc (suc (suc (suc (suc (suc (suc (suc (suc (suc (suc (suc zero)))))))))))))) lt = p14
by_digit P p0 p1 p2 p3 p4 p5 p6 p7 p8 p9 p10 p11 p12 p13 p14 p15 (suc (suc (suc (suc (suc (suc (suc (suc (suc (suc (suc (suc (suc (suc (suc zero))))))))))))))) lt = p15
by_digit P p0 p1 p2 p3 p4 p5 p6 p7 p8 p9 p10 p11 p12 p13 p14 p15 (suc (suc (suc (suc (suc (suc (suc (suc (suc (suc (suc (suc (suc (suc (suc (suc n)))))))))))))))) lt = absurd (omega arith)

pub turns : (d : ℕ) (f : ℕ → ℕ) (b : Bool) → d < 16 → (extracted (f 26) 27 28 == 0) ≡ b → f 29 < 2 ^ 32 → f 25 < 2 ^ 32 → Turn d f b
turns d f b lt e acc y = by_digit (λ (n : ℕ). Turn n f b) (turn_0 f b e acc y) (turn_1 f b e acc y) (turn_2 f b e acc y) (turn_3 f b e acc y) (turn_4 f b e acc y) (turn_5 f b e acc y) (turn_6 f b e acc y) (turn_7 f b e acc y) (turn_8 f b e acc y) (turn_9 f b e acc y) (turn_10 f b e acc y) (turn_11 f b e acc y) (turn_12 f b e acc y) (turn_13 f b e acc y) (turn_14 f b e acc y) (turn_15 f b e acc y) d lt
