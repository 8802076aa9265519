-- What the signed divisions do before and after the unsigned one.
use Rattle.std.proofs.Common.{ℕ, ◌≡◌, Bool, true, false, not, Some, refl, sym, ap, ◌∙◌}
use Rattle.std.specs.Prelude.{bit_or, bit_xor}
use Rattle.std.specs.Int.Bits.{or_zero_r}
use Rattle.pw_milli.proofs.Small.{at, small_run, run_on}
use Rattle.pw_milli.proofs.Codes.{sign_of_quotient, sign_of_remainder, absolutes, remainder_back, signed_back, signed_remainder_back}
use Rattle.pw_milli.proofs.Signs.{is_negative, signed_by}

pub signs_quotient : (f : ℕ → ℕ) → (g : ℕ → ℕ) × (small_run sign_of_quotient 1 (at 0 f) ≡ Some (at 1 g)) × (g 26 ≡ f 26) × (g 25 ≡ f 25) × (g 28 ≡ bit_xor (f 26) (f 25))
signs_quotient f = (_, refl, refl, refl, refl)

pub signs_remainder : (f : ℕ → ℕ) → (g : ℕ → ℕ) × (small_run sign_of_remainder 1 (at 0 f) ≡ Some (at 1 g)) × (g 26 ≡ f 26) × (g 25 ≡ f 25) × (g 28 ≡ bit_or (f 26) 0)
signs_remainder f = (_, refl, refl, refl, refl)

first_absolute : (f : ℕ → ℕ) (b : Bool) → is_negative (f 26) ≡ b → (g : ℕ → ℕ) × (small_run absolutes 2 (at 0 f) ≡ Some (at 2 g)) × (g 26 ≡ signed_by b (f 26)) × (g 25 ≡ f 25) × (g 28 ≡ f 28)
first_absolute f true e = (_, run_on absolutes 1 1 (at 0 f) _ (ap (λ (c : Bool). Some (record { registers = f; front = 1; back = 2; nullify = not c })) e) ∙ refl, refl, refl, refl)
first_absolute f false e = (_, run_on absolutes 1 1 (at 0 f) _ (ap (λ (c : Bool). Some (record { registers = f; front = 1; back = 2; nullify = not c })) e) ∙ refl, refl, refl, refl)

second_absolute : (f : ℕ → ℕ) (b : Bool) → is_negative (f 25) ≡ b → (g : ℕ → ℕ) × (small_run absolutes 2 (at 2 f) ≡ Some (at 4 g)) × (g 26 ≡ f 26) × (g 25 ≡ signed_by b (f 25)) × (g 28 ≡ f 28)
second_absolute f true e = (_, run_on absolutes 1 1 (at 2 f) _ (ap (λ (c : Bool). Some (record { registers = f; front = 3; back = 4; nullify = not c })) e) ∙ refl, refl, refl, refl)
second_absolute f false e = (_, run_on absolutes 1 1 (at 2 f) _ (ap (λ (c : Bool). Some (record { registers = f; front = 3; back = 4; nullify = not c })) e) ∙ refl, refl, refl, refl)

pub takes_absolutes : (f : ℕ → ℕ) (b c : Bool) → is_negative (f 26) ≡ b → is_negative (f 25) ≡ c → (g : ℕ → ℕ) × (small_run absolutes 4 (at 0 f) ≡ Some (at 4 g)) × (g 26 ≡ signed_by b (f 26)) × (g 25 ≡ signed_by c (f 25)) × (g 28 ≡ f 28)
takes_absolutes f b c e h =
    let one = first_absolute f b e in
    let two = second_absolute one.0 c (ap is_negative one.3 ∙ h) in
    (two.0, run_on absolutes 2 2 (at 0 f) (at 2 one.0) one.1 ∙ two.1, two.2 ∙ one.2, two.3 ∙ ap (signed_by c) one.3, two.4 ∙ one.4)

pub signs_back : (f : ℕ → ℕ) (b : Bool) → is_negative (f 28) ≡ b → (g : ℕ → ℕ) × (small_run signed_back 2 (at 0 f) ≡ Some (at 2 g)) × (g 29 ≡ signed_by b (f 29))
signs_back f true e = (_, run_on signed_back 1 1 (at 0 f) _ (ap (λ (c : Bool). Some (record { registers = f; front = 1; back = 2; nullify = not c })) e) ∙ refl, refl)
signs_back f false e = (_, run_on signed_back 1 1 (at 0 f) _ (ap (λ (c : Bool). Some (record { registers = f; front = 1; back = 2; nullify = not c })) e) ∙ refl, refl)

moves_remainder : (f : ℕ → ℕ) → (g : ℕ → ℕ) × (small_run signed_remainder_back 1 (at 0 f) ≡ Some (at 1 g)) × (g 26 ≡ f 26) × (g 28 ≡ f 28) × (g 29 ≡ bit_or (f 26) 0)
moves_remainder f = (_, refl, refl, refl, refl)

signs_moved : (f : ℕ → ℕ) (b : Bool) → is_negative (f 28) ≡ b → f 29 ≡ f 26 → (g : ℕ → ℕ) × (small_run signed_remainder_back 2 (at 1 f) ≡ Some (at 3 g)) × (g 29 ≡ signed_by b (f 26))
signs_moved f true e h = (_, run_on signed_remainder_back 1 1 (at 1 f) _ (ap (λ (c : Bool). Some (record { registers = f; front = 2; back = 3; nullify = not c })) e) ∙ refl, refl)
signs_moved f false e h = (_, run_on signed_remainder_back 1 1 (at 1 f) _ (ap (λ (c : Bool). Some (record { registers = f; front = 2; back = 3; nullify = not c })) e) ∙ refl, h)

pub signs_remainder_back : (f : ℕ → ℕ) (b : Bool) → is_negative (f 28) ≡ b → (g : ℕ → ℕ) × (small_run signed_remainder_back 3 (at 0 f) ≡ Some (at 3 g)) × (g 29 ≡ signed_by b (f 26))
signs_remainder_back f b e =
    let one = moves_remainder f in
    let two = signs_moved one.0 b (ap is_negative one.3 ∙ e) (one.4 ∙ or_zero_r (f 26) ∙ sym one.2) in
    (two.0, run_on signed_remainder_back 1 2 (at 0 f) (at 1 one.0) one.1 ∙ two.1, two.2 ∙ ap (signed_by b) one.2)

-- the same of the unsigned remainder
pub moves_back : (f : ℕ → ℕ) → (g : ℕ → ℕ) × (small_run remainder_back 1 (at 0 f) ≡ Some (at 1 g)) × (g 29 ≡ bit_or (f 26) 0)
moves_back f = (_, refl, refl)
