-- `$mul` multiplies.
use Rattle.std.proofs.Common.{ℕ, pos, ◌+◌, ◌*◌, ◌%◌, ◌^◌, ◌<◌, ◌≤◌, ◌≡◌, Bool, true, false, Some, length, refl, ap, ◌∙◌, arith}
use Rattle.std.specs.Prelude.{nat_le, slice_index, bit_or, if◌then◌else◌}
use Rattle.std.specs.Int.Bits.{or_zero_r}
use Rattle.std.proofs.Math.Nat.{mul_comm}
use Rattle.pw_inst.specs.InstructionTable.{decoded, form_of, system, three_register, long_immediate, compare, subtract_immediate, extract, deposit, branch_external, branch, memory}
use Rattle.pw_machine.specs.Run.{State}
use Rattle.pw_milli.specs.Words.{mul_words}
use Rattle.pw_milli.specs.Calls.{Enters, Computes, IsProduct}
use Rattle.pw_milli.proofs.Codes.{multiplying}
use Rattle.pw_milli.proofs.Small.{at, set, small_run, run_on}
use Rattle.pw_milli.proofs.Bridge.{reaches, links}
use Rattle.pw_milli.proofs.Returns.{Decodes, front_lies, enters, computes}
use Rattle.pw_milli.proofs.Multiplying.{mul_loop}

decodes : Decodes mul_words multiplying
unfolding decoded form_of system three_register long_immediate compare subtract_immediate extract deposit branch_external branch memory
decodes = (refl, (refl, (refl, (refl, (refl, (refl, (refl, (refl, (refl, (refl, (refl, (refl, (refl, (refl, (refl, (refl, (refl, (refl, (refl, (refl, (refl, (refl, (refl, (refl, (refl, (refl, (refl, (refl, (refl, (refl, (refl, (refl, (refl, (refl, (refl, (refl, (refl, (refl, (refl, (refl, (refl, (refl, (refl, (refl, (refl, (refl, (refl, (refl, (refl, (refl, (refl, (refl, (refl, (refl, (refl, (refl, (refl, (refl, (refl, (refl, (refl, (refl, (refl, (refl, (refl, (refl, (refl, (refl, (refl, (refl, (refl, (refl, (refl, (refl, (refl, (refl, (refl, (refl, (refl, (refl, (refl, (refl, (refl, (refl, (refl, (refl, (refl, (refl, (refl, (refl, (refl, (refl, (refl, (refl, (refl, (refl, (refl, (refl, (refl, (refl, (refl, (refl, (refl, (refl, (refl, (refl, (refl, (refl, (refl, (refl, (refl, (refl, (refl, (refl, (refl, (refl, (refl, (refl, (refl, (refl, (refl, (refl, (refl, (refl, (refl, (refl, (refl, (refl, (refl, (refl, (refl, (refl, (refl, (refl, (refl, (refl, (refl, (refl, tt))))))))))))))))))))))))))))))))))))))))))))))))))))))))))))))))))))))))))))))))))))))))))))))))))))))))))))))))))))))))))))))))))))))))))

-- ---- the instructions before the loop: the lesser operand becomes the multiplier

in_order : (f : ℕ → ℕ) → nat_le (f 26) (f 25) ≡ true → (g : ℕ → ℕ) × (small_run multiplying 2 (at 0 f) ≡ Some (at 4 g)) × (g 26 ≡ f 26) × (g 25 ≡ f 25)
in_order f e = (_, run_on multiplying 1 1 (at 0 f) _ (ap (λ (c : Bool). Some (record { registers = f; front = 1; back = if c then 4 else 2; nullify = false })) e) ∙ refl, refl, refl)

exchanged : (f : ℕ → ℕ) → nat_le (f 26) (f 25) ≡ false → (g : ℕ → ℕ) × (small_run multiplying 4 (at 0 f) ≡ Some (at 4 g)) × (g 26 ≡ bit_or (f 25) 0) × (g 25 ≡ bit_or (bit_or (f 26) 0) 0)
exchanged f e = (_, run_on multiplying 1 3 (at 0 f) _ (ap (λ (c : Bool). Some (record { registers = f; front = 1; back = if c then 4 else 2; nullify = false })) e) ∙ refl, refl, refl)

record Ordered (f : ℕ → ℕ) : Type 0 where
  steps : ℕ
  soon : steps ≤ 4
  last : ℕ → ℕ
  runs : small_run multiplying steps (at 0 f) ≡ Some (at 4 last)
  same : last 26 * last 25 ≡ f 26 * f 25

orders : (f : ℕ → ℕ) (b : Bool) → nat_le (f 26) (f 25) ≡ b → Ordered f
orders f true e =
    let g = in_order f e in
    record { steps = 2; soon = omega arith; last = g.0; runs = g.1; same = ap (λ (n : ℕ). n * g.0 25) g.2 ∙ ap (λ (n : ℕ). f 26 * n) g.3 }
orders f false e =
    let g = exchanged f e in
    let x : g.0 26 ≡ f 25 = g.2 ∙ or_zero_r (f 25) in
    let y : g.0 25 ≡ f 26 = g.3 ∙ or_zero_r (bit_or (f 26) 0) ∙ or_zero_r (f 26) in
    record { steps = 4; soon = omega arith; last = g.0; runs = g.1; same = ap (λ (n : ℕ). n * g.0 25) x ∙ ap (λ (n : ℕ). f 25 * n) y ∙ mul_comm (f 25) (f 26) }

-- register 29 is cleared on the way to the loop
clears : (f : ℕ → ℕ) → (g : ℕ → ℕ) × (small_run multiplying 1 (record { registers = f; front = 5; back = 134; nullify = false }) ≡ Some (at 134 g)) × (g 26 ≡ f 26) × (g 25 ≡ f 25) × (g 22 ≡ f 22) × (g 29 ≡ 0)
clears f = (_, refl, refl, refl, refl, refl)

total_is : (acc x y x' y' p : ℕ) → acc ≡ 0 → x ≡ x' → y ≡ y' → x' * y' ≡ p → (acc + x * y) % 2 ^ 32 ≡ p % 2 ^ 32
total_is acc x y x' y' p none e h k =
    let product : x * y ≡ p = ap (λ (n : ℕ). n * y) e ∙ ap (λ (n : ℕ). x' * n) h ∙ k in
    omega (arith, product, none)

pub mul_computes : (address : ℕ) (s : State) → Enters mul_words address s → Computes mul_words address s 240 (IsProduct s)
mul_computes a s h =
    let f = slice_index s.core.registers in
    let top = a + 4 * length mul_words in
    let st = front_lies mul_words multiplying a s h decodes (omega arith) in
    let ordered = orders f (nat_le (f 26) (f 25)) refl in
    let r1 = reaches top ordered.steps s a multiplying st 0 (at 0 f) (at 4 ordered.last) (enters top mul_words a s h) ordered.runs in
    let r2 = links top s a (0 + ordered.steps) 4 ordered.last multiplying 22 (pos 128) st r1 (omega arith) (omega arith) refl refl in
    let clear = clears (set ordered.last 22 (a + 4 * 6)) in
    let r3 = reaches top 1 s a multiplying st (0 + ordered.steps + 1) (record { registers = set ordered.last 22 (a + 4 * 6); front = 5; back = 134; nullify = false }) (at 134 clear.0) r2 clear.1 in
    let table : clear.0 22 ≡ a + 24 = clear.4 in
    let x : clear.0 26 < 2 ^ 32 = r3.holds.in_range 26 in
    let done = mul_loop top 7 s a (0 + ordered.steps + 1 + 1) clear.0 st r3 table x (omega arith) in
    let few : ordered.steps ≤ 4 = ordered.soon in
    let soon : done.steps ≤ 11 * (7 + 1) = done.soon in
    let total : (clear.0 29 + clear.0 26 * clear.0 25) % 2 ^ 32 ≡ f 26 * f 25 % 2 ^ 32 = total_is (clear.0 29) (clear.0 26) (clear.0 25) (ordered.last 26) (ordered.last 25) (f 26 * f 25) clear.5 clear.2 clear.3 ordered.same in
    let product : done.last 29 ≡ f 26 * f 25 % 2 ^ 32 = cc in
    computes mul_words a s a (0 + ordered.steps + 1 + 1 + done.steps) done.place 240 multiplying done.last (IsProduct s) st done.reach h.front (omega (arith, done.inside)) done.is_return (omega arith) product
