-- The routines leave the results that the lines have.
use Rattle.std.specs.Prelude.{ℕ, zero, suc, ℤ, ◌≡◌, ◌≢◌, ◌/◌, ◌%◌, List, int_div, int_rem, slice_index}
use Rattle.std.specs.Int.{cast_signed, cast_unsigned, w32}
use Rattle.std.proofs.Common.{arith}
use Rattle.pw_machine.specs.Core.{register}
use Rattle.pw_machine.specs.Run.{State}
use Rattle.pw_milli.specs.Words.{divs_words, divu_words, mul_words, rems_words, remu_words}
use Rattle.pw_milli.specs.Calls.{Computes, IsProduct, IsQuotient, IsRemainder, IsSignedQuotient, IsSignedRemainder}
use Rattle.pw_run_languages.specs.LineRun.{of_signed, of_unsigned, result_of}
use Rattle.pw_law_link_run.specs.Routines.{ResultIs, Makes}

makes_by : (words : List ℕ) (address : ℕ) (s : State) (j bound : ℕ) (IsResult : ℕ → Type 0) → Computes words address s bound IsResult
    → ((word : ℕ) → IsResult word → ResultIs (result_of j (register s.core 26) (register s.core 25)) word) → Makes words address s j
makes_by words address s j bound IsResult c f = record {
  steps = c.steps;
  registers = c.registers;
  runs = c.runs;
  inside = c.inside;
  result = f (slice_index c.registers 29) c.result;
  kept = c.kept;
  range = c.words;
}

unsigned_is : (f : ℕ → ℕ → ℕ) (a b word : ℕ) → (b ≢ 0 → word ≡ f a b) → ResultIs (of_unsigned f a b) word
unsigned_is f a zero word h = tt
unsigned_is f a (suc b) word h = h (λ e. omega (arith, e))

signed_is : (f : ℤ → ℤ → ℤ) (a b word : ℕ) → (b ≢ 0 → word ≡ cast_unsigned w32 (f (cast_signed w32 a) (cast_signed w32 b))) → ResultIs (of_signed f a b) word
signed_is f a zero word h = tt
signed_is f a (suc b) word h = h (λ e. omega (arith, e))

pub divs_makes : (address : ℕ) (s : State) → Computes divs_words address s 512 (IsSignedQuotient s) → Makes divs_words address s 0
divs_makes address s c = makes_by divs_words address s 0 512 (IsSignedQuotient s) c (λ word h. signed_is int_div (register s.core 26) (register s.core 25) word h)

pub divu_makes : (address : ℕ) (s : State) → Computes divu_words address s 512 (IsQuotient s) → Makes divu_words address s 1
divu_makes address s c = makes_by divu_words address s 1 512 (IsQuotient s) c (λ word h. unsigned_is (λ x y. x / y) (register s.core 26) (register s.core 25) word h)

pub mul_makes : (address : ℕ) (s : State) → Computes mul_words address s 240 (IsProduct s) → Makes mul_words address s 2
mul_makes address s c = makes_by mul_words address s 2 240 (IsProduct s) c (λ word h. h)

pub rems_makes : (address : ℕ) (s : State) → Computes rems_words address s 512 (IsSignedRemainder s) → Makes rems_words address s 3
rems_makes address s c = makes_by rems_words address s 3 512 (IsSignedRemainder s) c (λ word h. signed_is int_rem (register s.core 26) (register s.core 25) word h)

pub remu_makes : (address : ℕ) (s : State) → Computes remu_words address s 512 (IsRemainder s) → Makes remu_words address s 4
remu_makes address s c = makes_by remu_words address s 4 512 (IsRemainder s) c (λ word h. unsigned_is (λ x y. x % y) (register s.core 26) (register s.core 25) word h)
