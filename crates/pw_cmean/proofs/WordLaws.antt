-- Operations on words give words.
use Rattle.std.proofs.Common.{ℕ, zero, suc, ◌/◌, ◌%◌, ◌^◌, ◌<◌, ◌≡◌, refl, arith, Bool, true, false, Result, Ok, Err}
use Rattle.std.specs.Prelude.{ℤ, pos, negsuc, neg_ℤ, ◌+ℤ◌, ◌-ℤ◌, ◌*ℤ◌, nat_lt, nat_le, ◌==◌, if◌then◌else◌, int_div, int_rem}
use Rattle.std.specs.Int.{int_shr}
use Rattle.std.proofs.lemmas.Bool.Decides.{nat_tests}
use Rattle.std.proofs.lemmas.Int.{ints}
use Rattle.std.proofs.lemmas.Nat.{or_of_32, xor_lt, and_le_l}
use Rattle.std.proofs.Math.Nat.{div-le_self, mod-le}
use Rattle.pw_value.specs.declared.words.WordFault.{WordFault}
use Rattle.pw_value.specs.declared.words.WordFault.TheVariants.{Overflow, ZeroDivisor, ShiftCount}
use Rattle.pw_value.specs.Words.{signed, word, int_max, exact, divided, shifted}
use Rattle.pw_types.specs.declared.tree.BinaryOperator.{BinaryOperator}
use Rattle.pw_types.specs.declared.tree.BinaryOperator.TheVariants.{Add, Subtract, Multiply, Divide, Remainder, ShiftLeft, ShiftRight, Less, Greater, LessEqual, GreaterEqual, Equal, NotEqual, And, ExclusiveOr, Or}
use Rattle.pw_cmean.specs.Operators.{arithmetic, negation, number_for}

-- what is given, if anything, is a word
abbrev pub GivesWord : Result ℕ WordFault → Type 0
GivesWord (Ok n) = n < 2 ^ 32
GivesWord (Err fault) = Unit {0}

-- a number that is no word is none of these
IsSmall : ℤ → Type 0
IsSmall (pos n) = n < 2 ^ 32
IsSmall (negsuc n) = Unit {0}

word-below : (z : ℤ) → IsSmall z → word z < 2 ^ 32
unfolding IsSmall
word-below (pos n) h = h
word-below (negsuc n) h = omega arith

small-signed : (a : ℕ) → a < 2 ^ 32 → IsSmall (signed a)
unfolding IsSmall
small-signed a h = grind (arith, ints)

small-rem : (y z : ℤ) → IsSmall y → IsSmall (int_rem y z)
unfolding IsSmall
small-rem (pos a) z h = omega (arith, mod-le a)
small-rem (negsuc a) z h = small-negated (suc a) _
  where
    small-neg : (m : ℕ) → IsSmall (neg_ℤ (pos m))
    small-neg zero = omega arith
    small-neg (suc m) = tt

    small-negated : (n d : ℕ) → IsSmall (neg_ℤ (pos (n % d)))
    small-negated n d = small-neg (n % d)

small-shr : (z : ℤ) (n : ℕ) → IsSmall z → IsSmall (int_shr z n)
unfolding IsSmall
small-shr (pos a) n h = omega (arith, div-le_self a (2 ^ n))
small-shr (negsuc a) n h = tt

if-word : (b : Bool) (r q : Result ℕ WordFault) → GivesWord r → GivesWord q → GivesWord (if b then r else q)
if-word true r q h k = h
if-word false r q h k = k

pub exact-word : (z : ℤ) → GivesWord (exact z)
exact-word (pos n) = fitting (nat_le n int_max) n refl
  where
    fitting : (b : Bool) (n : ℕ) → nat_le n int_max ≡ b → GivesWord (if b then Ok n else Err Overflow)
    fitting true n e = grind (arith, nat_tests)
    fitting false n e = tt
exact-word (negsuc n) = if-word (nat_le n int_max) (Ok (word (negsuc n))) (Err Overflow) (omega arith) tt

divided-word : (b : ℕ) (r : Result ℕ WordFault) → GivesWord r → GivesWord (divided b r)
divided-word b r h = if-word (b == 0) (Err ZeroDivisor) r tt h

shifted-word : (count n : ℕ) → n < 2 ^ 32 → GivesWord (shifted count n)
shifted-word count n h = if-word (nat_lt count 32) (Ok n) (Err ShiftCount) h tt

pub number_for-word : (b : Bool) → number_for b < 2 ^ 32
number_for-word true = omega arith
number_for-word false = omega arith

pub arithmetic-word : (op : BinaryOperator) (sign : Bool) (a b : ℕ) → a < 2 ^ 32 → b < 2 ^ 32 → GivesWord (arithmetic op sign a b)
arithmetic-word Add true a b h k = exact-word (signed a +ℤ signed b)
arithmetic-word Add false a b h k = omega arith
arithmetic-word Subtract true a b h k = exact-word (signed a -ℤ signed b)
arithmetic-word Subtract false a b h k = omega arith
arithmetic-word Multiply true a b h k = exact-word (signed a *ℤ signed b)
arithmetic-word Multiply false a b h k = omega arith
arithmetic-word Divide true a b h k = divided-word b _ (exact-word (int_div (signed a) (signed b)))
arithmetic-word Divide false a b h k = divided-word b (Ok (a / b)) (omega (arith, div-le_self a b))
arithmetic-word Remainder true a b h k =
    divided-word b _ (if-word _ (Ok (word (int_rem (signed a) (signed b)))) (Err Overflow)
    (word-below (int_rem (signed a) (signed b)) (small-rem (signed a) (signed b) (small-signed a h))) tt)
arithmetic-word Remainder false a b h k = divided-word b (Ok (a % b)) (omega (arith, mod-le a b))
arithmetic-word ShiftLeft sign a b h k = shifted-word b _ (omega arith)
arithmetic-word ShiftRight true a b h k =
    shifted-word b _ (word-below (int_shr (signed a) b) (small-shr (signed a) b (small-signed a h)))
arithmetic-word ShiftRight false a b h k = shifted-word b _ (omega (arith, div-le_self a (2 ^ b)))
arithmetic-word Less true a b h k = number_for-word _
arithmetic-word Less false a b h k = number_for-word _
arithmetic-word Greater true a b h k = number_for-word _
arithmetic-word Greater false a b h k = number_for-word _
arithmetic-word LessEqual true a b h k = number_for-word _
arithmetic-word LessEqual false a b h k = number_for-word _
arithmetic-word GreaterEqual true a b h k = number_for-word _
arithmetic-word GreaterEqual false a b h k = number_for-word _
arithmetic-word Equal sign a b h k = number_for-word _
arithmetic-word NotEqual sign a b h k = number_for-word _
arithmetic-word And sign a b h k = omega (arith, and_le_l a b)
arithmetic-word ExclusiveOr sign a b h k = xor_lt 32 a b h k
arithmetic-word Or sign a b h k = or_of_32 a b h k

pub negation-word : (sign : Bool) (n : ℕ) → n < 2 ^ 32 → GivesWord (negation sign n)
negation-word true n h = exact-word (neg_ℤ (signed n))
negation-word false n h = omega arith
