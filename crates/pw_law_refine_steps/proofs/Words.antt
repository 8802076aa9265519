-- Operators on words: where C's has a result, the operation that lowering makes of it has the same.
use Rattle.std.proofs.Common.{◌≡◌, ℕ, ◌+◌, ◌-◌, ◌*◌, ◌%◌, ◌^◌, ◌<◌, ◌≤◌, Bool, true, false, true≢false, if◌then◌else◌, Some, Result, Ok, Err, is_ok, refl, ap, sym, ◌∙◌, arith, leb-true}
use Rattle.std.specs.Prelude.{ℤ, pos, negsuc, neg_ℤ, ◌+ℤ◌, ◌-ℤ◌, ◌*ℤ◌, FitsSigned}
use Rattle.std.specs.Int.{w32, cast_signed, cast_unsigned, int_wrap}
use Rattle.std.proofs.lemmas.Int.{ints, of_z-to_z, int_wrap_fits, wrapping_add-bits, wrapping_sub-bits, wrapping_mul-bits}
use Rattle.pw_value.specs.declared.value.Value.TheVariants as V
use Rattle.pw_value.specs.declared.words.WordFault.{WordFault}
use Rattle.pw_value.specs.declared.words.WordFault.TheVariants.{Overflow}
use Rattle.pw_value.specs.Words.{signed, word, int_max, fits, exact, unsigned_negation}
use Rattle.pw_types.specs.declared.tree.BinaryOperator.{BinaryOperator}
use Rattle.pw_types.specs.declared.tree.BinaryOperator.TheVariants.{Add, Subtract, Multiply, Divide, Remainder, ShiftLeft, ShiftRight, Less, Greater, LessEqual, GreaterEqual, Equal, NotEqual, And, ExclusiveOr, Or}
use Rattle.pw_cmean.specs.Operators.{arithmetic, negation, number_for}
use Rattle.pw_flow.specs.declared.flow.UnKind.TheVariants.{Neg}
use Rattle.pw_law_source.specs.FromRunLanguages.Values as flow
use Rattle.pw_law_refine_steps.specs.Operations.{operated}

-- ---- results

ok_of : Result ℕ WordFault → ℕ
ok_of (Ok n) = n
ok_of (Err fault) = 0

-- a result that is there where a test holds
fitting : (b : Bool) (x n : ℕ) → (if b then Ok x else Err Overflow) ≡ Ok n → (b ≡ true) × (x ≡ n)
unfolding ok_of
fitting true x n e = (refl, ap ok_of e)
fitting false x n e = absurd (true≢false (sym (ap (λ (r : Result ℕ WordFault). is_ok r) e)))

fits-signed : (z : ℤ) → fits z ≡ true → FitsSigned w32 z
fits-signed (pos n) e = record { sfits = let h : n ≤ int_max = leb-true n int_max e in omega arith }
fits-signed (negsuc n) e = record { sfits = let h : n ≤ int_max = leb-true n int_max e in omega arith }

-- the exact result of an operation on ints, by a word that is the same modulo 2^32
exact-word : (z : ℤ) (x n : ℕ) → exact z ≡ Ok n → x < 2 ^ 32 → cast_signed w32 x ≡ int_wrap w32 z → x ≡ n
exact-word z x n e h same =
    let f = fitting (fits z) (word z) n e in
    sym (of_z-to_z w32 x h) ∙ ap (λ (y : ℤ). cast_unsigned w32 y) (same ∙ int_wrap_fits w32 z (fits-signed z f.0)) ∙ f.1

number : (x n : ℕ) → x ≡ n → Some (V.Num x) ≡ Some (V.Num n)
number x n e = ap (λ (k : ℕ). Some (V.Num k)) e

truth-is : (b : Bool) → flow.truth b ≡ V.Num (number_for b)
truth-is true = refl
truth-is false = refl

-- a comparison
tested : (b : Bool) (n : ℕ) → ◌≡◌ {A = Result ℕ WordFault} (Ok (number_for b)) (Ok n) → Some (flow.truth b) ≡ Some (V.Num n)
unfolding ok_of
tested b n e = ap Some (truth-is b) ∙ number (number_for b) n (ap ok_of e)

-- a result that is always there
plainly : (x n : ℕ) → ◌≡◌ {A = Result ℕ WordFault} (Ok x) (Ok n) → Some (V.Num x) ≡ Some (V.Num n)
unfolding ok_of
plainly x n e = number x n (ap ok_of e)

-- ---- operators

pub operators : (o : BinaryOperator) (sign : Bool) (a b n : ℕ) → a < 2 ^ 32 → b < 2 ^ 32 → arithmetic o sign a b ≡ Ok n → operated o sign a b ≡ Some (V.Num n)
operators Add true a b n h k e =
    number ((a + b) % 2 ^ 32) n (exact-word (signed a +ℤ signed b) ((a + b) % 2 ^ 32) n e (omega arith) (wrapping_add-bits w32 a b h k))
operators Add false a b n h k e = plainly _ n e
operators Subtract true a b n h k e =
    number ((a + (2 ^ 32 - b)) % 2 ^ 32) n (exact-word (signed a -ℤ signed b) ((a + (2 ^ 32 - b)) % 2 ^ 32) n e (omega arith) (wrapping_sub-bits w32 a b h k))
operators Subtract false a b n h k e = plainly _ n e
operators Multiply true a b n h k e =
    number (a * b % 2 ^ 32) n (exact-word (signed a *ℤ signed b) (a * b % 2 ^ 32) n e (omega arith) (wrapping_mul-bits w32 a b h k))
operators Multiply false a b n h k e = plainly _ n e
operators Divide true a b n h k e = ap flow.number_of e
operators Divide false a b n h k e = ap flow.number_of e
operators Remainder true a b n h k e = ap flow.number_of e
operators Remainder false a b n h k e = ap flow.number_of e
operators ShiftLeft sign a b n h k e = ap flow.number_of e
operators ShiftRight true a b n h k e = ap flow.number_of e
operators ShiftRight false a b n h k e = ap flow.number_of e
operators Less true a b n h k e = tested _ n e
operators Less false a b n h k e = tested _ n e
operators Greater true a b n h k e = tested _ n e
operators Greater false a b n h k e = tested _ n e
operators LessEqual true a b n h k e = tested _ n e
operators LessEqual false a b n h k e = tested _ n e
operators GreaterEqual true a b n h k e = tested _ n e
operators GreaterEqual false a b n h k e = tested _ n e
operators Equal sign a b n h k e = tested _ n e
operators NotEqual sign a b n h k e = tested _ n e
operators And sign a b n h k e = plainly _ n e
operators ExclusiveOr sign a b n h k e = plainly _ n e
operators Or sign a b n h k e = plainly _ n e

-- ---- minus

negated : (z : ℤ) → cast_signed w32 0 -ℤ z ≡ neg_ℤ z
negated z = grind (arith, ints)

pub minus : (sign : Bool) (a n : ℕ) → a < 2 ^ 32 → negation sign a ≡ Ok n → flow.unary Neg (V.Num a) ≡ Some (V.Num n)
minus true a n h e =
    number (unsigned_negation a) n (exact-word (neg_ℤ (signed a)) (unsigned_negation a) n e (omega arith)
    (wrapping_sub-bits w32 0 a (omega arith) h ∙ ap (λ (z : ℤ). int_wrap w32 z) (negated (signed a))))
minus false a n h e = plainly _ n e
