-- Constant expressions: each operation on words makes a word.
use Rattle.std.specs.Prelude.{ℕ, ℤ, pos, negsuc, neg_ℤ, ◌+ℤ◌, ◌-ℤ◌, ◌*ℤ◌, int_div, int_rem, ◌≡◌, ◌<◌, ◌≤◌, ◌+◌, ◌-◌, ◌*◌, ◌/◌, ◌%◌, ◌^◌, ◌==◌, ◌&&◌, Bool, true, false, not, nat_le, if◌then◌else◌, Option, None, Some, unwrap_or, Result, Ok, Err, bit_and, bit_or, bit_xor, refl}
use Rattle.std.proofs.Common.{arith, subst}
use Rattle.std.specs.Int.{int_shr}
use Rattle.std.specs.Int.RustNames.{unsigned_abs}
use Rattle.std.proofs.lemmas.Bool.{leb-true}
use Rattle.std.proofs.lemmas.Int.{ints, rem_below}
use Rattle.std.proofs.lemmas.Nat.{and_le_l, or_lt, xor_lt}
use Rattle.std.proofs.Math.Nat.{div-le_self}
use Rattle.pw_value.specs.Words as w
use Rattle.pw_value.specs.declared.words.WordFault.{WordFault}
use Rattle.pw_value.specs.declared.words.WordFault.TheVariants as F
use Rattle.pw_types.specs.Conversions.{is_signed_kind}
use Rattle.pw_types.specs.declared.kind.IntKind.{IntKind}
use Rattle.pw_types.specs.declared.kind.IntKind.TheVariants as K
use Rattle.pw_types.specs.declared.tree.BinaryOperator.{BinaryOperator}
use Rattle.pw_types.specs.declared.tree.BinaryOperator.TheVariants as B
use Rattle.pw_types.specs.declared.tree.LogicOperator.{LogicOperator}
use Rattle.pw_types.specs.declared.tree.LogicOperator.TheVariants as L
use Rattle.pw_types.specs.declared.tree.UnaryOperator.{UnaryOperator}
use Rattle.pw_types.specs.declared.tree.UnaryOperator.TheVariants as U
use Rattle.pw_types.specs.TypeTrees.{CType, Void, Int, Pointer, Array, Function, Record, Qualified}
use Rattle.pw_types.specs.TypedTrees.{Expression, Node}
use Rattle.pw_types.specs.TypedTrees as T
use Rattle.pw_types.specs.WellTyped.{type_in}
use Rattle.pw_check_rules.specs.Kinds.{kind_in}
use Rattle.pw_check_rules.specs.Constants.{Constancy, Known, NoConstant, NoValue, then_known, unevaluated, by_result, truth, convert_word, unary_word, either, binary_word, logic_word, choice_word, then_formed, if_integral, both_known, constant_of, value_known, constant_value}
use Rattle.pw_law_checked.specs.Lawful.{AreWords}
use Rattle.pw_law_checked.proofs.Lists.{some_same, never_some}

-- a value that is known is a word
abbrev IsWord : Constancy → Type 0
IsWord (Known n) = n < 2 ^ 32
IsWord NoConstant = Unit {0}
IsWord NoValue = Unit {0}

abbrev MakesWords : Result ℕ WordFault → Type 0
MakesWords r = (s : ℕ) → r ≡ Ok s → s < 2 ^ 32

ok_word : (n : ℕ) → n < 2 ^ 32 → MakesWords (Ok n)
ok_word n h s e = let same : n ≡ s = cc in subst (λ k. k < 2 ^ 32) same h

err_word : (f : WordFault) → MakesWords (Err f)
err_word f s e = absurd cc

divided_word : (b : ℕ) (answer : Result ℕ WordFault) → MakesWords answer → MakesWords (w.divided b answer)
divided_word b answer h = by (b == 0)
  where
    by : (x : Bool) → MakesWords (if x then Err F.ZeroDivisor else answer)
    by true = err_word _
    by false = h

shifted_word : (count n : ℕ) → n < 2 ^ 32 → MakesWords (w.shifted count n)
shifted_word count n h = by (Rattle.std.specs.Prelude.nat_lt count 32)
  where
    by : (x : Bool) → MakesWords (if x then Ok n else Err F.ShiftCount)
    by true = ok_word n h
    by false = err_word _

result_word : (r : Result ℕ WordFault) → MakesWords r → IsWord (by_result r)
result_word (Ok n) h = h n refl
result_word (Err f) h = tt

either_word : (x : Bool) (a b : Result ℕ WordFault) → MakesWords a → MakesWords b → IsWord (either x a b)
either_word true a b h k = result_word a h
either_word false a b h k = result_word b k

truth_word : (b : Bool) → truth b < 2 ^ 32
truth_word true = omega arith
truth_word false = omega arith

quotient_word : (a b : ℕ) → a < 2 ^ 32 → a / b < 2 ^ 32
quotient_word a b h = let k = div-le_self a b in omega arith

-- the remainder is no greater, where the divisor is not 0
remainder_word : (a b : ℕ) → b < 2 ^ 32 → MakesWords (w.unsigned_remainder a b)
remainder_word a b h = by (b == 0) refl
  where
    below : (b == 0) ≡ false → a % b < 2 ^ 32
    below e = let k : Rattle.std.specs.Prelude.zero < b = grind arith in let m = Rattle.std.proofs.Math.Nat.mod-lt a k in omega arith

    by : (x : Bool) → (b == 0) ≡ x → MakesWords (if x then Err F.ZeroDivisor else Ok (a % b))
    by true e = err_word _
    by false e = ok_word (a % b) (below e)

convert_by : (width : ℕ) (sign : Bool) (n : ℕ) → n < width → width ≤ 2 ^ 32 → (if (sign && nat_le width (2 * n)) then 2 ^ 32 - (width - n) else n) < 2 ^ 32
convert_by width sign n h k = by (sign && nat_le width (2 * n))
  where
    by : (x : Bool) → (if x then 2 ^ 32 - (width - n) else n) < 2 ^ 32
    by true = omega arith
    by false = omega arith

converted_word : (kind : IntKind) (n : ℕ) → convert_word kind n < 2 ^ 32
converted_word K.Char n = convert_by 256 true (n % 256) (omega arith) (omega arith)
converted_word K.SChar n = convert_by 256 true (n % 256) (omega arith) (omega arith)
converted_word K.UChar n = convert_by 256 false (n % 256) (omega arith) (omega arith)
converted_word K.Short n = convert_by 65536 true (n % 65536) (omega arith) (omega arith)
converted_word K.UShort n = convert_by 65536 false (n % 65536) (omega arith) (omega arith)
converted_word K.Int n = convert_by (2 ^ 32) true (n % 2 ^ 32) (omega arith) (omega arith)
converted_word K.UInt n = convert_by (2 ^ 32) false (n % 2 ^ 32) (omega arith) (omega arith)
converted_word K.Long n = convert_by (2 ^ 32) true (n % 2 ^ 32) (omega arith) (omega arith)
converted_word K.ULong n = convert_by (2 ^ 32) false (n % 2 ^ 32) (omega arith) (omega arith)

known_word : (c : Constancy) (next : ℕ → Constancy) → IsWord c → ((n : ℕ) → n < 2 ^ 32 → IsWord (next n)) → IsWord (then_known c next)
known_word (Known n) next h k = k n h
known_word NoConstant next h k = tt
known_word NoValue next h k = tt

both_word : (a b : Constancy) (next : ℕ → ℕ → Constancy) → IsWord a → IsWord b → ((n m : ℕ) → n < 2 ^ 32 → m < 2 ^ 32 → IsWord (next n m)) → IsWord (both_known a b next)
both_word (Known n) (Known m) next h k f = f n m h k
both_word (Known n) NoConstant next h k f = tt
both_word (Known n) NoValue next h k f = tt
both_word NoConstant b next h k f = tt
both_word NoValue (Known m) next h k f = tt
both_word NoValue NoConstant next h k f = tt
both_word NoValue NoValue next h k f = tt

integral_word : (ty : CType) (c : Constancy) → IsWord c → IsWord (if_integral ty c)
integral_word (Int k) c h = h
integral_word Void c h = tt
integral_word (Pointer q) c h = tt
integral_word (Array q n) c h = tt
integral_word (Function q ps) c h = tt
integral_word (Record n) c h = tt

formed_word : (b c : Constancy) → IsWord c → IsWord (then_formed b c)
formed_word NoConstant c h = tt
formed_word (Known n) c h = h
formed_word NoValue c h = h

formed_then : (c d : Constancy) → IsWord d → IsWord (then_known (unevaluated c) (λ n. d))
formed_then NoConstant d h = tt
formed_then (Known n) d h = h
formed_then NoValue d h = h

truth_known : (c : Constancy) → IsWord (then_known c (λ n. Known (truth (not (n == 0)))))
truth_known (Known n) = truth_word (not (n == 0))
truth_known NoConstant = tt
truth_known NoValue = tt

logic_known : (op : LogicOperator) (a : ℕ) (b : Constancy) → IsWord (logic_word op a b)
logic_known L.And a b = by (a == 0)
  where
    by : (x : Bool) → IsWord (if x then then_known (unevaluated b) (λ n. Known 0) else then_known b (λ n. Known (truth (not (n == 0)))))
    by true = formed_then b (Known 0) (omega arith)
    by false = truth_known b
logic_known L.Or a b = by (a == 0)
  where
    by : (x : Bool) → IsWord (if x then then_known b (λ n. Known (truth (not (n == 0)))) else then_known (unevaluated b) (λ n. Known 1))
    by true = truth_known b
    by false = formed_then b (Known 1) (omega arith)

choice_known : (c : ℕ) (a b : Constancy) → IsWord a → IsWord b → IsWord (choice_word c a b)
choice_known c a b h k = by (c == 0)
  where
    by : (x : Bool) → IsWord (if x then then_known (unevaluated a) (λ n. b) else then_known (unevaluated b) (λ n. a))
    by true = formed_then a b k
    by false = formed_then b a h

-- ---- int

word_small : (z : ℤ) → unsigned_abs z < 2 ^ 32 → w.word z < 2 ^ 32
word_small (pos n) h = omega (arith, h)
word_small (negsuc n) h = omega arith

exact_word : (z : ℤ) → MakesWords (w.exact z)
exact_word (pos n) = by (nat_le n w.int_max) refl
  where
    by : (x : Bool) → nat_le n w.int_max ≡ x → MakesWords (if x then Ok (w.word (pos n)) else Err F.Overflow)
    by true e = ok_word (w.word (pos n)) (let h : n ≤ w.int_max = leb-true n w.int_max e in omega (arith, h))
    by false e = err_word _
exact_word (negsuc n) = by (nat_le n w.int_max)
  where
    by : (x : Bool) → MakesWords (if x then Ok (w.word (negsuc n)) else Err F.Overflow)
    by true = ok_word (w.word (negsuc n)) (omega arith)
    by false = err_word _

-- how far an int is from 0
signed_near : (a : ℕ) → a < 2 ^ 32 → unsigned_abs (w.signed a) < 2 ^ 32
signed_near a h = grind (arith, ints, h)

signed_away : (a : ℕ) → a < 2 ^ 32 → (a == 0) ≡ false → 0 < unsigned_abs (w.signed a)
signed_away a h e = let k : 0 < a = grind arith in grind (arith, ints, h, k)

-- the remainder is nearer to 0 than the divisor
left_word : (a b : ℕ) → b < 2 ^ 32 → MakesWords (w.signed_remainder a b)
left_word a b h = by (b == 0) refl
  where
    near : (b == 0) ≡ false → unsigned_abs (int_rem (w.signed a) (w.signed b)) < 2 ^ 32
    near e =
        let below = rem_below (w.signed a) (w.signed b) (signed_away b h e) in
        let own = signed_near b h in
        omega (arith, below, own)

    answer : (b == 0) ≡ false → (x : Bool) → MakesWords (if x then Ok (w.word (int_rem (w.signed a) (w.signed b))) else Err F.Overflow)
    answer e true = ok_word _ (word_small (int_rem (w.signed a) (w.signed b)) (near e))
    answer e false = err_word _

    by : (x : Bool) → (b == 0) ≡ x → MakesWords (if x then Err F.ZeroDivisor else (if w.fits (int_div (w.signed a) (w.signed b)) then Ok (w.word (int_rem (w.signed a) (w.signed b))) else Err F.Overflow))
    by true e = err_word _
    by false e = answer e (w.fits (int_div (w.signed a) (w.signed b)))

-- and what is shifted to the right nearer than what it was
right_word : (z : ℤ) (k : ℕ) → unsigned_abs z < 2 ^ 32 → w.word (int_shr z k) < 2 ^ 32
right_word (pos n) k h = let less = div-le_self n (2 ^ k) in omega (arith, h, less)
right_word (negsuc n) k h = omega arith

reduced : (n : ℕ) → n % 2 ^ 32 < 2 ^ 32
reduced n = omega arith

unary_known : (op : UnaryOperator) (kind : IntKind) (n : ℕ) → n < 2 ^ 32 → IsWord (unary_word op kind n)
unary_known U.Plus kind n h = h
unary_known U.Minus kind n h = by (is_signed_kind kind)
  where
    by : (x : Bool) → IsWord (if x then by_result (w.signed_negation n) else Known (w.unsigned_negation n))
    by true = result_word (w.signed_negation n) (exact_word (neg_ℤ (w.signed n)))
    by false = reduced _
unary_known U.Complement kind n h = omega arith
unary_known U.Not kind n h = truth_word (n == 0)

binary_known : (op : BinaryOperator) (x : Bool) (a b : ℕ) → a < 2 ^ 32 → b < 2 ^ 32 → IsWord (binary_word op x a b)
binary_known B.Add x a b h k = either_word x _ _ (exact_word (w.signed a +ℤ w.signed b)) (ok_word (w.unsigned_sum a b) (reduced (a + b)))
binary_known B.Subtract x a b h k = either_word x _ _ (exact_word (w.signed a -ℤ w.signed b)) (ok_word (w.unsigned_difference a b) (reduced (a + (2 ^ 32 - b))))
binary_known B.Multiply x a b h k = either_word x _ _ (exact_word (w.signed a *ℤ w.signed b)) (ok_word (w.unsigned_product a b) (reduced (a * b)))
binary_known B.Divide x a b h k = either_word x _ _ (divided_word b _ (exact_word (int_div (w.signed a) (w.signed b)))) (divided_word b _ (ok_word (a / b) (quotient_word a b h)))
binary_known B.Remainder x a b h k = either_word x _ _ (left_word a b k) (remainder_word a b k)
binary_known B.ShiftLeft x a b h k = result_word _ (shifted_word b (a * 2 ^ b % 2 ^ 32) (reduced _))
binary_known B.ShiftRight x a b h k = either_word x _ _ (shifted_word b _ (right_word (w.signed a) b (signed_near a h))) (shifted_word b (a / 2 ^ b) (quotient_word a (2 ^ b) h))
binary_known B.Less x a b h k = truth_word _
binary_known B.Greater x a b h k = truth_word _
binary_known B.LessEqual x a b h k = truth_word _
binary_known B.GreaterEqual x a b h k = truth_word _
binary_known B.Equal x a b h k = truth_word _
binary_known B.NotEqual x a b h k = truth_word _
binary_known B.And x a b h k = let l = and_le_l a b in omega arith
binary_known B.ExclusiveOr x a b h k = xor_lt 32 a b h k
binary_known B.Or x a b h k = or_lt 32 a b h k

constant_words : (e : Expression) → AreWords e → IsWord (constant_of e)
unfolding constant_of
constant_words (Node t (Qualified (Int kind) c v) (T.Number n)) h = h
constant_words (Node t (Qualified (Int kind) c v) (T.Unary op a)) h =
    known_word (constant_of a) _ (constant_words a h) (λ n k. integral_word (type_in a) _ (unary_known op (kind_in (type_in a)) n k))
constant_words (Node t (Qualified (Int kind) c v) (T.Binary op a b)) h =
    integral_word (type_in a) _ (integral_word (type_in b) _
    (both_word (constant_of a) (constant_of b) _ (constant_words a h.0) (constant_words b h.1) (λ n m k j. binary_known op _ n m k j)))
constant_words (Node t (Qualified (Int kind) c v) (T.Logic op a b)) h =
    formed_word (constant_of b) _ (known_word (constant_of a) _ (constant_words a h.0) (λ n k. logic_known op n (constant_of b)))
constant_words (Node t (Qualified (Int kind) c v) (T.Cond a b d)) h =
    formed_word (constant_of b) _ (formed_word (constant_of d) _
    (known_word (constant_of a) _ (constant_words a h.0) (λ n k. choice_known n (constant_of b) (constant_of d) (constant_words b h.1) (constant_words d h.2))))
constant_words (Node t (Qualified (Int kind) c v) (T.Cast a)) h =
    integral_word (type_in a) _ (known_word (constant_of a) _ (constant_words a h) (λ n k. converted_word kind n))
constant_words e h = tt

value_word : (c : Constancy) (n : ℕ) → IsWord c → value_known c ≡ Some n → n < 2 ^ 32
value_word (Known m) n h e = subst (λ k. k < 2 ^ 32) (some_same e) h
value_word NoConstant n h e = never_some e
value_word NoValue n h e = never_some e

pub constants_words : (e : Expression) (n : ℕ) → AreWords e → constant_value e ≡ Some n → n < 2 ^ 32
constants_words e n h is = value_word (constant_of e) n (constant_words e h) is

-- where there is no value, another word stands for it
pub value_or : (e : Expression) → AreWords e → unwrap_or (constant_value e) 0 < 2 ^ 32
value_or e h = by (constant_value e) refl
  where
    by : (o : Option ℕ) → constant_value e ≡ o → unwrap_or o 0 < 2 ^ 32
    by None is = omega arith
    by (Some n) is = constants_words e n h is
