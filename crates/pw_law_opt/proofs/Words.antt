-- What is known to be a constant is a word, and what is known to be a copied temporary is one of the function's.
use Rattle.std.specs.Prelude.{ℕ, ◌≡◌, ◌≢◌, ◌+◌, ◌-◌, ◌*◌, ◌/◌, ◌%◌, ◌<◌, ◌≤◌, ◌^◌, ◌==◌, nat_lt, nat_le, Bool, true, false, not, if◌then◌else◌, Option, Some, None, Result, Ok, Err, List, length, slice_set, bit_and, bit_or, bit_xor}
use Rattle.std.proofs.Common.{refl, sym, ap, subst, ◌∙◌, arith, inl, inr}
use Rattle.std.proofs.lemmas.Bool.{cases_lt, cases_Bool, eqb-true, eq-eqb, lt-ltb, ltb-true}
use Rattle.std.proofs.lemmas.List.{get_or-set_same, get_or-set_other, get_or_past, length-set}
use Rattle.std.proofs.lemmas.Nat.{or_lt, xor_lt}
use Rattle.std.specs.Int.Bits.{and_lt}
use Rattle.std.proofs.Math.Nat.{mod-lt, mod-le, div-le_self}
use Rattle.std.proofs.Math.ListN.{get_or-map}
use Rattle.pw_value.specs.Words.{unsigned_sum, unsigned_difference, unsigned_product, signed_quotient, signed_remainder, signed_shift_right, signed_less, signed_at_most, unsigned_less, unsigned_at_most}
use Rattle.pw_value.specs.Values.{extended}
use Rattle.pw_value.specs.declared.words.WordFault.{WordFault}
use Rattle.pw_value.specs.declared.words.WordFault.TheVariants.{ZeroDivisor, ShiftCount}
use Rattle.pw_flow.specs.declared.flow.Op.{Op}
use Rattle.pw_flow.specs.declared.flow.Op.TheVariants as op
use Rattle.pw_flow.specs.declared.flow.UnKind.{UnKind}
use Rattle.pw_flow.specs.declared.flow.UnKind.TheVariants.{Neg, Not}
use Rattle.pw_flow.specs.declared.flow.BinKind.{BinKind}
use Rattle.pw_flow.specs.declared.flow.BinKind.TheVariants.{Add, Sub, And, Or, Xor, Mul, DivS, DivU, RemS, RemU, Shl, ShrS, ShrU, Eq, Ne, LtS, LeS, LtU, LeU}
use Rattle.pw_flow.specs.declared.flow.ExtKind.{ExtKind}
use Rattle.pw_flow.specs.declared.flow.ExtKind.TheVariants.{S8, U8, S16, U16}
use Rattle.pw_flow.specs.Uses.{op_defines}
use Rattle.pw_flow.specs.ValidFlow.{IsOp}
use Rattle.pw_opt_rules.specs.declared.flat.Flat.{Flat}
use Rattle.pw_opt_rules.specs.declared.flat.Flat.TheVariants.{Bottom, One, Many}
use Rattle.pw_opt_rules.specs.Flat.{is_one, of_one, of_two}
use Rattle.pw_opt_rules.specs.Rows.{known}
use Rattle.pw_opt_rules.specs.Constants.{truth, un_word, ext_word, word_or_many, bin_word, constant, with_known, constant_transfer}
use Rattle.pw_opt_rules.specs.Copies.{copied, without_copies, with_copy, copy_transfer}
use Rattle.pw_law_opt.proofs.Keeping.{IsFine, AreFine, Gives}

-- ---- one place

set_fine : (ok : ℕ → Bool) (row : List Flat) (t : ℕ) (x : Flat) → AreFine ok row → IsFine ok x → AreFine ok (slice_set row t x)
set_fine ok row t x fine is u = elim (cases_Bool (u == t)) [
  | inl e ↦ elim (cases_lt t (length row)) [
    | inl within ↦ subst (λ k. IsFine ok (known (slice_set row t x) k)) (sym (eqb-true u t e)) (subst (IsFine ok) (sym (get_or-set_same row t x Many within)) is)
    | inr past ↦
        let long : length (slice_set row t x) ≡ length row = length-set row t x in
        subst (λ k. IsFine ok (known (slice_set row t x) k)) (sym (eqb-true u t e)) (subst (IsFine ok) (sym (get_or_past (slice_set row t x) t Many (omega (arith, past, long)))) tt)
  ]
  | inr e ↦
      let apart : u ≢ t = λ here. absurd (let k : (u == t) ≡ true = ap (λ k. u == k) (sym here) ∙ eq-eqb u u refl in cc) in
      subst (IsFine ok) (sym (get_or-set_other row t u x Many apart)) (fine u)
]

known_fine : (ok : ℕ → Bool) (row : List Flat) (t : Option ℕ) (x : Flat) → AreFine ok row → IsFine ok x → AreFine ok (with_known row t x)
known_fine ok row None x fine is = fine
known_fine ok row (Some t) x fine is = set_fine ok row t x fine is

-- ---- words

abbrev pub is_word : ℕ → Bool
is_word n = nat_lt n (2 ^ 32)

-- results of signed operations are words
pub record ResultsAreWords : Type 0 where
  pub quotient : (a b s : ℕ) → a < 2 ^ 32 → b < 2 ^ 32 → signed_quotient a b ≡ Ok s → s < 2 ^ 32
  pub remainder : (a b s : ℕ) → a < 2 ^ 32 → b < 2 ^ 32 → signed_remainder a b ≡ Ok s → s < 2 ^ 32
  pub shift : (a count s : ℕ) → a < 2 ^ 32 → signed_shift_right a count ≡ Ok s → s < 2 ^ 32

word_fine : (n : ℕ) → n < 2 ^ 32 → IsFine is_word (One n)
word_fine n lt = lt-ltb n (2 ^ 32) lt

one_fine : (g : ℕ → ℕ) → ((n : ℕ) → n < 2 ^ 32 → g n < 2 ^ 32) → (x : Flat) → IsFine is_word x → IsFine is_word (of_one (λ n. One (g n)) x)
one_fine g keeps Bottom fine = tt
one_fine g keeps (One n) fine = word_fine (g n) (keeps n (ltb-true n (2 ^ 32) fine))
one_fine g keeps Many fine = tt

un_words : (k : UnKind) (n : ℕ) → n < 2 ^ 32 → un_word k n < 2 ^ 32
un_words Neg n lt = mod-lt (0 + (2 ^ 32 - n)) (omega arith)
un_words Not n lt = omega arith

small_extended : (width n : ℕ) → n < 256 ^ width → 256 ^ width ≤ 2 ^ 32 → extended width true n < 2 ^ 32
small_extended width n lt le = by_sign (nat_le (256 ^ width) (2 * n)) where
  by_sign : (b : Bool) → (if b then 2 ^ 32 - (256 ^ width - n) else n) < 2 ^ 32
  by_sign true = omega (arith, lt, le)
  by_sign false = omega (arith, lt, le)

ext_words : (k : ExtKind) (n : ℕ) → n < 2 ^ 32 → ext_word k n < 2 ^ 32
ext_words S8 n lt = small_extended 1 (n % 256) (mod-lt n (omega arith)) (omega arith)
ext_words U8 n lt = let e : n % 256 < 256 = mod-lt n (omega arith) in omega (arith, e)
ext_words S16 n lt = small_extended 2 (n % 65536) (mod-lt n (omega arith)) (omega arith)
ext_words U16 n lt = let e : n % 65536 < 65536 = mod-lt n (omega arith) in omega (arith, e)

truth_fine : (b : Bool) → IsFine is_word (One (truth b))
truth_fine true = refl
truth_fine false = refl

result_fine : (r : Result ℕ WordFault) → ((s : ℕ) → r ≡ Ok s → s < 2 ^ 32) → IsFine is_word (word_or_many r)
result_fine (Ok s) words = word_fine s (words s refl)
result_fine (Err fault) words = tt

bin_fine : ResultsAreWords → (k : BinKind) (m n : ℕ) → m < 2 ^ 32 → n < 2 ^ 32 → IsFine is_word (bin_word k m n)
bin_fine words Add m n a b = word_fine (unsigned_sum m n) (mod-lt (m + n) (omega arith))
bin_fine words Sub m n a b = word_fine (unsigned_difference m n) (mod-lt (m + (2 ^ 32 - n)) (omega arith))
bin_fine words And m n a b = word_fine (bit_and m n) (and_lt 32 m n a b)
bin_fine words Or m n a b = word_fine (bit_or m n) (or_lt 32 m n a b)
bin_fine words Xor m n a b = word_fine (bit_xor m n) (xor_lt 32 m n a b)
bin_fine words Mul m n a b = word_fine (unsigned_product m n) (mod-lt (m * n) (omega arith))
bin_fine words DivS m n a b = result_fine (signed_quotient m n) (λ s e. words.quotient m n s a b e)
bin_fine words DivU m n a b = by_zero (n == 0) where
  by_zero : (z : Bool) → IsFine is_word (word_or_many (if z then Err ZeroDivisor else Ok (m / n)))
  by_zero true = tt
  by_zero false = word_fine (m / n) (let e : m / n ≤ m = div-le_self m n in omega (arith, a, e))
bin_fine words RemS m n a b = result_fine (signed_remainder m n) (λ s e. words.remainder m n s a b e)
bin_fine words RemU m n a b = by_zero (n == 0) where
  by_zero : (z : Bool) → IsFine is_word (word_or_many (if z then Err ZeroDivisor else Ok (m % n)))
  by_zero true = tt
  by_zero false = word_fine (m % n) (let e : m % n ≤ m = mod-le m n in omega (arith, a, e))
bin_fine words Shl m n a b = by_count (nat_lt n 32) where
  by_count : (z : Bool) → IsFine is_word (word_or_many (if z then Ok (m * 2 ^ n % 2 ^ 32) else Err ShiftCount))
  by_count true = word_fine (m * 2 ^ n % 2 ^ 32) (mod-lt (m * 2 ^ n) (omega arith))
  by_count false = tt
bin_fine words ShrS m n a b = result_fine (signed_shift_right m n) (λ s e. words.shift m n s a e)
bin_fine words ShrU m n a b = by_count (nat_lt n 32) where
  by_count : (z : Bool) → IsFine is_word (word_or_many (if z then Ok (m / 2 ^ n) else Err ShiftCount))
  by_count true = word_fine (m / 2 ^ n) (let e : m / 2 ^ n ≤ m = div-le_self m (2 ^ n) in omega (arith, a, e))
  by_count false = tt
bin_fine words Eq m n a b = truth_fine (m == n)
bin_fine words Ne m n a b = truth_fine (not (m == n))
bin_fine words LtS m n a b = truth_fine (signed_less m n)
bin_fine words LeS m n a b = truth_fine (signed_at_most m n)
bin_fine words LtU m n a b = truth_fine (unsigned_less m n)
bin_fine words LeU m n a b = truth_fine (unsigned_at_most m n)

two_fine : ResultsAreWords → (k : BinKind) (x y : Flat) → IsFine is_word x → IsFine is_word y → IsFine is_word (of_two (bin_word k) x y)
two_fine words k Bottom y a b = tt
two_fine words k (One m) Bottom a b = tt
two_fine words k (One m) (One n) a b = bin_fine words k m n (ltb-true m (2 ^ 32) a) (ltb-true n (2 ^ 32) b)
two_fine words k (One m) Many a b = tt
two_fine words k Many Bottom a b = tt
two_fine words k Many (One n) a b = tt
two_fine words k Many Many a b = tt

pub constant_fine : ResultsAreWords → (temps slots : ℕ) (row : List Flat) (o : Op) → IsOp temps slots o → AreFine is_word row → IsFine is_word (constant row o)
constant_fine words temps slots row (op.Const t n) lawful fine = word_fine n lawful.1
constant_fine words temps slots row (op.Copy t a) lawful fine = fine a
constant_fine words temps slots row (op.Un k t a) lawful fine = one_fine (un_word k) (un_words k) (known row a) (fine a)
constant_fine words temps slots row (op.Bin k t a b) lawful fine = two_fine words k (known row a) (known row b) (fine a) (fine b)
constant_fine words temps slots row (op.Ext k t a) lawful fine = one_fine (ext_word k) (ext_words k) (known row a) (fine a)
constant_fine words temps slots row o lawful fine = tt

pub constants_give : ResultsAreWords → (temps slots : ℕ) → Gives is_word constant_transfer temps slots
constants_give words temps slots = record {
  fine = λ row o lawful fine. known_fine is_word row (op_defines o) (constant row o) fine (constant_fine words temps slots row o lawful fine);
}

-- ---- temporaries

abbrev forgotten : ℕ → Flat → Flat
forgotten t x = if is_one t x then Many else x

forgotten_fine : (ok : ℕ → Bool) (t : ℕ) (x : Flat) → IsFine ok x → IsFine ok (forgotten t x)
forgotten_fine ok t Bottom fine = tt
forgotten_fine ok t (One n) fine = either (n == t) where
  either : (b : Bool) → IsFine ok (if b then Many else One n)
  either true = tt
  either false = fine
forgotten_fine ok t Many fine = tt

without_fine : (ok : ℕ → Bool) (row : List Flat) (t : ℕ) → AreFine ok row → AreFine ok (without_copies row t)
without_fine ok row t fine u = subst (IsFine ok) (sym (get_or-map (forgotten t) row u Many)) (forgotten_fine ok t (known row u) (fine u))

copy_fine : (ok : ℕ → Bool) (row : List Flat) (t : Option ℕ) (x : Flat) → AreFine ok row → IsFine ok x → AreFine ok (with_copy row t x)
copy_fine ok row None x fine is = fine
copy_fine ok row (Some t) x fine is = set_fine ok (without_copies row t) t x (without_fine ok row t fine) is

abbrev pub is_temp : ℕ → ℕ → Bool
is_temp temps n = nat_lt n temps

copied_fine : (temps slots : ℕ) (o : Op) → IsOp temps slots o → IsFine (is_temp temps) (copied o)
copied_fine temps slots (op.Copy t a) lawful = either (a == t) where
  either : (b : Bool) → IsFine (is_temp temps) (if b then Many else One a)
  either true = tt
  either false = lt-ltb a temps lawful.1
copied_fine temps slots o lawful = tt

pub copies_give : (temps slots : ℕ) → Gives (is_temp temps) copy_transfer temps slots
copies_give temps slots = record {
  fine = λ row o lawful fine. copy_fine (is_temp temps) row (op_defines o) (copied o) fine (copied_fine temps slots o lawful);
}
