-- Integer types: their letters, kinds and sizes, and the values of them that bytes are.
use Rattle.std.proofs.Common.{◌≡◌, ℕ, suc, ◌+◌, ◌-◌, ◌*◌, ◌^◌, ◌<◌, ◌≤◌, Bool, true, false, if◌then◌else◌, List, [], ◌∷◌, length, Option, Some, None, refl, sym, ap, subst, ◌∙◌, arith}
use Rattle.std.specs.Prelude.{nat_le, option_map}
use Rattle.std.specs.List.{AllByRecursion}
use Rattle.std.proofs.Math.Nat.{mul-le-mul_right}
use Rattle.std.proofs.lemmas.Grind.{common_steps}
use Rattle.pw_value.specs.Values.{extended, number_in, pointer_in, scalar_in}
use Rattle.pw_value.specs.declared.value.Byte.{Byte}
use Rattle.pw_value.specs.declared.value.Byte.TheVariants as B
use Rattle.pw_value.specs.declared.value.Value.{Value}
use Rattle.pw_value.specs.declared.value.Value.TheVariants.{Num, Undefined}
use Rattle.pw_types.specs.declared.kind.IntKind.{IntKind}
use Rattle.pw_types.specs.declared.kind.IntKind.TheVariants as K
use Rattle.pw_types.specs.Conversions.{is_signed_kind, size_of_kind}
use Rattle.pw_types.specs.Shapes.{letter_of_kind, marked}
use Rattle.pw_flow.specs.ValidFlow.{kind_size}
use Rattle.pw_lower.specs.Operators.{kind_of_int}
use Rattle.pw_run_languages.specs.Memory.{scalar_of, word_or_pointer}
use Rattle.pw_where.specs.declared.numbers.Number.{Number}
use Rattle.pw_where.specs.Shown.{number_of_letter, number_of_shape}
use Rattle.pw_law_calls.specs.Calls.{IsSmall}
use Rattle.pw_law_truth.specs.Truth.{IsValue}

-- ---- shapes

abbrev pub number_of : IntKind → Number
number_of k = record { kind = kind_of_int k; is_signed = is_signed_kind k }

letter_number : (k : IntKind) → number_of_letter (letter_of_kind k) ≡ Some (number_of k)
letter_number K.Char = refl
letter_number K.SChar = refl
letter_number K.UChar = refl
letter_number K.Short = refl
letter_number K.UShort = refl
letter_number K.Int = refl
letter_number K.UInt = refl
letter_number K.Long = refl
letter_number K.ULong = refl

pub shape_number : (k : IntKind) (volatile : Bool) → number_of_shape (marked volatile (letter_of_kind k)) ≡ Some (number_of k)
shape_number k true = letter_number k
shape_number k false = letter_number k

pub kind_width : (k : IntKind) → size_of_kind k ≡ kind_size (kind_of_int k)
kind_width K.Char = refl
kind_width K.SChar = refl
kind_width K.UChar = refl
kind_width K.Short = refl
kind_width K.UShort = refl
kind_width K.Int = refl
kind_width K.UInt = refl
kind_width K.Long = refl
kind_width K.ULong = refl

-- ---- bytes that are numbers

record IsFront (b : ℕ) (rest : List Byte) (n : ℕ) : Type 0 where
  low : ℕ
  is : number_in rest ≡ Some low
  value : n ≡ b * 256 ^ length rest + low

front_by : (b : ℕ) (rest : List Byte) (o : Option ℕ) (n : ℕ) → number_in rest ≡ o → option_map (λ low. b * 256 ^ length rest + low) o ≡ Some n → IsFront b rest n
front_by b rest None n is e = absurd cc
front_by b rest (Some low) n is e =
    let same : b * 256 ^ length rest + low ≡ n = cc in
    record { low = low; is = is; value = sym same }

scaled : (b low x : ℕ) → b < 256 → low < x → b * x + low < 256 * x
scaled b low x h k =
    let more : suc b * x ≤ 256 * x = grind (arith, mul-le-mul_right) in
    omega (arith, more)

small : (bytes : List Byte) (n : ℕ) → AllByRecursion IsSmall bytes → number_in bytes ≡ Some n → n < 256 ^ length bytes
small [] n all e = let none_left : 0 ≡ n = cc in let one : 0 < 256 ^ 0 = omega arith in subst (λ (i : ℕ). i < 256 ^ 0) none_left one
small (B.Num b ∷ rest) n all e =
    let f = front_by b rest (number_in rest) n refl e in
    let below = scaled b f.low (256 ^ length rest) all.0 (small rest f.low all.1 f.is) in
    let more : 256 ^ length (B.Num b ∷ rest) ≡ 256 * 256 ^ length rest = grind (arith, common_steps) in
    subst (λ (i : ℕ). n < i) (sym more) (subst (λ (i : ℕ). i < 256 * 256 ^ length rest) (sym f.value) below)
small (B.Undefined ∷ rest) n all e = absurd cc
small (B.Piece q i ∷ rest) n all e = absurd cc

-- ---- values

abbrev number_or : ℕ → Bool → Option ℕ → Value
number_or size signed None = Undefined
number_or size signed (Some n) = Num (extended size signed n)

to_number : (bytes : List Byte) (signed : Bool) (v : ℕ) → scalar_in bytes signed ≡ Num v → number_or (length bytes) signed (number_in bytes) ≡ Num v
to_number [] signed v e = e
to_number (B.Piece q i ∷ []) signed v e = absurd cc
to_number (B.Piece q i ∷ b ∷ rest) signed v e = e
to_number (B.Undefined ∷ rest) signed v e = e
to_number (B.Num n ∷ rest) signed v e = e

from_number : (bytes : List Byte) (signed : Bool) (v : ℕ) → number_or (length bytes) signed (number_in bytes) ≡ Num v → scalar_in bytes signed ≡ Num v
from_number [] signed v e = e
from_number (B.Piece q i ∷ []) signed v e = absurd cc
from_number (B.Piece q i ∷ b ∷ rest) signed v e = e
from_number (B.Undefined ∷ rest) signed v e = e
from_number (B.Num n ∷ rest) signed v e = e

-- a word is itself, whatever its sign
word_by : (n : ℕ) (b : Bool) → n < 256 ^ 4 → (if b then 2 ^ 32 - (256 ^ 4 - n) else n) ≡ n
word_by n true below =
    let size : 256 ^ 4 ≡ 4294967296 = refl in
    let words : 2 ^ 32 ≡ 4294967296 = refl in
    let is : 2 ^ 32 - (256 ^ 4 - n) ≡ n = omega (arith, below, size, words) in
    is
word_by n false below = refl

word_itself : (n : ℕ) → n < 256 ^ 4 → extended 4 true n ≡ n
word_itself n below = word_by n (nat_le (256 ^ 4) (2 * n)) below

unsigned_by : (o : Option ℕ) (v : ℕ) → ((n : ℕ) → o ≡ Some n → n < 256 ^ 4) → number_or 4 true o ≡ Num v → number_or 4 false o ≡ Num v
unsigned_by None v below e = absurd cc
unsigned_by (Some n) v below e = ap Num (sym (word_itself n (below n refl))) ∙ e

unsigned : (bytes : List Byte) (v : ℕ) → length bytes ≡ 4 → AllByRecursion IsSmall bytes → scalar_in bytes true ≡ Num v → scalar_in bytes false ≡ Num v
unsigned bytes v long all e =
    from_number bytes false v
    (subst (λ (size : ℕ). number_or size false (number_in bytes) ≡ Num v) (sym long)
    (unsigned_by (number_in bytes) v (λ n is. subst (λ (size : ℕ). n < 256 ^ size) long (small bytes n all is))
    (subst (λ (size : ℕ). number_or size true (number_in bytes) ≡ Num v) long (to_number bytes true v e))))

in_word : (bytes : List Byte) (v : ℕ) → scalar_in bytes false ≡ Num v → word_or_pointer (scalar_in bytes false) (pointer_in bytes) ≡ Num v
in_word bytes v e = ap (λ (x : Value). word_or_pointer x (pointer_in bytes)) e

-- the value of an integer type in as many bytes as it has, each of eight bits, is that of the type's kind
pub scalar_is : (k : IntKind) (bytes : List Byte) (v : ℕ) → length bytes ≡ size_of_kind k → AllByRecursion IsSmall bytes → IsValue k bytes v → scalar_of (kind_of_int k) bytes ≡ Num v
scalar_is K.Char bytes v long all is = is
scalar_is K.SChar bytes v long all is = is
scalar_is K.UChar bytes v long all is = is
scalar_is K.Short bytes v long all is = is
scalar_is K.UShort bytes v long all is = is
scalar_is K.Int bytes v long all is = in_word bytes v (unsigned bytes v long all is)
scalar_is K.UInt bytes v long all is = in_word bytes v is
scalar_is K.Long bytes v long all is = in_word bytes v (unsigned bytes v long all is)
scalar_is K.ULong bytes v long all is = in_word bytes v is
