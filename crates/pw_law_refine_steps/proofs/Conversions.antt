-- Conversions between integer types: the extension that lowering makes, if any, gives what C's conversion gives.
use Rattle.std.proofs.Common.{◌≡◌, ℕ, ◌%◌, ◌^◌, ◌<◌, ◌&&◌, ◌==◌, true, false, not, true≢false, nat_eq, if◌then◌else◌, Some, refl, ap, sym, ◌∙◌, subst, arith}
use Rattle.std.proofs.lemmas.Bool.Decides.{nat_tests}
use Rattle.pw_value.specs.declared.value.Kind.{Kind}
use Rattle.pw_value.specs.declared.value.Kind.TheVariants.{S8, U8, S16, U16, W32}
use Rattle.pw_value.specs.declared.value.Value.{Value}
use Rattle.pw_value.specs.declared.value.Value.TheVariants as V
use Rattle.pw_value.specs.declared.value.Pointer.{Pointer}
use Rattle.pw_value.specs.Values.{extended}
use Rattle.pw_types.specs.Conversions.{size_of_kind, converted}
use Rattle.pw_types.specs.declared.kind.IntKind.{IntKind}
use Rattle.pw_types.specs.declared.kind.IntKind.TheVariants as K
use Rattle.pw_lower.specs.Operators.{kind_of_int, extension}
use Rattle.pw_cmean.specs.Operators.{is_piece}
use Rattle.pw_cmean.specs.Typed.{IsNumberOf}
use Rattle.pw_law_refine_steps.specs.Operations.{extended_by}

-- ---- numbers

-- what a kind keeps of a number
low : Kind → ℕ → ℕ
low S8 n = extended 1 true (n % 256)
low U8 n = n % 256
low S16 n = extended 2 true (n % 65536)
low U16 n = n % 65536
low W32 n = n % 4294967296

word-extended : (n : ℕ) → extended 4 true (n % 4294967296) ≡ n % 4294967296
word-extended n = grind (arith, nat_tests)

-- a type keeps what its kind does
kept : (kind : IntKind) (n : ℕ) → converted (V.Num n) kind ≡ V.Num (low (kind_of_int kind) n)
unfolding low
kept K.Char n = refl
kept K.SChar n = refl
kept K.UChar n = refl
kept K.Short n = refl
kept K.UShort n = refl
kept K.Int n = ap V.Num (word-extended n)
kept K.UInt n = refl
kept K.Long n = ap V.Num (word-extended n)
kept K.ULong n = refl

number_in : Value → ℕ
number_in (V.Num n) = n
number_in v = 0

same_number : (a b : ℕ) → V.Num a ≡ V.Num b → a ≡ b
unfolding number_in
same_number a b e = ap number_in e

low-word : (kind : Kind) (n : ℕ) → low kind n < 2 ^ 32
unfolding low
low-word S8 n = grind (arith, nat_tests)
low-word U8 n = omega arith
low-word S16 n = grind (arith, nat_tests)
low-word U16 n = omega arith
low-word W32 n = omega arith

-- a number of a type is a word
pub word-of : (kind : IntKind) (k : ℕ) → converted (V.Num k) kind ≡ V.Num k → k < 2 ^ 32
word-of kind k e =
    subst (λ (n : ℕ). n < 2 ^ 32) (same_number (low (kind_of_int kind) k) k (sym (kept kind k) ∙ e)) (low-word (kind_of_int kind) k)

numbers : (from to : Kind) (n : ℕ) → low from n ≡ n → extended_by (extension from to) (V.Num n) ≡ Some (V.Num (low to n))
unfolding low
numbers S8 S8 n h = ap (λ (k : ℕ). Some (V.Num k)) (sym h)
numbers S8 U8 n h = refl
numbers S8 S16 n h = ap (λ (k : ℕ). Some (V.Num k)) (let e : n ≡ extended 2 true (n % 65536) = grind (arith, nat_tests) in e)
numbers S8 U16 n h = refl
numbers S8 W32 n h = ap (λ (k : ℕ). Some (V.Num k)) (let e : n ≡ n % 4294967296 = grind (arith, nat_tests) in e)
numbers U8 S8 n h = refl
numbers U8 U8 n h = ap (λ (k : ℕ). Some (V.Num k)) (sym h)
numbers U8 S16 n h = ap (λ (k : ℕ). Some (V.Num k)) (let e : n ≡ extended 2 true (n % 65536) = grind (arith, nat_tests) in e)
numbers U8 U16 n h = ap (λ (k : ℕ). Some (V.Num k)) (let e : n ≡ n % 65536 = omega (arith, h) in e)
numbers U8 W32 n h = ap (λ (k : ℕ). Some (V.Num k)) (let e : n ≡ n % 4294967296 = omega (arith, h) in e)
numbers S16 S8 n h = refl
numbers S16 U8 n h = refl
numbers S16 S16 n h = ap (λ (k : ℕ). Some (V.Num k)) (sym h)
numbers S16 U16 n h = refl
numbers S16 W32 n h = ap (λ (k : ℕ). Some (V.Num k)) (let e : n ≡ n % 4294967296 = grind (arith, nat_tests) in e)
numbers U16 S8 n h = refl
numbers U16 U8 n h = refl
numbers U16 S16 n h = refl
numbers U16 U16 n h = ap (λ (k : ℕ). Some (V.Num k)) (sym h)
numbers U16 W32 n h = ap (λ (k : ℕ). Some (V.Num k)) (let e : n ≡ n % 4294967296 = omega (arith, h) in e)
numbers W32 S8 n h = refl
numbers W32 U8 n h = refl
numbers W32 S16 n h = refl
numbers W32 U16 n h = refl
numbers W32 W32 n h = ap (λ (k : ℕ). Some (V.Num k)) (sym h)

-- ---- bytes of pointers

abbrev IsByteKind : Kind → Type 0
IsByteKind S8 = Unit {0}
IsByteKind U8 = Unit {0}
IsByteKind S16 = ⊥
IsByteKind U16 = ⊥
IsByteKind W32 = ⊥

byte-kind : (kind : IntKind) → size_of_kind kind ≡ 1 → IsByteKind (kind_of_int kind)
byte-kind K.Char h = tt
byte-kind K.SChar h = tt
byte-kind K.UChar h = tt
byte-kind K.Short h = absurd (omega (arith, h))
byte-kind K.UShort h = absurd (omega (arith, h))
byte-kind K.Int h = absurd (omega (arith, h))
byte-kind K.UInt h = absurd (omega (arith, h))
byte-kind K.Long h = absurd (omega (arith, h))
byte-kind K.ULong h = absurd (omega (arith, h))

-- where a byte of a pointer may be converted to a type, it has one byte
pub size-one : (kind : IntKind) → (true && not (size_of_kind kind == 1)) ≡ false → size_of_kind kind ≡ 1
size-one K.Char h = refl
size-one K.SChar h = refl
size-one K.UChar h = refl
size-one K.Short h = absurd (true≢false h)
size-one K.UShort h = absurd (true≢false h)
size-one K.Int h = absurd (true≢false h)
size-one K.UInt h = absurd (true≢false h)
size-one K.Long h = absurd (true≢false h)
size-one K.ULong h = absurd (true≢false h)

pieces : (from to : Kind) (q : Pointer) (i : ℕ) → IsByteKind from → IsByteKind to → extended_by (extension from to) (V.Piece q i) ≡ Some (V.Piece q i)
pieces S8 S8 q i h k = refl
pieces S8 U8 q i h k = refl
pieces U8 S8 q i h k = refl
pieces U8 U8 q i h k = refl
pieces S16 to q i h k = absurd h
pieces U16 to q i h k = absurd h
pieces W32 to q i h k = absurd h
pieces S8 S16 q i h k = absurd k
pieces S8 U16 q i h k = absurd k
pieces S8 W32 q i h k = absurd k
pieces U8 S16 q i h k = absurd k
pieces U8 U16 q i h k = absurd k
pieces U8 W32 q i h k = absurd k

pub stays : (kind : IntKind) (q : Pointer) (i : ℕ) → size_of_kind kind ≡ 1 → converted (V.Piece q i) kind ≡ V.Piece q i
stays kind q i h = ap (λ (n : ℕ). if nat_eq n 1 then V.Piece q i else V.Undefined) h

-- ---- the law

pub conversions : (from to : IntKind) (v : Value) → IsNumberOf from v → (is_piece v && not (size_of_kind to == 1)) ≡ false
    → extended_by (extension (kind_of_int from) (kind_of_int to)) v ≡ Some (converted v to)
conversions from to (V.Num n) h k =
    numbers (kind_of_int from) (kind_of_int to) n (same_number (low (kind_of_int from) n) n (sym (kept from n) ∙ h)) ∙ ap Some (sym (kept to n))
conversions from to (V.Piece q i) h k =
    pieces (kind_of_int from) (kind_of_int to) q i (byte-kind from h) (byte-kind to (size-one to k)) ∙ ap Some (sym (stays to q i (size-one to k)))
conversions from to V.Undefined h k = absurd h
conversions from to V.Null h k = absurd h
conversions from to (V.At q) h k = absurd h
