-- Values of a type: what bytes hold, what conversions and operators give.
use Rattle.std.proofs.Common.{ℕ, zero, suc, ◌+◌, ◌*◌, ◌/◌, ◌%◌, ◌^◌, ◌<◌, ◌≤◌, ◌≡◌, refl, sym, ap, subst, ◌∙◌, arith, Bool, true, false, List, [], ◌∷◌, length, Option, Some, None}
use Rattle.std.specs.Prelude.{All, if◌then◌else◌, option_map}
use Rattle.std.proofs.Math.Nat.{mul-le-mul_right}
use Rattle.std.proofs.lemmas.Grind.{common_steps}
use Rattle.std.proofs.lemmas.Bool.{true≢false}
use Rattle.std.proofs.lemmas.Bool.Decides.{nat_tests}
use Rattle.std.proofs.lemmas.List.Elements.{All-head, All-tail, All-nil, All-cons, All-replicate}
use Rattle.pw_value.specs.declared.value.Value.{Value}
use Rattle.pw_value.specs.declared.value.Value.TheVariants as V
use Rattle.pw_value.specs.declared.value.Pointer.{Pointer as AnyPointer}
use Rattle.pw_value.specs.declared.value.Byte.{Byte}
use Rattle.pw_value.specs.declared.value.Byte.TheVariants as B
use Rattle.pw_value.specs.Values.{extended, number_in, scalar_in, pointer_in, number_bytes, encoding}
use Rattle.pw_types.specs.Conversions.{size_of_kind, is_signed_kind, promoted, converted}
use Rattle.pw_types.specs.declared.kind.IntKind.{IntKind}
use Rattle.pw_types.specs.declared.kind.IntKind.TheVariants as K
use Rattle.pw_cmean.specs.Access.{has_no_value}
use Rattle.pw_cmean.specs.Typed.{IsNumberOf, IsPointer, IsByte}

-- ---- numbers of a type

-- a number of one, two or four bytes as a word: its low bytes are the number again
low1 : (sign : Bool) (n : ℕ) → n < 256 → extended 1 sign n % 256 ≡ n
low1 false n h = omega arith
low1 true n h = grind (arith, nat_tests)

low2 : (sign : Bool) (n : ℕ) → n < 65536 → extended 2 sign n % 65536 ≡ n
low2 false n h = omega arith
low2 true n h = grind (arith, nat_tests)

-- of four bytes it is itself
word4 : (sign : Bool) (n : ℕ) → n < 2 ^ 32 → extended 4 sign n ≡ n
word4 false n h = refl
word4 true n h = grind (arith, nat_tests)

low4 : (sign : Bool) (n : ℕ) → n < 2 ^ 32 → extended 4 sign n % 2 ^ 32 ≡ n
low4 sign n h = rw (word4 sign n h) (omega arith)

is-number1 : (sign : Bool) (n : ℕ) → n < 256 → V.Num (extended 1 sign (extended 1 sign n % 256)) ≡ V.Num (extended 1 sign n)
is-number1 sign n h = ap (λ x. V.Num (extended 1 sign x)) (low1 sign n h)

is-number2 : (sign : Bool) (n : ℕ) → n < 65536 → V.Num (extended 2 sign (extended 2 sign n % 65536)) ≡ V.Num (extended 2 sign n)
is-number2 sign n h = ap (λ x. V.Num (extended 2 sign x)) (low2 sign n h)

is-number4 : (sign : Bool) (n : ℕ) → n < 2 ^ 32 → V.Num (extended 4 sign (extended 4 sign n % 2 ^ 32)) ≡ V.Num (extended 4 sign n)
is-number4 sign n h = ap (λ x. V.Num (extended 4 sign x)) (low4 sign n h)

-- a number that fits the bytes of a type, extended, is one of the type
pub extended-of : (k : IntKind) (n : ℕ) → n < 256 ^ size_of_kind k → IsNumberOf k (V.Num (extended (size_of_kind k) (is_signed_kind k) n))
extended-of K.Char n h = is-number1 true n h
extended-of K.SChar n h = is-number1 true n h
extended-of K.UChar n h = is-number1 false n h
extended-of K.Short n h = is-number2 true n h
extended-of K.UShort n h = is-number2 false n h
extended-of K.Int n h = is-number4 true n h
extended-of K.UInt n h = is-number4 false n h
extended-of K.Long n h = is-number4 true n h
extended-of K.ULong n h = is-number4 false n h

-- a word is a number of each promoted type
pub word-of : (k : IntKind) (n : ℕ) → promoted k ≡ k → n < 2 ^ 32 → IsNumberOf k (V.Num n)
word-of K.Char n e h = cc
word-of K.SChar n e h = cc
word-of K.UChar n e h = cc
word-of K.Short n e h = cc
word-of K.UShort n e h = cc
word-of K.Int n e h = ap V.Num (word4 true (n % 2 ^ 32) (omega arith) ∙ omega arith)
word-of K.UInt n e h = ap V.Num (word4 false (n % 2 ^ 32) (omega arith) ∙ omega arith)
word-of K.Long n e h = ap V.Num (word4 true (n % 2 ^ 32) (omega arith) ∙ omega arith)
word-of K.ULong n e h = ap V.Num (word4 false (n % 2 ^ 32) (omega arith) ∙ omega arith)

-- ---- what bytes hold

-- below a bound, where there is a number
IsBelow : Option ℕ → ℕ → Type 0
IsBelow None bound = Unit {0}
IsBelow (Some n) bound = n < bound

scaled : (b low x : ℕ) → b < 256 → low < x → b * x + low < 256 * x
scaled b low x h k =
    let more : suc b * x ≤ 256 * x = grind (arith, mul-le-mul_right) in
    omega (arith, more)

-- one byte more
more-below : (b x : ℕ) (low : Option ℕ) → b < 256 → IsBelow low x → IsBelow (option_map (λ n. b * x + n) low) (256 * x)
unfolding IsBelow
more-below b x None h k = tt
more-below b x (Some n) h k = scaled b n x h k

number-below : (bytes : List Byte) → All IsByte bytes → IsBelow (number_in bytes) (256 ^ length bytes)
number-below [] h = (let k : 0 < 256 ^ 0 = omega arith in unfold IsBelow in k)
number-below (B.Num b ∷ rest) h =
    let e : 256 ^ length (B.Num b ∷ rest) ≡ 256 * 256 ^ length rest = grind (arith, common_steps) in
    rw e (more-below b (256 ^ length rest) (number_in rest) (All-head IsByte (B.Num b) rest h) (number-below rest (All-tail IsByte (B.Num b) rest h)))
number-below (B.Undefined ∷ rest) h = unfold IsBelow in tt
number-below (B.Piece p i ∷ rest) h = unfold IsBelow in tt

-- the value of a number that bytes hold, or of none
abbrev as_scalar : ℕ → Bool → Option ℕ → Value
as_scalar width sign None = V.Undefined
as_scalar width sign (Some n) = V.Num (extended width sign n)

scalar-several : (b c : Byte) (rest : List Byte) (sign : Bool)
    → scalar_in (b ∷ c ∷ rest) sign ≡ as_scalar (length (b ∷ c ∷ rest)) sign (number_in (b ∷ c ∷ rest))
scalar-several B.Undefined c rest sign = refl
scalar-several (B.Num n) c rest sign = refl
scalar-several (B.Piece p i) c rest sign = refl

as_scalar-of : (k : IntKind) (o : Option ℕ) → IsBelow o (256 ^ size_of_kind k) → has_no_value (as_scalar (size_of_kind k) (is_signed_kind k) o) ≡ false
    → IsNumberOf k (as_scalar (size_of_kind k) (is_signed_kind k) o)
unfolding IsBelow
as_scalar-of k None h held = absurd (true≢false held)
as_scalar-of k (Some n) h held = extended-of k n h

one-byte : (n : ℕ) → n * 256 ^ 0 + 0 ≡ n
one-byte n = omega arith

-- what the bytes of an integer type hold is of the type, where it is a value
pub scalar-of : (k : IntKind) (bytes : List Byte) → length bytes ≡ size_of_kind k → All IsByte bytes → has_no_value (scalar_in bytes (is_signed_kind k)) ≡ false
    → IsNumberOf k (scalar_in bytes (is_signed_kind k))
scalar-of k [] len h held = absurd (no-size k (sym len))
  where
    no-size : (k : IntKind) → size_of_kind k ≡ 0 → ⊥
    no-size K.Char e = cc
    no-size K.SChar e = cc
    no-size K.UChar e = cc
    no-size K.Short e = cc
    no-size K.UShort e = cc
    no-size K.Int e = cc
    no-size K.UInt e = cc
    no-size K.Long e = cc
    no-size K.ULong e = cc
scalar-of k (B.Undefined ∷ []) len h held = absurd (true≢false held)
scalar-of k (B.Piece p i ∷ []) len h held = sym len
scalar-of k (B.Num n ∷ []) len h held =
    let low : n < 256 = All-head IsByte (B.Num n) [] h in
    let below : n < 256 ^ size_of_kind k = subst (λ w. n < 256 ^ w) len low in
    let e : scalar_in (B.Num n ∷ []) (is_signed_kind k) ≡ V.Num (extended (size_of_kind k) (is_signed_kind k) n) =
    ap (λ x. V.Num (extended 1 (is_signed_kind k) x)) (one-byte n) ∙ ap (λ w. V.Num (extended w (is_signed_kind k) n)) len in
    subst (IsNumberOf k) (sym e) (extended-of k n below)
scalar-of k (b ∷ c ∷ rest) len h held =
    let e : scalar_in (b ∷ c ∷ rest) (is_signed_kind k) ≡ as_scalar (size_of_kind k) (is_signed_kind k) (number_in (b ∷ c ∷ rest)) =
    scalar-several b c rest (is_signed_kind k) ∙ ap (λ w. as_scalar w (is_signed_kind k) (number_in (b ∷ c ∷ rest))) len in
    let below : IsBelow (number_in (b ∷ c ∷ rest)) (256 ^ size_of_kind k) = subst (λ w. IsBelow (number_in (b ∷ c ∷ rest)) (256 ^ w)) len (number-below (b ∷ c ∷ rest) h) in
    subst (IsNumberOf k) (sym e) (as_scalar-of k (number_in (b ∷ c ∷ rest)) below (ap has_no_value (sym e) ∙ held))

-- ---- pointers in bytes

pointer-or : (x : Bool) (v : Value) → IsPointer v → has_no_value (if x then v else V.Undefined) ≡ false → IsPointer (if x then v else V.Undefined)
pointer-or true v p held = p
pointer-or false v p held = absurd (true≢false held)

pub pointer-of : (a b c d : Byte) → has_no_value (pointer_in (a ∷ b ∷ c ∷ d ∷ [])) ≡ false → IsPointer (pointer_in (a ∷ b ∷ c ∷ d ∷ []))
pointer-of B.Undefined b c d held = absurd (true≢false held)
pointer-of (B.Num n) b c d held = pointer-or _ V.Null tt held
pointer-of (B.Piece p i) b c d held = pointer-or _ (V.At p) tt held

-- ---- bytes of values

number_bytes-are : (width n : ℕ) → All IsByte (number_bytes width n)
number_bytes-are zero n = All-nil IsByte
number_bytes-are (suc more) n = All-cons IsByte _ _ (let h : n / 256 ^ more % 256 < 256 = omega arith in h) (number_bytes-are more n)

piece-first : (p : AnyPointer) (i : ℕ) (rest : List Byte) → All IsByte rest → All IsByte (B.Piece p i ∷ rest)
piece-first p i rest h = All-cons IsByte (B.Piece p i) rest tt h

pub encoding-are : (v : Value) (width : ℕ) → All IsByte (encoding v width)
encoding-are V.Undefined width = All-replicate IsByte width B.Undefined tt
encoding-are (V.Num n) width = number_bytes-are width n
encoding-are V.Null width = number_bytes-are 4 0
encoding-are (V.At p) width =
    piece-first p 0 (B.Piece p 1 ∷ B.Piece p 2 ∷ B.Piece p 3 ∷ []) (piece-first p 1 (B.Piece p 2 ∷ B.Piece p 3 ∷ [])
    (piece-first p 2 (B.Piece p 3 ∷ []) (piece-first p 3 [] (All-nil IsByte))))
encoding-are (V.Piece p i) width = piece-first p i [] (All-nil IsByte)

-- ---- conversions

kind-low : (k : IntKind) (n : ℕ) → n % 256 ^ size_of_kind k < 256 ^ size_of_kind k
kind-low K.Char n = omega arith
kind-low K.SChar n = omega arith
kind-low K.UChar n = omega arith
kind-low K.Short n = omega arith
kind-low K.UShort n = omega arith
kind-low K.Int n = omega arith
kind-low K.UInt n = omega arith
kind-low K.Long n = omega arith
kind-low K.ULong n = omega arith

-- a number converted to a type is one of the type
pub converted-of : (k : IntKind) (n : ℕ) → IsNumberOf k (converted (V.Num n) k)
converted-of k n = extended-of k (n % 256 ^ size_of_kind k) (kind-low k n)

-- a number of a type is a word
extended-below : (k : IntKind) (n : ℕ) → n < 256 ^ size_of_kind k → extended (size_of_kind k) (is_signed_kind k) n < 2 ^ 32
extended-below K.Char n h = grind (arith, nat_tests)
extended-below K.SChar n h = grind (arith, nat_tests)
extended-below K.UChar n h = omega arith
extended-below K.Short n h = grind (arith, nat_tests)
extended-below K.UShort n h = omega arith
extended-below K.Int n h = grind (arith, nat_tests)
extended-below K.UInt n h = omega arith
extended-below K.Long n h = grind (arith, nat_tests)
extended-below K.ULong n h = omega arith

pub below-word : (k : IntKind) (n : ℕ) → IsNumberOf k (V.Num n) → n < 2 ^ 32
below-word k n e =
    let same : extended (size_of_kind k) (is_signed_kind k) (n % 256 ^ size_of_kind k) ≡ n = cc in
    subst (λ x. x < 2 ^ 32) same (extended-below k (n % 256 ^ size_of_kind k) (kind-low k n))
