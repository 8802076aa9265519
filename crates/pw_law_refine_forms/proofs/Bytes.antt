-- Bytes that stand for bytes: the value that a scalar in them is, and the bytes that a value is.
use Rattle.pw_flow.specs.ValidFlow.{kind_size}
use Rattle.std.proofs.Common.{◌≡◌, ℕ, zero, suc, ◌+◌, ◌*◌, ◌/◌, ◌%◌, ◌^◌, ◌<◌, ◌++◌, take, drop, append-nil, inl, inr, Bool, true, false, true≢false, ◌&&◌, nat_eq, eqb-true, eq-eqb, if◌then◌else◌, Option, Some, None, List, [], ◌∷◌, length, All, refl, ap, ap₂, sym, ◌∙◌, subst, arith}
use Rattle.std.proofs.lemmas.Bool.{and_parts, and_from, cases_lt}
use Rattle.std.proofs.lemmas.Bool.Decides.{nat_tests}
use Rattle.std.proofs.lemmas.List.{get_or_past, take_all, drop_all}
use Rattle.std.proofs.lemmas.List.Elements.{All-nil, All-cons, All-replicate}
use Rattle.std.proofs.lemmas.Option.{same_Some}
use Rattle.pw_value.specs.declared.value.Kind.{Kind}
use Rattle.pw_value.specs.declared.value.Kind.TheVariants.{S8, U8, S16, U16, W32}
use Rattle.pw_value.specs.declared.value.Value.{Value}
use Rattle.pw_value.specs.declared.value.Value.TheVariants as V
use Rattle.pw_value.specs.declared.value.Byte.{Byte}
use Rattle.pw_value.specs.declared.value.Byte.TheVariants as B
use Rattle.pw_value.specs.declared.value.Pointer.{Pointer}
use Rattle.pw_value.specs.declared.value.Pointer.TheVariants as P
use Rattle.pw_value.specs.Values.{IsWidth, padded, extended, scalar_in, pointer_in, number_bytes, pieces_of, encoding, same_pointer, is_piece, is_zero}
use Rattle.pw_value.specs.Objects.{byte_at, bytes_from, with_bytes, IsInside}
use Rattle.pw_types.specs.TypeTrees.{CType, Void, Int, Pointer as PointerTo, Array, Function, Record}
use Rattle.pw_types.specs.Conversions.{size_of_kind, is_signed_kind, converted}
use Rattle.pw_types.specs.declared.kind.IntKind.{IntKind}
use Rattle.pw_types.specs.declared.kind.IntKind.TheVariants as K
use Rattle.pw_lower.specs.Operators.{kind_of, kind_of_int}
use Rattle.pw_cmean.specs.Access as source
use Rattle.pw_cmean.specs.Typed.{IsNumberOf, IsPointer, IsValueOf, IsByte}
use Rattle.pw_run_languages.specs.Memory as flow
use Rattle.pw_law_refine.specs.Standing.{Spot, Nowhere, In, Leads, Stands, ByteStands}

-- ---- spots

spot_object : Spot → ℕ
spot_object Nowhere = 0
spot_object (In f size) = f

spot_size : Spot → ℕ
spot_size Nowhere = 0
spot_size (In f size) = size

pub same-object : (f n g k : ℕ) → In f n ≡ In g k → f ≡ g
unfolding spot_object
same-object f n g k e = ap spot_object e

pub same-size : (f n g k : ℕ) → In f n ≡ In g k → n ≡ k
unfolding spot_size
same-size f n g k e = ap spot_size e

-- a pointer leads one way
pub one-way : (spots : List Spot) (p q r : Pointer) → Leads spots p q → Leads spots p r → q ≡ r
one-way spots (P.Object o i) q r a b = a.is ∙ ap (λ (f : ℕ). P.Object f i) (same-object a.object a.size b.object b.size (sym a.there ∙ b.there)) ∙ sym b.is
one-way spots (P.Function f) q r a b = a ∙ sym b

-- ---- lists of bytes

abbrev pub BytesStand : List Spot → List Byte → List Byte → Type 0
BytesStand spots [] [] = Unit {0}
BytesStand spots (x ∷ xs) (y ∷ ys) = ByteStands spots x y × BytesStand spots xs ys
BytesStand spots xs ys = ⊥

abbrev pub EachByteStands : List Spot → List Byte → List Byte → Type 0
EachByteStands spots xs ys = (i : ℕ) → ByteStands spots (byte_at xs i) (byte_at ys i)

pub from-stand : (spots : List Spot) (n at : ℕ) (xs ys : List Byte) → EachByteStands spots xs ys → BytesStand spots (bytes_from n at xs) (bytes_from n at ys)
from-stand spots zero at xs ys h = tt
from-stand spots (suc n) at xs ys h = (h at, from-stand spots n (suc at) xs ys h)

-- each byte of an object is one
pub is-byte : (xs : List Byte) (i : ℕ) → All IsByte xs → IsByte (byte_at xs i)
is-byte xs i h = elim (cases_lt i (length xs)) [
  | inl less ↦ h i B.Undefined less
  | inr more ↦ subst IsByte (sym (get_or_past xs i B.Undefined more)) tt
]

-- ---- numbers in bytes

one-stands : (spots : List Spot) (sign : Bool) (a x : Byte) → ByteStands spots a x → Stands spots (scalar_in (a ∷ []) sign) (scalar_in (x ∷ []) sign)
one-stands spots sign B.Undefined x h = tt
one-stands spots sign (B.Num n) x h = ap (λ (u : Byte). scalar_in (u ∷ []) sign) h
one-stands spots sign (B.Piece p i) x h = (h.0, h.1, ap (λ (u : Byte). scalar_in (u ∷ []) sign) h.2)

two-stand : (spots : List Spot) (sign : Bool) (a b x y : Byte) → ByteStands spots a x → ByteStands spots b y
    → Stands spots (scalar_in (a ∷ b ∷ []) sign) (scalar_in (x ∷ y ∷ []) sign)
two-stand spots sign (B.Num n) (B.Num k) x y h g = ap₂ (λ (u v : Byte). scalar_in (u ∷ v ∷ []) sign) h g
two-stand spots sign (B.Num n) B.Undefined x y h g = tt
two-stand spots sign (B.Num n) (B.Piece p i) x y h g = tt
two-stand spots sign B.Undefined b x y h g = tt
two-stand spots sign (B.Piece p i) b x y h g = tt

-- a word of four bytes, signed or not
word-is : (sign : Bool) (n : ℕ) → n < 2 ^ 32 → extended 4 false n ≡ extended 4 sign n
word-is false n h = refl
word-is true n h = grind (arith, nat_tests)

abbrev word-in : Byte → Byte → Byte → Byte → Value
word-in x y z w = flow.scalar_of W32 (x ∷ y ∷ z ∷ w ∷ [])

four-same : (x y z w a b c d : Byte) → x ≡ a → y ≡ b → z ≡ c → w ≡ d → word-in x y z w ≡ word-in a b c d
four-same x y z w a b c d e f g h = ap₂ (λ (u v : Byte). word-in u v z w) e f ∙ ap₂ (λ (u v : Byte). word-in a b u v) g h

four-stand : (spots : List Spot) (sign : Bool) (a b c d x y z w : Byte) → IsByte a → IsByte b → IsByte c → IsByte d
    → ByteStands spots a x → ByteStands spots b y → ByteStands spots c z → ByteStands spots d w
    → Stands spots (scalar_in (a ∷ b ∷ c ∷ d ∷ []) sign) (word-in x y z w)
four-stand spots sign (B.Num a) (B.Num b) (B.Num c) (B.Num d) x y z w ia ib ic id e f g h =
    four-same x y z w (B.Num a) (B.Num b) (B.Num c) (B.Num d) e f g h
    ∙ ap V.Num (word-is sign (a * 256 ^ 3 + (b * 256 ^ 2 + (c * 256 ^ 1 + (d * 256 ^ 0 + 0)))) (omega (arith, ia, ib, ic, id)))
four-stand spots sign (B.Num a) (B.Num b) (B.Num c) B.Undefined x y z w ia ib ic id e f g h = tt
four-stand spots sign (B.Num a) (B.Num b) (B.Num c) (B.Piece p i) x y z w ia ib ic id e f g h = tt
four-stand spots sign (B.Num a) (B.Num b) B.Undefined d x y z w ia ib ic id e f g h = tt
four-stand spots sign (B.Num a) (B.Num b) (B.Piece p i) d x y z w ia ib ic id e f g h = tt
four-stand spots sign (B.Num a) B.Undefined c d x y z w ia ib ic id e f g h = tt
four-stand spots sign (B.Num a) (B.Piece p i) c d x y z w ia ib ic id e f g h = tt
four-stand spots sign B.Undefined b c d x y z w ia ib ic id e f g h = tt
four-stand spots sign (B.Piece p i) b c d x y z w ia ib ic id e f g h = tt

-- ---- pointers in bytes

pub same-pointer : (p q : Pointer) → same_pointer p q ≡ true → p ≡ q
same-pointer (P.Object a i) (P.Object b j) h =
    let e = and_parts (nat_eq a b) (nat_eq i j) h in
    ap₂ (λ (f k : ℕ). P.Object f k) (eqb-true a b e.0) (eqb-true i j e.1)
same-pointer (P.Function f) (P.Function g) h = ap P.Function (eqb-true f g h)
same-pointer (P.Object a i) (P.Function g) h = absurd (true≢false (sym h))
same-pointer (P.Function f) (P.Object b j) h = absurd (true≢false (sym h))

pub is-same : (p : Pointer) → same_pointer p p ≡ true
is-same (P.Object a i) = and_from (nat_eq a a) (nat_eq i i) (eq-eqb a a refl) (eq-eqb i i refl)
is-same (P.Function f) = eq-eqb f f refl

zero-byte : (spots : List Spot) (b y : Byte) → is_zero b ≡ true → ByteStands spots b y → y ≡ B.Num 0
zero-byte spots B.Undefined y z h = absurd (true≢false (sym z))
zero-byte spots (B.Num n) y z h = h ∙ ap B.Num (eqb-true n 0 z)
zero-byte spots (B.Piece p i) y z h = absurd (true≢false (sym z))

piece-byte : (spots : List Spot) (p q : Pointer) (k : ℕ) (b y : Byte) → is_piece p k b ≡ true → Leads spots p q → ByteStands spots b y → y ≡ B.Piece q k
piece-byte spots p q k B.Undefined y t l h = absurd (true≢false (sym t))
piece-byte spots p q k (B.Num n) y t l h = absurd (true≢false (sym t))
piece-byte spots p q k (B.Piece r j) y t l h =
    let e = and_parts (same_pointer p r) (nat_eq k j) t in
    let same : p ≡ r = same-pointer p r e.0 in
    h.2 ∙ ap₂ (λ (u : Pointer) (i : ℕ). B.Piece u i) (one-way spots r h.0 q h.1 (subst (λ (u : Pointer). Leads spots u q) same l)) (sym (eqb-true k j e.1))

pieces-give : (q : Pointer) → word-in (B.Piece q 0) (B.Piece q 1) (B.Piece q 2) (B.Piece q 3) ≡ V.At q
pieces-give q =
    ap (λ (t : Bool). flow.word_or_pointer V.Undefined (if nat_eq 0 0 && (t && nat_eq 1 1) && (t && nat_eq 2 2) && (t && nat_eq 3 3) then V.At q else V.Undefined)) (is-same q)

null-or : (spots : List Spot) (t : Bool) (w : Value) → (t ≡ true → w ≡ V.Num 0) → Stands spots (if t then V.Null else V.Undefined) w
null-or spots true w h = h refl
null-or spots false w h = tt

at-or : (spots : List Spot) (t : Bool) (p : Pointer) (w : Value) → (t ≡ true → Stands spots (V.At p) w) → Stands spots (if t then V.At p else V.Undefined) w
at-or spots true p w h = h refl
at-or spots false p w h = tt

pointer-stands : (spots : List Spot) (a b c d x y z w : Byte)
    → ByteStands spots a x → ByteStands spots b y → ByteStands spots c z → ByteStands spots d w
    → Stands spots (pointer_in (a ∷ b ∷ c ∷ d ∷ [])) (word-in x y z w)
pointer-stands spots B.Undefined b c d x y z w e f g h = tt
pointer-stands spots (B.Num n) b c d x y z w e f g h =
    null-or spots (nat_eq n 0 && is_zero b && is_zero c && is_zero d) (word-in x y z w) (λ t.
    let t3 = and_parts (nat_eq n 0 && is_zero b && is_zero c) (is_zero d) t in
    let t2 = and_parts (nat_eq n 0 && is_zero b) (is_zero c) t3.0 in
    let t1 = and_parts (nat_eq n 0) (is_zero b) t2.0 in
    four-same x y z w (B.Num 0) (B.Num 0) (B.Num 0) (B.Num 0) (e ∙ ap B.Num (eqb-true n 0 t1.0)) (zero-byte spots b y t1.1 f) (zero-byte spots c z t2.1 g) (zero-byte spots d w t3.1 h))
pointer-stands spots (B.Piece p i) b c d x y z w e f g h =
    at-or spots (nat_eq i 0 && is_piece p 1 b && is_piece p 2 c && is_piece p 3 d) p (word-in x y z w) (λ t.
    let t3 = and_parts (nat_eq i 0 && is_piece p 1 b && is_piece p 2 c) (is_piece p 3 d) t in
    let t2 = and_parts (nat_eq i 0 && is_piece p 1 b) (is_piece p 2 c) t3.0 in
    let t1 = and_parts (nat_eq i 0) (is_piece p 1 b) t2.0 in (
      e.0,
      e.1,
      four-same x y z w (B.Piece e.0 0) (B.Piece e.0 1) (B.Piece e.0 2) (B.Piece e.0 3) (e.2 ∙ ap (λ (k : ℕ). B.Piece e.0 k) (eqb-true i 0 t1.0))
          (piece-byte spots p e.0 1 b y t1.1 e.1 f) (piece-byte spots p e.0 2 c z t2.1 e.1 g) (piece-byte spots p e.0 3 d w t3.1 e.1 h) ∙ pieces-give e.0,
    ))

-- ---- a scalar of a type

is_there : Option Kind → Bool
is_there None = false
is_there (Some k) = true

no-kind : (k : Kind) → None ≡ Some k → ⊥
unfolding is_there
no-kind k e = true≢false (sym (ap is_there e))

int-width : (kind : IntKind) → size_of_kind kind ≡ kind_size (kind_of_int kind)
int-width K.Char = refl
int-width K.SChar = refl
int-width K.UChar = refl
int-width K.Short = refl
int-width K.UShort = refl
int-width K.Int = refl
int-width K.UInt = refl
int-width K.Long = refl
int-width K.ULong = refl

pub same-width : (ty : CType) (k : Kind) → kind_of ty ≡ Some k → source.width_of ty ≡ kind_size k
same-width (Int kind) k e = int-width kind ∙ ap (λ (l : Kind). kind_size l) (same_Some (kind_of_int kind) k e)
same-width (PointerTo q) k e = ap (λ (l : Kind). kind_size l) (same_Some W32 k e)
same-width Void k e = absurd (no-kind k e)
same-width (Array q n) k e = absurd (no-kind k e)
same-width (Function r ps) k e = absurd (no-kind k e)
same-width (Record n) k e = absurd (no-kind k e)

word-value : (spots : List Spot) (sign : Bool) (at : ℕ) (xs ys : List Byte) → All IsByte xs → EachByteStands spots xs ys
    → Stands spots (scalar_in (bytes_from 4 at xs) sign) (flow.scalar_of W32 (bytes_from 4 at ys))
word-value spots sign at xs ys bytes h =
    let b = suc at in
    let c = suc b in
    let d = suc c in
    four-stand spots sign (byte_at xs at) (byte_at xs b) (byte_at xs c) (byte_at xs d) (byte_at ys at) (byte_at ys b) (byte_at ys c) (byte_at ys d)
    (is-byte xs at bytes) (is-byte xs b bytes) (is-byte xs c bytes) (is-byte xs d bytes) (h at) (h b) (h c) (h d)

int-value : (spots : List Spot) (kind : IntKind) (at : ℕ) (xs ys : List Byte) → All IsByte xs → EachByteStands spots xs ys
    → Stands spots (scalar_in (bytes_from (size_of_kind kind) at xs) (is_signed_kind kind)) (flow.scalar_of (kind_of_int kind) (bytes_from (kind_size (kind_of_int kind)) at ys))
int-value spots K.Char at xs ys bytes h = one-stands spots true (byte_at xs at) (byte_at ys at) (h at)
int-value spots K.SChar at xs ys bytes h = one-stands spots true (byte_at xs at) (byte_at ys at) (h at)
int-value spots K.UChar at xs ys bytes h = one-stands spots false (byte_at xs at) (byte_at ys at) (h at)
int-value spots K.Short at xs ys bytes h = two-stand spots true (byte_at xs at) (byte_at xs (suc at)) (byte_at ys at) (byte_at ys (suc at)) (h at) (h (suc at))
int-value spots K.UShort at xs ys bytes h = two-stand spots false (byte_at xs at) (byte_at xs (suc at)) (byte_at ys at) (byte_at ys (suc at)) (h at) (h (suc at))
int-value spots K.Int at xs ys bytes h = word-value spots true at xs ys bytes h
int-value spots K.UInt at xs ys bytes h = word-value spots false at xs ys bytes h
int-value spots K.Long at xs ys bytes h = word-value spots true at xs ys bytes h
int-value spots K.ULong at xs ys bytes h = word-value spots false at xs ys bytes h

-- what a scalar of a type is in bytes, that of the type's kind in the bytes that stand for them stands for
pub value-stands : (spots : List Spot) (ty : CType) (k : Kind) (at : ℕ) (xs ys : List Byte) → kind_of ty ≡ Some k → All IsByte xs → EachByteStands spots xs ys
    → Stands spots (source.value_in ty (bytes_from (source.width_of ty) at xs)) (flow.scalar_of k (bytes_from (kind_size k) at ys))
value-stands spots (Int kind) k at xs ys e bytes h =
    subst (λ (l : Kind). Stands spots (scalar_in (bytes_from (size_of_kind kind) at xs) (is_signed_kind kind)) (flow.scalar_of l (bytes_from (kind_size l) at ys)))
    (same_Some (kind_of_int kind) k e) (int-value spots kind at xs ys bytes h)
value-stands spots (PointerTo q) k at xs ys e bytes h =
    let b = suc at in
    let c = suc b in
    let d = suc c in
    subst (λ (l : Kind). Stands spots (pointer_in (bytes_from 4 at xs)) (flow.scalar_of l (bytes_from (kind_size l) at ys))) (same_Some W32 k e)
    (pointer-stands spots (byte_at xs at) (byte_at xs b) (byte_at xs c) (byte_at xs d) (byte_at ys at) (byte_at ys b) (byte_at ys c) (byte_at ys d) (h at) (h b) (h c) (h d))
value-stands spots Void k at xs ys e bytes h = absurd (no-kind k e)
value-stands spots (Array q n) k at xs ys e bytes h = absurd (no-kind k e)
value-stands spots (Function r ps) k at xs ys e bytes h = absurd (no-kind k e)
value-stands spots (Record n) k at xs ys e bytes h = absurd (no-kind k e)

-- ---- the bytes of a value

same-numbers : (spots : List Spot) (width n : ℕ) → BytesStand spots (number_bytes width n) (number_bytes width n)
same-numbers spots zero n = tt
same-numbers spots (suc more) n = (refl, same-numbers spots more n)

one-byte : (kind : IntKind) → size_of_kind kind ≡ 1 → kind_size (kind_of_int kind) ≡ 1
one-byte kind e = sym (int-width kind) ∙ e

int-bytes : (spots : List Spot) (kind : IntKind) (width : ℕ) (v w : Value) → IsNumberOf kind v → Stands spots v w → BytesStand spots (encoding v width) (encoding w width)
int-bytes spots kind width (V.Num n) w typed h = subst (λ (u : Value). BytesStand spots (number_bytes width n) (encoding u width)) (sym h) (same-numbers spots width n)
int-bytes spots kind width (V.Piece p i) w typed h =
    subst (λ (u : Value). BytesStand spots (B.Piece p i ∷ []) (encoding u width)) (sym h.2) ((h.0, h.1, refl), tt)
int-bytes spots kind width V.Undefined w typed h = absurd typed
int-bytes spots kind width V.Null w typed h = absurd typed
int-bytes spots kind width (V.At p) w typed h = absurd typed

pointer-bytes : (spots : List Spot) (v w : Value) → IsPointer v → Stands spots v w → BytesStand spots (encoding v 4) (encoding w 4)
pointer-bytes spots V.Null w typed h = subst (λ (u : Value). BytesStand spots (number_bytes 4 0) (encoding u 4)) (sym h) (same-numbers spots 4 0)
pointer-bytes spots (V.At p) w typed h =
    subst (λ (u : Value). BytesStand spots (pieces_of p) (encoding u 4)) (sym h.2) ((h.0, h.1, refl), ((h.0, h.1, refl), ((h.0, h.1, refl), ((h.0, h.1, refl), tt))))
pointer-bytes spots V.Undefined w typed h = absurd typed
pointer-bytes spots (V.Num n) w typed h = absurd typed
pointer-bytes spots (V.Piece p i) w typed h = absurd typed

-- the bytes of what stands for a value of a type stand for its bytes
pub bytes-stand : (spots : List Spot) (ty : CType) (k : Kind) (v w : Value) → kind_of ty ≡ Some k → IsValueOf ty v → Stands spots v w
    → BytesStand spots (encoding v (source.width_of ty)) (encoding w (kind_size k))
bytes-stand spots (Int kind) k v w e typed h =
    subst (λ (n : ℕ). BytesStand spots (encoding v (size_of_kind kind)) (encoding w n)) (same-width (Int kind) k e) (int-bytes spots kind (size_of_kind kind) v w typed h)
bytes-stand spots (PointerTo q) k v w e typed h =
    subst (λ (n : ℕ). BytesStand spots (encoding v 4) (encoding w n)) (same-width (PointerTo q) k e) (pointer-bytes spots v w typed h)
bytes-stand spots Void k v w e typed h = absurd (no-kind k e)
bytes-stand spots (Array q n) k v w e typed h = absurd (no-kind k e)
bytes-stand spots (Function r ps) k v w e typed h = absurd (no-kind k e)
bytes-stand spots (Record n) k v w e typed h = absurd (no-kind k e)

-- ---- what may stand in a scalar of a kind

may-number : (k : Kind) (n : ℕ) → flow.may_stand k (V.Num n) ≡ true
may-number S8 n = refl
may-number U8 n = refl
may-number S16 n = refl
may-number U16 n = refl
may-number W32 n = refl

may-piece : (k : Kind) (p : Pointer) (i : ℕ) → kind_size k ≡ 1 → flow.may_stand k (V.Piece p i) ≡ true
may-piece S8 p i h = refl
may-piece U8 p i h = refl
may-piece S16 p i h = absurd (omega (arith, h))
may-piece U16 p i h = absurd (omega (arith, h))
may-piece W32 p i h = absurd (omega (arith, h))

int-may : (spots : List Spot) (kind : IntKind) (v w : Value) → IsNumberOf kind v → Stands spots v w → flow.may_stand (kind_of_int kind) w ≡ true
int-may spots kind (V.Num n) w typed h = ap (λ (u : Value). flow.may_stand (kind_of_int kind) u) h ∙ may-number (kind_of_int kind) n
int-may spots kind (V.Piece p i) w typed h =
    ap (λ (u : Value). flow.may_stand (kind_of_int kind) u) h.2 ∙ may-piece (kind_of_int kind) h.0 i (one-byte kind typed)
int-may spots kind V.Undefined w typed h = absurd typed
int-may spots kind V.Null w typed h = absurd typed
int-may spots kind (V.At p) w typed h = absurd typed

pointer-may : (spots : List Spot) (v w : Value) → IsPointer v → Stands spots v w → flow.may_stand W32 w ≡ true
pointer-may spots V.Null w typed h = ap (λ (u : Value). flow.may_stand W32 u) h
pointer-may spots (V.At p) w typed h = ap (λ (u : Value). flow.may_stand W32 u) h.2
pointer-may spots V.Undefined w typed h = absurd typed
pointer-may spots (V.Num n) w typed h = absurd typed
pointer-may spots (V.Piece p i) w typed h = absurd typed

pub may-stand : (spots : List Spot) (ty : CType) (k : Kind) (v w : Value) → kind_of ty ≡ Some k → IsValueOf ty v → Stands spots v w → flow.may_stand k w ≡ true
may-stand spots (Int kind) k v w e typed h =
    subst (λ (l : Kind). flow.may_stand l w ≡ true) (same_Some (kind_of_int kind) k e) (int-may spots kind v w typed h)
may-stand spots (PointerTo q) k v w e typed h =
    subst (λ (l : Kind). flow.may_stand l w ≡ true) (same_Some W32 k e) (pointer-may spots v w typed h)
may-stand spots Void k v w e typed h = absurd (no-kind k e)
may-stand spots (Array q n) k v w e typed h = absurd (no-kind k e)
may-stand spots (Function r ps) k v w e typed h = absurd (no-kind k e)
may-stand spots (Record n) k v w e typed h = absurd (no-kind k e)

-- ---- a value that is read back

-- the laws of bytes that are read back
pub record BackLaws : Type 0 where
  pub number : (n width : ℕ) (sign : Bool) → IsWidth width → scalar_in (take width (padded (encoding (V.Num n) width))) sign ≡ V.Num (extended width sign (n % 256 ^ width))
  pub pointer : (p : Pointer) → pointer_in (padded (encoding (V.At p) 4)) ≡ V.At p
  pub part : (n at : ℕ) (bytes : List Byte) → IsInside n at bytes → bytes_from n at bytes ≡ take n (drop at bytes)
  pub written : (new : List Byte) (at : ℕ) (bytes : List Byte) → IsInside (length new) at bytes →
      with_bytes new at bytes ≡ take at bytes ++ new ++ drop (at + length new) bytes

number-back : (kind : IntKind) (n : ℕ) → BackLaws → scalar_in (number_bytes (size_of_kind kind) n) (is_signed_kind kind) ≡ converted (V.Num n) kind
number-back K.Char n laws = laws.number n 1 true (inl refl)
number-back K.SChar n laws = laws.number n 1 true (inl refl)
number-back K.UChar n laws = laws.number n 1 false (inl refl)
number-back K.Short n laws = laws.number n 2 true (inr (inl refl))
number-back K.UShort n laws = laws.number n 2 false (inr (inl refl))
number-back K.Int n laws = laws.number n 4 true (inr (inr refl))
number-back K.UInt n laws = laws.number n 4 false (inr (inr refl))
number-back K.Long n laws = laws.number n 4 true (inr (inr refl))
number-back K.ULong n laws = laws.number n 4 false (inr (inr refl))

int-back : (kind : IntKind) (v : Value) → BackLaws → IsNumberOf kind v → scalar_in (encoding v (size_of_kind kind)) (is_signed_kind kind) ≡ v
int-back kind (V.Num n) laws typed = number-back kind n laws ∙ typed
int-back kind (V.Piece p i) laws typed = refl
int-back kind V.Undefined laws typed = absurd typed
int-back kind V.Null laws typed = absurd typed
int-back kind (V.At p) laws typed = absurd typed

pointer-back : (v : Value) → BackLaws → IsPointer v → pointer_in (encoding v 4) ≡ v
pointer-back V.Null laws typed = refl
pointer-back (V.At p) laws typed = laws.pointer p
pointer-back V.Undefined laws typed = absurd typed
pointer-back (V.Num n) laws typed = absurd typed
pointer-back (V.Piece p i) laws typed = absurd typed

-- a value of a scalar type is what its bytes are
pub reads-back : (ty : CType) (k : Kind) (v : Value) → BackLaws → kind_of ty ≡ Some k → IsValueOf ty v → source.value_in ty (encoding v (source.width_of ty)) ≡ v
reads-back (Int kind) k v laws e typed = int-back kind v laws typed
reads-back (PointerTo q) k v laws e typed = pointer-back v laws typed
reads-back Void k v laws e typed = absurd (no-kind k e)
reads-back (Array q n) k v laws e typed = absurd (no-kind k e)
reads-back (Function r ps) k v laws e typed = absurd (no-kind k e)
reads-back (Record n) k v laws e typed = absurd (no-kind k e)

-- a value in a scalar of a kind is given back by it
word-given : (n : ℕ) → BackLaws → flow.scalar_of W32 (number_bytes 4 n) ≡ V.Num (n % 4294967296)
word-given n laws = ap (λ (u : Value). flow.word_or_pointer u (pointer_in (number_bytes 4 n))) (number-back K.ULong n laws)

number-given : (kind : IntKind) (n : ℕ) → BackLaws → converted (V.Num n) kind ≡ V.Num n
    → flow.scalar_of (kind_of_int kind) (number_bytes (kind_size (kind_of_int kind)) n) ≡ V.Num n
number-given K.Char n laws typed = number-back K.Char n laws ∙ typed
number-given K.SChar n laws typed = number-back K.SChar n laws ∙ typed
number-given K.UChar n laws typed = number-back K.UChar n laws ∙ typed
number-given K.Short n laws typed = number-back K.Short n laws ∙ typed
number-given K.UShort n laws typed = number-back K.UShort n laws ∙ typed
number-given K.Int n laws typed = word-given n laws ∙ ap V.Num (word-is true (n % 4294967296) (omega arith)) ∙ typed
number-given K.UInt n laws typed = word-given n laws ∙ typed
number-given K.Long n laws typed = word-given n laws ∙ ap V.Num (word-is true (n % 4294967296) (omega arith)) ∙ typed
number-given K.ULong n laws typed = word-given n laws ∙ typed

piece-given : (k : Kind) (p : Pointer) (i : ℕ) → kind_size k ≡ 1 → flow.scalar_of k (B.Piece p i ∷ []) ≡ V.Piece p i
piece-given S8 p i h = refl
piece-given U8 p i h = refl
piece-given S16 p i h = absurd (omega (arith, h))
piece-given U16 p i h = absurd (omega (arith, h))
piece-given W32 p i h = absurd (omega (arith, h))

int-given : (spots : List Spot) (kind : IntKind) (v w : Value) → BackLaws → IsNumberOf kind v → Stands spots v w
    → flow.same_value (flow.scalar_of (kind_of_int kind) (encoding w (kind_size (kind_of_int kind)))) w ≡ true
int-given spots kind (V.Num n) w laws typed h =
    ap (λ (u : Value). flow.same_value (flow.scalar_of (kind_of_int kind) (encoding u (kind_size (kind_of_int kind)))) u) h
    ∙ ap (λ (u : Value). flow.same_value u (V.Num n)) (number-given kind n laws typed) ∙ eq-eqb n n refl
int-given spots kind (V.Piece p i) w laws typed h =
    ap (λ (u : Value). flow.same_value (flow.scalar_of (kind_of_int kind) (encoding u (kind_size (kind_of_int kind)))) u) h.2
    ∙ ap (λ (u : Value). flow.same_value u (V.Piece h.0 i)) (piece-given (kind_of_int kind) h.0 i (one-byte kind typed))
    ∙ and_from (same_pointer h.0 h.0) (nat_eq i i) (is-same h.0) (eq-eqb i i refl)
int-given spots kind V.Undefined w laws typed h = absurd typed
int-given spots kind V.Null w laws typed h = absurd typed
int-given spots kind (V.At p) w laws typed h = absurd typed

pointer-given : (spots : List Spot) (v w : Value) → IsPointer v → Stands spots v w → flow.same_value (flow.scalar_of W32 (encoding w 4)) w ≡ true
pointer-given spots V.Null w typed h = ap (λ (u : Value). flow.same_value (flow.scalar_of W32 (encoding u 4)) u) h
pointer-given spots (V.At p) w typed h =
    ap (λ (u : Value). flow.same_value (flow.scalar_of W32 (encoding u 4)) u) h.2 ∙ ap (λ (u : Value). flow.same_value u (V.At h.0)) (pieces-give h.0) ∙ is-same h.0
pointer-given spots V.Undefined w typed h = absurd typed
pointer-given spots (V.Num n) w typed h = absurd typed
pointer-given spots (V.Piece p i) w typed h = absurd typed

-- what stands for a value of a type is of the type's kind
pub of-kind : (spots : List Spot) (ty : CType) (k : Kind) (v w : Value) → BackLaws → kind_of ty ≡ Some k → IsValueOf ty v → Stands spots v w → flow.is_of_kind k w ≡ true
of-kind spots ty k v w laws e typed h =
    and_from (flow.may_stand k w) (flow.same_value (flow.scalar_of k (encoding w (kind_size k))) w) (may-stand spots ty k v w e typed h) (given spots ty k v w laws e typed h)
  where
    given : (spots : List Spot) (ty : CType) (k : Kind) (v w : Value) → BackLaws → kind_of ty ≡ Some k → IsValueOf ty v → Stands spots v w
        → flow.same_value (flow.scalar_of k (encoding w (kind_size k))) w ≡ true
    given spots (Int kind) k v w laws e typed h =
        subst (λ (l : Kind). flow.same_value (flow.scalar_of l (encoding w (kind_size l))) w ≡ true) (same_Some (kind_of_int kind) k e) (int-given spots kind v w laws typed h)
    given spots (PointerTo q) k v w laws e typed h =
        subst (λ (l : Kind). flow.same_value (flow.scalar_of l (encoding w (kind_size l))) w ≡ true) (same_Some W32 k e) (pointer-given spots v w typed h)
    given spots Void k v w laws e typed h = absurd (no-kind k e)
    given spots (Array q n) k v w laws e typed h = absurd (no-kind k e)
    given spots (Function r ps) k v w laws e typed h = absurd (no-kind k e)
    given spots (Record n) k v w laws e typed h = absurd (no-kind k e)

-- all bytes that there are
pub whole-read : (n : ℕ) (xs : List Byte) → BackLaws → length xs ≡ n → bytes_from n 0 xs ≡ xs
whole-read n xs laws e = laws.part n 0 xs (omega (arith, e)) ∙ take_all n xs (omega (arith, e))

pub whole-new : (new xs : List Byte) → BackLaws → length new ≡ length xs → with_bytes new 0 xs ≡ new
whole-new new xs laws e =
    laws.written new 0 xs (omega (arith, e)) ∙ ap (λ (l : List Byte). new ++ l) (drop_all (0 + length new) xs (omega (arith, e))) ∙ append-nil new

-- ---- how many bytes, and that they are bytes

number-length : (width n : ℕ) → length (number_bytes width n) ≡ width
number-length zero n = refl
number-length (suc more) n = ap suc (number-length more n)

pub encoding-length : (ty : CType) (k : Kind) (v : Value) → kind_of ty ≡ Some k → IsValueOf ty v → length (encoding v (source.width_of ty)) ≡ source.width_of ty
encoding-length (Int kind) k (V.Num n) e typed = number-length (size_of_kind kind) n
encoding-length (Int kind) k (V.Piece p i) e typed = sym typed
encoding-length (Int kind) k V.Undefined e typed = absurd typed
encoding-length (Int kind) k V.Null e typed = absurd typed
encoding-length (Int kind) k (V.At p) e typed = absurd typed
encoding-length (PointerTo q) k V.Null e typed = refl
encoding-length (PointerTo q) k (V.At p) e typed = refl
encoding-length (PointerTo q) k V.Undefined e typed = absurd typed
encoding-length (PointerTo q) k (V.Num n) e typed = absurd typed
encoding-length (PointerTo q) k (V.Piece p i) e typed = absurd typed
encoding-length Void k v e typed = absurd (no-kind k e)
encoding-length (Array q n) k v e typed = absurd (no-kind k e)
encoding-length (Function r ps) k v e typed = absurd (no-kind k e)
encoding-length (Record n) k v e typed = absurd (no-kind k e)

number-bytes-are : (width n : ℕ) → All IsByte (number_bytes width n)
number-bytes-are zero n = All-nil IsByte
number-bytes-are (suc more) n = All-cons IsByte (B.Num (n / 256 ^ more % 256)) (number_bytes more n) (let h : n / 256 ^ more % 256 < 256 = omega arith in h) (number-bytes-are more n)

piece-first : (p : Pointer) (i : ℕ) (rest : List Byte) → All IsByte rest → All IsByte (B.Piece p i ∷ rest)
piece-first p i rest h = All-cons IsByte (B.Piece p i) rest tt h

pub encoding-are : (v : Value) (width : ℕ) → All IsByte (encoding v width)
encoding-are V.Undefined width = All-replicate IsByte width B.Undefined tt
encoding-are (V.Num n) width = number-bytes-are width n
encoding-are V.Null width = number-bytes-are 4 0
encoding-are (V.At p) width =
    piece-first p 0 (B.Piece p 1 ∷ B.Piece p 2 ∷ B.Piece p 3 ∷ []) (piece-first p 1 (B.Piece p 2 ∷ B.Piece p 3 ∷ [])
    (piece-first p 2 (B.Piece p 3 ∷ []) (piece-first p 3 [] (All-nil IsByte))))
encoding-are (V.Piece p i) width = piece-first p i [] (All-nil IsByte)
