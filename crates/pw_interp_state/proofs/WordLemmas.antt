-- Four numbers in a row are read as the word that they write.
use Rattle.std.proofs.Common.{ℕ, ◌≡◌, ◌∙◌, refl, ap, sym, subst, Bool, true, false, Option, Some, None, List, [], ◌∷◌, Result, Ok, arith}
use Rattle.std.specs.Prelude.{if◌then◌else◌, IfSome, nat_le, ◌<◌, ◌^◌, ◌*◌, ◌+◌, ◌-◌, ◌%◌, ◌==◌, ◌&&◌, not}
use Rattle.std.specs.List.{list_any}
use Rattle.pw_value.specs.declared.value.Value.TheVariants as V
use Rattle.pw_value.specs.declared.value.Byte.{Byte}
use Rattle.pw_value.specs.declared.value.Byte.TheVariants as B
use Rattle.pw_value.specs.declared.value.Pointer.TheVariants as P
use Rattle.pw_value.specs.Values.{number_in, scalar_in, extended}
use Rattle.pw_value.specs.Objects.{Object, object_at, bytes_from}
use Rattle.pw_types.specs.Conversions.{size_of_kind, is_signed_kind}
use Rattle.pw_types.specs.declared.kind.IntKind.{IntKind}
use Rattle.pw_cmean.specs.declared.undefined.Undef.TheVariants.{UndefinedValue, OutsideObject, EndedObject, Alignment, PointerBytes}
use Rattle.pw_cmean.specs.Undefined.{◌when◌}
use Rattle.pw_cmean.specs.Access.{is_inside, is_undefined_byte, has_no_value}
use Rattle.pw_interp_state.specs.declared.category.Category.TheVariants as C
use Rattle.pw_interp_state.specs.declared.fault.Fault.{Fault}
use Rattle.pw_interp_state.specs.Accesses.{loaded}
use Rattle.pw_interp_state.specs.Answers.{judged}

-- the number that four bytes write
pub four_write : (x y z w : Byte) (a b c d : ℕ) → x ≡ B.Num a → y ≡ B.Num b → z ≡ B.Num c → w ≡ B.Num d
    → number_in (x ∷ y ∷ z ∷ w ∷ []) ≡ Some (a * 16777216 + b * 65536 + c * 256 + d)
four_write x y z w a b c d e f g h = rw (e, f, g, h) (ap Some (omega arith))

-- none of them is undefined
known : (x y z w : Byte) (n : ℕ) → number_in (x ∷ y ∷ z ∷ w ∷ []) ≡ Some n → list_any is_undefined_byte (x ∷ y ∷ z ∷ w ∷ []) ≡ false
known (B.Num a) (B.Num b) (B.Num c) (B.Num d) n e = refl
known B.Undefined y z w n e = cc e
known (B.Piece p i) y z w n e = cc e
known (B.Num a) B.Undefined z w n e = cc e
known (B.Num a) (B.Piece p i) z w n e = cc e
known (B.Num a) (B.Num b) B.Undefined w n e = cc e
known (B.Num a) (B.Num b) (B.Piece p i) w n e = cc e
known (B.Num a) (B.Num b) (B.Num c) B.Undefined n e = cc e
known (B.Num a) (B.Num b) (B.Num c) (B.Piece p i) n e = cc e

-- a word stands for itself
whole_word : (signed : Bool) (n : ℕ) → n < 2 ^ 32 → extended 4 signed n ≡ n
whole_word signed n small = by (signed && nat_le (256 ^ 4) (2 * n))
  where
    by : (c : Bool) → (if c then 2 ^ 32 - (256 ^ 4 - n) else n) ≡ n
    by true = omega (arith, small)
    by false = refl

number : (x y z w : Byte) (n : ℕ) (signed : Bool) → number_in (x ∷ y ∷ z ∷ w ∷ []) ≡ Some n → n < 2 ^ 32 → scalar_in (x ∷ y ∷ z ∷ w ∷ []) signed ≡ V.Num n
number (B.Num a) (B.Num b) (B.Num c) (B.Num d) n signed e small =
    let m = a * 256 ^ 3 + (b * 256 ^ 2 + (c * 256 ^ 1 + (d * 256 ^ 0 + 0))) in
    let is : m ≡ n = cc e in
    ap (λ k. V.Num (extended 4 signed k)) is ∙ ap V.Num (whole_word signed n small)
number B.Undefined y z w n signed e small = cc e
number (B.Piece p i) y z w n signed e small = cc e
number (B.Num a) B.Undefined z w n signed e small = cc e
number (B.Num a) (B.Piece p i) z w n signed e small = cc e
number (B.Num a) (B.Num b) B.Undefined w n signed e small = cc e
number (B.Num a) (B.Num b) (B.Piece p i) w n signed e small = cc e
number (B.Num a) (B.Num b) (B.Num c) B.Undefined n signed e small = cc e
number (B.Num a) (B.Num b) (B.Num c) (B.Piece p i) n signed e small = cc e

-- nothing was found
nothing : {A : Type 0} (a b c d e : Bool) (r : Result A Fault) → a ≡ false → b ≡ false → c ≡ false → d ≡ false → e ≡ false
    → judged (UndefinedValue when a ∷ PointerBytes when b ∷ OutsideObject when c ∷ EndedObject when d ∷ Alignment when e ∷ []) r ≡ r
nothing a b c d e r p q s t u = rw (p, q, s, t, u) refl

nor : (x y : Bool) → y ≡ false → x && y ≡ false
nor true y e = e
nor false y e = refl

-- what a read of so many bytes comes to
abbrev Reads : List Object → ℕ → ℕ → Bool → ℕ → ℕ → Type 0
Reads objects number_of offset signed n width =
    let object = object_at objects number_of in
    let bytes = bytes_from width offset object.bytes in
    let inside = is_inside width offset object.bytes in
    judged (UndefinedValue when (inside && list_any is_undefined_byte bytes) ∷ PointerBytes when (inside && has_no_value (scalar_in bytes signed)) ∷ OutsideObject when not inside ∷ EndedObject when not object.live ∷ Alignment when not (offset % width == 0) ∷ []) (Ok (scalar_in bytes signed))
    ≡ Ok (V.Num n)

reads_word : (objects : List Object) (at offset : ℕ) (signed : Bool) (n : ℕ)
    → offset % 4 ≡ 0 → (object_at objects at).live ≡ true → is_inside 4 offset (object_at objects at).bytes ≡ true
    → number_in (bytes_from 4 offset (object_at objects at).bytes) ≡ Some n → n < 2 ^ 32 → Reads objects at offset signed n 4
reads_word objects at offset signed n even live inside word small =
    let is = number _ _ _ _ n signed word small in
    nothing _ _ _ _ _ _ (nor _ _ (known _ _ _ _ n word)) (nor _ _ (ap has_no_value is)) (ap not inside) (ap not live) (ap (λ x. not (x == 0)) even)
    ∙ ap Ok is

pub word_loaded : (objects : List Object) (kind : IntKind) (at offset : ℕ) (r : Option ℕ)
    → size_of_kind kind ≡ 4 → offset % 4 ≡ 0 → (object_at objects at).live ≡ true → is_inside 4 offset (object_at objects at).bytes ≡ true
    → IfSome r (λ n. number_in (bytes_from 4 offset (object_at objects at).bytes) ≡ Some n) → IfSome r (λ n. n < 2 ^ 32)
    → IfSome r (λ n. loaded objects (C.Int kind) (V.At (P.Object at offset)) ≡ Ok (V.Num n))
word_loaded objects kind at offset None size even live inside word small = tt
word_loaded objects kind at offset (Some n) size even live inside word small =
    subst (Reads objects at offset (is_signed_kind kind) n) (sym size) (reads_word objects at offset (is_signed_kind kind) n even live inside word small)
