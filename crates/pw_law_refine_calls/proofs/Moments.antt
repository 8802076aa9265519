-- At each moment the globals stand for the same values: where states match, there is a choice of which object stands for
-- which, by the spots, and each global has its bytes and its scalar.
use Rattle.std.proofs.Common.{◌≡◌, ℕ, suc, ◌+◌, ◌*◌, ◌^◌, ◌<◌, ◌&&◌, Bool, true, false, true≢false, nat_eq, eqb-true, eq-eqb, if◌then◌else◌, Option, Some, None, option_map, List, [], ◌∷◌, length, refl, ap, ap₂, sym, subst, ◌∙◌, arith}
use Rattle.std.proofs.lemmas.Bool.{and_parts, and_from}
use Rattle.std.proofs.lemmas.Option.{same_Some}
use Rattle.pw_value.specs.declared.value.Kind.{Kind}
use Rattle.pw_value.specs.declared.value.Kind.TheVariants.{S8, U8, S16, U16, W32}
use Rattle.pw_value.specs.declared.value.Value.{Value}
use Rattle.pw_value.specs.declared.value.Value.TheVariants as V
use Rattle.pw_value.specs.declared.value.Byte.{Byte}
use Rattle.pw_value.specs.declared.value.Byte.TheVariants as B
use Rattle.pw_value.specs.declared.value.Pointer.{Pointer}
use Rattle.pw_value.specs.declared.value.Pointer.TheVariants as P
use Rattle.pw_value.specs.Values.{number_in, scalar_in, pointer_in, extended, same_pointer, is_piece, is_zero}
use Rattle.pw_value.specs.Objects.{Object, object_at, byte_at}
use Rattle.pw_flow.specs.declared.flow.FlowGlobal.{FlowGlobal}
use Rattle.pw_run.specs.Runs.{AreAlike, none, also}
use Rattle.pw_cmean.specs.Worlds.{World}
use Rattle.pw_cmean.specs.Acts.{State}
use Rattle.pw_run_languages.specs.Memory.{scalar_of, word_or_pointer}
use Rattle.pw_run_languages.specs.Programs.{globals_of}
use Rattle.pw_run_languages.specs.FlowRun.{Machine}
use Rattle.pw_law_source.specs.Lowering.{Follows, ByteKept, ValueKept, ScalarKept, GlobalsKept, SameGlobals}
use Rattle.pw_law_refine.specs.Standing.{Spot, Nowhere, In, spot_of, Leads, ByteStands, MemoryStands}
use Rattle.pw_law_refine.specs.Activations.{graphs}
use Rattle.pw_law_refine.specs.Matching.{Matches, IsGlobalAt, global_size}

-- ---- which object stands for which

abbrev object_in : Spot → ℕ
object_in Nowhere = 0
object_in (In f size) = f

abbrev place_by : List Spot → ℕ → ℕ
place_by spots o = object_in (spot_of spots o)

-- what leads to the same place follows
follows : {X : Type 0} (spots : List Spot) (objects : List Object) (form : Pointer → X) (p q : Pointer) (x : X) → Leads spots p q → x ≡ form q → Follows (place_by spots) objects form p x
follows spots objects form (P.Function f) q x l e = e ∙ ap form l
follows spots objects form (P.Object o i) q x l e = λ live. e ∙ ap form l.is ∙ ap (λ (f : ℕ). form (P.Object f i)) (sym (ap object_in l.there))

-- ---- bytes

byte-kept : (spots : List Spot) (objects : List Object) (a b : Byte) → ByteStands spots a b → ByteKept (place_by spots) objects a b
byte-kept spots objects B.Undefined b h = tt
byte-kept spots objects (B.Num n) b h = h
byte-kept spots objects (B.Piece p i) b h = follows spots objects (λ (q : Pointer). B.Piece q i) p h.0 b h.1 h.2

abbrev Stand : List Spot → List Byte → List Byte → Type 0
Stand spots [] [] = Unit {0}
Stand spots (a ∷ as') (b ∷ bs) = ByteStands spots a b × Stand spots as' bs
Stand spots as' bs = ⊥

stand : (spots : List Spot) (xs ys : List Byte) → length xs ≡ length ys → ((i : ℕ) → ByteStands spots (byte_at xs i) (byte_at ys i)) → Stand spots xs ys
stand spots [] [] e h = tt
stand spots [] (y ∷ ys) e h = absurd (omega arith)
stand spots (x ∷ xs) [] e h = absurd (omega arith)
stand spots (x ∷ xs) (y ∷ ys) e h = (h 0, stand spots xs ys (omega arith) (λ i. h (suc i)))

all-kept : (spots : List Spot) (objects : List Object) (xs ys : List Byte) → Stand spots xs ys → AreAlike (ByteKept (place_by spots) objects) xs ys
all-kept spots objects [] [] h = none
all-kept spots objects [] (y ∷ ys) h = absurd h
all-kept spots objects (x ∷ xs) [] h = absurd h
all-kept spots objects (x ∷ xs) (y ∷ ys) h = also x y xs ys (byte-kept spots objects x y h.0) (all-kept spots objects xs ys h.1)

-- ---- scalars

-- bytes that are a number stand for the same bytes
same-numbers : (spots : List Spot) (xs ys : List Byte) (n : ℕ) → Stand spots xs ys → number_in xs ≡ Some n → ys ≡ xs
same-numbers spots [] [] n h e = refl
same-numbers spots [] (y ∷ ys) n h e = absurd h
same-numbers spots (x ∷ xs) [] n h e = absurd h
same-numbers spots (B.Undefined ∷ xs) (y ∷ ys) n h e = absurd (cc)
same-numbers spots (B.Piece p i ∷ xs) (y ∷ ys) n h e = absurd (cc)
same-numbers spots (B.Num k ∷ xs) (y ∷ ys) n h e = by_rest (number_in xs) refl e (λ m f. same-numbers spots xs ys m h.1 f)
  where
    by_rest :
        (o : Option ℕ) → number_in xs ≡ o → option_map (λ (low : ℕ). k * 256 ^ length xs + low) o ≡ Some n
        → ((m : ℕ) → number_in xs ≡ Some m → ys ≡ xs) → y ∷ ys ≡ B.Num k ∷ xs
    by_rest None f g rest = absurd (cc)
    by_rest (Some m) f g rest = ap₂ (λ (u : Byte) (us : List Byte). u ∷ us) h.0 (rest m f)

scalar-number : (xs : List Byte) (sign : Bool) (n : ℕ) → number_in xs ≡ Some n → scalar_in xs sign ≡ V.Num (extended (length xs) sign n)
scalar-number [] sign n e = ap (λ (m : ℕ). V.Num (extended 0 sign m)) (same_Some 0 n e)
scalar-number (B.Num k ∷ xs) sign n e = rw e refl
scalar-number (B.Undefined ∷ xs) sign n e = absurd (cc)
scalar-number (B.Piece p i ∷ xs) sign n e = absurd (cc)

scalar-none : (k : ℕ) (xs : List Byte) (sign : Bool) → number_in (B.Num k ∷ xs) ≡ None → scalar_in (B.Num k ∷ xs) sign ≡ V.Undefined
scalar-none k xs sign e = rw e refl

module _ (spots : List Spot) (objects : List Object) where
  abbrev Kept : Value → Value → Type 0
  Kept v w = ValueKept (place_by spots) objects v w

  -- numbers, and what is none
  number-kept : (k : ℕ) (xs ys : List Byte) (sign : Bool) → Stand spots (B.Num k ∷ xs) ys → Kept (scalar_in (B.Num k ∷ xs) sign) (scalar_in ys sign)
  number-kept k xs ys sign h = by_number (number_in (B.Num k ∷ xs)) refl
    where
      by_number : (o : Option ℕ) → number_in (B.Num k ∷ xs) ≡ o → Kept (scalar_in (B.Num k ∷ xs) sign) (scalar_in ys sign)
      by_number None e = subst (λ (v : Value). Kept v (scalar_in ys sign)) (sym (scalar-none k xs sign e)) tt
      by_number (Some n) e =
          let is = scalar-number (B.Num k ∷ xs) sign n e in
          subst (λ (v : Value). Kept v (scalar_in ys sign)) (sym is) (ap (λ (us : List Byte). scalar_in us sign) (same-numbers spots (B.Num k ∷ xs) ys n h e) ∙ is)

  piece-kept : (p : Pointer) (i : ℕ) (ys : List Byte) (sign : Bool) → Stand spots (B.Piece p i ∷ []) ys → Kept (V.Piece p i) (scalar_in ys sign)
  piece-kept p i [] sign h = absurd h
  piece-kept p i (y ∷ []) sign h = follows spots objects (λ (q : Pointer). V.Piece q i) p h.0.0 (scalar_in (y ∷ []) sign) h.0.1 (ap (λ (u : Byte). scalar_in (u ∷ []) sign) h.0.2)
  piece-kept p i (y ∷ z ∷ ys) sign h = absurd h.1

  in-kept : (xs ys : List Byte) (sign : Bool) → Stand spots xs ys → Kept (scalar_in xs sign) (scalar_in ys sign)
  in-kept [] [] sign h = refl
  in-kept [] (y ∷ ys) sign h = absurd h
  in-kept (B.Undefined ∷ xs) ys sign h = tt
  in-kept (B.Num k ∷ xs) ys sign h = number-kept k xs ys sign h
  in-kept (B.Piece p i ∷ []) ys sign h = piece-kept p i ys sign h
  in-kept (B.Piece p i ∷ x ∷ xs) ys sign h = tt

  -- four bytes that are no number may be the pieces of a pointer
  no-pointer : (k : ℕ) (xs : List Byte) → word_or_pointer V.Undefined (pointer_in (B.Num k ∷ xs)) ≡ V.Undefined
  no-pointer k [] = refl
  no-pointer k (b ∷ []) = refl
  no-pointer k (b ∷ c ∷ []) = refl
  no-pointer k (b ∷ c ∷ d ∷ []) = by_test (nat_eq k 0 && is_zero b && is_zero c && is_zero d)
    where
      by_test : (t : Bool) → word_or_pointer V.Undefined (if t then V.Null else V.Undefined) ≡ V.Undefined
      by_test true = refl
      by_test false = refl
  no-pointer k (b ∷ c ∷ d ∷ e ∷ xs) = refl

  word-number : (k : ℕ) (xs ys : List Byte) → Stand spots (B.Num k ∷ xs) ys → Kept (scalar_of W32 (B.Num k ∷ xs)) (scalar_of W32 ys)
  word-number k xs ys h = by_number (number_in (B.Num k ∷ xs)) refl
    where
      by_number : (o : Option ℕ) → number_in (B.Num k ∷ xs) ≡ o → Kept (scalar_of W32 (B.Num k ∷ xs)) (scalar_of W32 ys)
      by_number None e =
          let is : scalar_of W32 (B.Num k ∷ xs) ≡ V.Undefined =
          ap (λ (v : Value). word_or_pointer v (pointer_in (B.Num k ∷ xs))) (scalar-none k xs false e) ∙ no-pointer k xs in
          subst (λ (v : Value). Kept v (scalar_of W32 ys)) (sym is) tt
      by_number (Some n) e =
          let is : scalar_of W32 (B.Num k ∷ xs) ≡ V.Num (extended (length (B.Num k ∷ xs)) false n) =
          ap (λ (v : Value). word_or_pointer v (pointer_in (B.Num k ∷ xs))) (scalar-number (B.Num k ∷ xs) false n e) in
          subst (λ (v : Value). Kept v (scalar_of W32 ys)) (sym is) (ap (λ (us : List Byte). scalar_of W32 us) (same-numbers spots (B.Num k ∷ xs) ys n h e) ∙ is)

  same-pointer : (p q : Pointer) → same_pointer p q ≡ true → p ≡ q
  same-pointer (P.Object a i) (P.Object b j) h =
      let e = and_parts (nat_eq a b) (nat_eq i j) h in
      ap₂ (λ (f k : ℕ). P.Object f k) (eqb-true a b e.0) (eqb-true i j e.1)
  same-pointer (P.Function f) (P.Function g) h = ap P.Function (eqb-true f g h)
  same-pointer (P.Object a i) (P.Function g) h = absurd (true≢false (sym h))
  same-pointer (P.Function f) (P.Object b j) h = absurd (true≢false (sym h))

  is-same : (p : Pointer) → same_pointer p p ≡ true
  is-same (P.Object a i) = and_from (nat_eq a a) (nat_eq i i) (eq-eqb a a refl) (eq-eqb i i refl)
  is-same (P.Function f) = eq-eqb f f refl

  one-way : (p q r : Pointer) → Leads spots p q → Leads spots p r → q ≡ r
  one-way (P.Object o i) q r a b =
      a.is ∙ ap (λ (f : ℕ). P.Object f i) (ap object_in (sym a.there ∙ b.there)) ∙ sym b.is
  one-way (P.Function f) q r a b = a ∙ sym b

  piece-byte : (p q : Pointer) (k : ℕ) (b y : Byte) → is_piece p k b ≡ true → Leads spots p q → ByteStands spots b y → y ≡ B.Piece q k
  piece-byte p q k B.Undefined y t l h = absurd (true≢false (sym t))
  piece-byte p q k (B.Num n) y t l h = absurd (true≢false (sym t))
  piece-byte p q k (B.Piece r j) y t l h =
      let e = and_parts (same_pointer p r) (nat_eq k j) t in
      let same : p ≡ r = same-pointer p r e.0 in
      h.2 ∙ ap₂ (λ (u : Pointer) (i : ℕ). B.Piece u i) (one-way r h.0 q h.1 (subst (λ (u : Pointer). Leads spots u q) same l)) (sym (eqb-true k j e.1))

  pieces-give : (q : Pointer) → scalar_of W32 (B.Piece q 0 ∷ B.Piece q 1 ∷ B.Piece q 2 ∷ B.Piece q 3 ∷ []) ≡ V.At q
  pieces-give q =
      ap (λ (t : Bool). word_or_pointer V.Undefined (if nat_eq 0 0 && (t && nat_eq 1 1) && (t && nat_eq 2 2) && (t && nat_eq 3 3) then V.At q else V.Undefined)) (is-same q)

  four-same : (x y z w a b c d : Byte) → x ≡ a → y ≡ b → z ≡ c → w ≡ d → scalar_of W32 (x ∷ y ∷ z ∷ w ∷ []) ≡ scalar_of W32 (a ∷ b ∷ c ∷ d ∷ [])
  four-same x y z w a b c d e f g h =
      ap₂ (λ (u v : Byte). scalar_of W32 (u ∷ v ∷ z ∷ w ∷ [])) e f ∙ ap₂ (λ (u v : Byte). scalar_of W32 (a ∷ b ∷ u ∷ v ∷ [])) g h

  word-pieces :
      (p : Pointer) (i : ℕ) (b c d x y z w : Byte) → ByteStands spots (B.Piece p i) x → ByteStands spots b y → ByteStands spots c z → ByteStands spots d w
      → Kept (scalar_of W32 (B.Piece p i ∷ b ∷ c ∷ d ∷ [])) (scalar_of W32 (x ∷ y ∷ z ∷ w ∷ []))
  word-pieces p i b c d x y z w e f g h = by_test (nat_eq i 0 && is_piece p 1 b && is_piece p 2 c && is_piece p 3 d) refl
    where
      by_test : (t : Bool) → (nat_eq i 0 && is_piece p 1 b && is_piece p 2 c && is_piece p 3 d) ≡ t → Kept (word_or_pointer V.Undefined (if t then V.At p else V.Undefined)) (scalar_of W32 (x ∷ y ∷ z ∷ w ∷ []))
      by_test false t = tt
      by_test true t =
          let t3 = and_parts (nat_eq i 0 && is_piece p 1 b && is_piece p 2 c) (is_piece p 3 d) t in
          let t2 = and_parts (nat_eq i 0 && is_piece p 1 b) (is_piece p 2 c) t3.0 in
          let t1 = and_parts (nat_eq i 0) (is_piece p 1 b) t2.0 in
          follows spots objects V.At p e.0 (scalar_of W32 (x ∷ y ∷ z ∷ w ∷ [])) e.1
          (four-same x y z w (B.Piece e.0 0) (B.Piece e.0 1) (B.Piece e.0 2) (B.Piece e.0 3) (e.2 ∙ ap (λ (k : ℕ). B.Piece e.0 k) (eqb-true i 0 t1.0))
          (piece-byte p e.0 1 b y t1.1 e.1 f) (piece-byte p e.0 2 c z t2.1 e.1 g) (piece-byte p e.0 3 d w t3.1 e.1 h) ∙ pieces-give e.0)

  word-kept : (xs ys : List Byte) → Stand spots xs ys → Kept (scalar_of W32 xs) (scalar_of W32 ys)
  word-kept [] [] h = refl
  word-kept [] (y ∷ ys) h = absurd h
  word-kept (B.Undefined ∷ xs) ys h = tt
  word-kept (B.Num k ∷ xs) ys h = word-number k xs ys h
  word-kept (B.Piece p i ∷ []) [] h = absurd h
  word-kept (B.Piece p i ∷ []) (y ∷ []) h =
      follows spots objects (λ (q : Pointer). V.Piece q i) p h.0.0 (scalar_of W32 (y ∷ [])) h.0.1 (ap (λ (u : Byte). scalar_of W32 (u ∷ [])) h.0.2)
  word-kept (B.Piece p i ∷ []) (y ∷ z ∷ ys) h = absurd h.1
  word-kept (B.Piece p i ∷ b ∷ []) ys h = tt
  word-kept (B.Piece p i ∷ b ∷ c ∷ []) ys h = tt
  word-kept (B.Piece p i ∷ b ∷ c ∷ d ∷ []) (x ∷ y ∷ z ∷ w ∷ []) h = word-pieces p i b c d x y z w h.0 h.1.0 h.1.1.0 h.1.1.1.0
  word-kept (B.Piece p i ∷ b ∷ c ∷ d ∷ []) [] h = absurd h
  word-kept (B.Piece p i ∷ b ∷ c ∷ d ∷ []) (x ∷ []) h = absurd h.1
  word-kept (B.Piece p i ∷ b ∷ c ∷ d ∷ []) (x ∷ y ∷ []) h = absurd h.1.1
  word-kept (B.Piece p i ∷ b ∷ c ∷ d ∷ []) (x ∷ y ∷ z ∷ []) h = absurd h.1.1.1
  word-kept (B.Piece p i ∷ b ∷ c ∷ d ∷ []) (x ∷ y ∷ z ∷ w ∷ v ∷ ys) h = absurd h.1.1.1.1
  word-kept (B.Piece p i ∷ b ∷ c ∷ d ∷ e ∷ xs) ys h = tt

  kept-scalar : (kind : Option Kind) (xs ys : List Byte) → Stand spots xs ys → ScalarKept (place_by spots) objects kind xs ys
  kept-scalar None xs ys h = tt
  kept-scalar (Some S8) xs ys h = in-kept xs ys true h
  kept-scalar (Some U8) xs ys h = in-kept xs ys false h
  kept-scalar (Some S16) xs ys h = in-kept xs ys true h
  kept-scalar (Some U16) xs ys h = in-kept xs ys false h
  kept-scalar (Some W32) xs ys h = word-kept xs ys h

-- ---- globals

globals-kept :
    (spots : List Spot) (objects kept : List Object) (gs : List FlowGlobal) (n : ℕ) → MemoryStands spots objects kept
    → ((i : ℕ) → i < length gs → (size : ℕ) × IsGlobalAt size spots objects (n + i)) → GlobalsKept (place_by spots) gs n objects kept
globals-kept spots objects kept [] n memory h = tt
globals-kept spots objects kept (g ∷ gs) n memory h =
    let first = h 0 (omega arith) in
    let zero-more : n + 0 ≡ n = omega arith in
    let here = subst (λ (k : ℕ). IsGlobalAt first.0 spots objects k) zero-more first.1 in
    let held = memory.holds n n first.0 here.live here.there in
    let bytes = stand spots (object_at objects n).bytes (object_at kept n).bytes (held.own_size ∙ sym held.same_size) held.bytes in (
      ap object_in here.there,
      record {
        bytes = all-kept spots objects (object_at objects n).bytes (object_at kept n).bytes bytes;
        scalar = kept-scalar spots objects g.kind (object_at objects n).bytes (object_at kept n).bytes bytes;
      },
      globals-kept spots objects kept gs (suc n) memory (λ i l. (let rest = h (suc i) (omega arith) in
          (rest.0, subst (λ (k : ℕ). IsGlobalAt rest.0 spots objects k) (let sum : n + suc i ≡ suc n + i = omega arith in sum) rest.1))),
    )

pub moment-kept :
    (world : World) (spots : List Spot) (objects kept : List Object) → MemoryStands spots objects kept
    → ((g : ℕ) → g < length (globals_of (graphs world)) → IsGlobalAt (global_size world g) spots objects g) → SameGlobals (graphs world) objects kept
moment-kept world spots objects kept memory globals = record {
  place = place_by spots;
  globals = globals-kept spots objects kept (globals_of (graphs world)) 0 memory (λ i l.
      (global_size world i, subst (λ (k : ℕ). IsGlobalAt (global_size world i) spots objects k) (let sum : i ≡ 0 + i = omega arith in sum) (globals i l)));
}

pub moment-keeps : (world : World) (spots : List Spot) (s : State) (m : Machine) → Matches world spots s m → SameGlobals (graphs world) s.objects m.objects
moment-keeps world spots s m h = moment-kept world spots s.objects m.objects h.memory h.globals
