-- Memory that stands for memory: what a write of bytes keeps, and what is read.
use Rattle.std.proofs.Common.{◌≡◌, ◌≢◌, ℕ, suc, ◌^◌, ◌<◌, inl, inr, true, true≢false, List, [], ◌∷◌, length, All, refl, ap, sym, ◌∙◌, subst, arith, length-set}
use Rattle.std.specs.Prelude.{slice_set}
use Rattle.std.proofs.lemmas.Bool.{cases_lt, cases_eq}
use Rattle.std.proofs.lemmas.List.{get_or_past, get_or-set_same, get_or-set_other, set_past}
use Rattle.std.proofs.lemmas.List.Elements.{All-nil, All-head, All-tail, All-set}
use Rattle.pw_value.specs.declared.value.Byte.{Byte}
use Rattle.pw_value.specs.declared.value.Byte.TheVariants as B
use Rattle.pw_value.specs.Objects.{Object, no_object, object_at, byte_at, with_bytes, written}
use Rattle.pw_cmean.specs.Typed.{IsByte}
use Rattle.pw_law_refine.specs.Standing.{Spot, In, spot_of, ByteStands, Holds, MemoryStands}
use Rattle.pw_law_refine.specs.Matching.{AreSmall}
use Rattle.pw_law_refine_forms.proofs.Bytes.{BytesStand, EachByteStands, same-object, same-size}

-- ---- bytes with new ones

byte-for : (spots : List Spot) (a b c d : Byte) → c ≡ a → d ≡ b → ByteStands spots a b → ByteStands spots c d
byte-for spots a b c d e f h = subst (λ (u : Byte). ByteStands spots u d) (sym e) (subst (λ (u : Byte). ByteStands spots a u) (sym f) h)

set-stand : (spots : List Spot) (xs ys : List Byte) (at : ℕ) (x y : Byte) → length xs ≡ length ys → EachByteStands spots xs ys → ByteStands spots x y
    → EachByteStands spots (slice_set xs at x) (slice_set ys at y)
set-stand spots xs ys at x y same h one i = elim (cases_eq i at) [
  | inl e ↦ elim (cases_lt at (length xs)) [
    | inl less ↦ subst (λ (k : ℕ). ByteStands spots (byte_at (slice_set xs at x) k) (byte_at (slice_set ys at y) k)) (sym e)
        (byte-for spots x y (byte_at (slice_set xs at x) at) (byte_at (slice_set ys at y) at) (get_or-set_same xs at x B.Undefined less) (get_or-set_same ys at y B.Undefined (omega (arith, less, same))) one)
    | inr more ↦ byte-for spots (byte_at xs i) (byte_at ys i) (byte_at (slice_set xs at x) i) (byte_at (slice_set ys at y) i)
        (ap (λ (l : List Byte). byte_at l i) (set_past xs at x more)) (ap (λ (l : List Byte). byte_at l i) (set_past ys at y (omega (arith, more, same)))) (h i)
  ]
  | inr ne ↦ byte-for spots (byte_at xs i) (byte_at ys i) (byte_at (slice_set xs at x) i) (byte_at (slice_set ys at y) i)
      (get_or-set_other xs at i x B.Undefined ne) (get_or-set_other ys at i y B.Undefined ne) (h i)
]

pub with-stand : (spots : List Spot) (new now : List Byte) (at : ℕ) (xs ys : List Byte) → BytesStand spots new now → length xs ≡ length ys → EachByteStands spots xs ys
    → EachByteStands spots (with_bytes new at xs) (with_bytes now at ys)
with-stand spots [] [] at xs ys b same h = h
with-stand spots (x ∷ new) (y ∷ now) at xs ys b same h =
    with-stand spots new now (suc at) (slice_set xs at x) (slice_set ys at y) b.1 (length-set xs at x ∙ same ∙ sym (length-set ys at y)) (set-stand spots xs ys at x y same h b.0)
with-stand spots [] (y ∷ now) at xs ys b same h = absurd b
with-stand spots (x ∷ new) [] at xs ys b same h = absurd b

pub with-length : (new : List Byte) (at : ℕ) (xs : List Byte) → length (with_bytes new at xs) ≡ length xs
with-length [] at xs = refl
with-length (x ∷ new) at xs = with-length new (suc at) (slice_set xs at x) ∙ length-set xs at x

pub with-are : (new : List Byte) (at : ℕ) (xs : List Byte) → All IsByte new → All IsByte xs → All IsByte (with_bytes new at xs)
with-are [] at xs h k = k
with-are (x ∷ new) at xs h k = with-are new (suc at) (slice_set xs at x) (All-tail IsByte x new h) (All-set IsByte xs at x (All-head IsByte x new h) k)

-- ---- objects of which one was written

is-within : (objects : List Object) (o : ℕ) → (object_at objects o).live ≡ true → o < length objects
is-within objects o live = elim (cases_lt o (length objects)) [
  | inl less ↦ less
  | inr more ↦ absurd (true≢false (sym live ∙ ap (λ (x : Object). x.live) (get_or_past objects o no_object more)))
]

abbrev pub with-new : Object → ℕ → List Byte → Object
with-new x i new = record x { bytes = with_bytes new i x.bytes }

pub is-written : (objects : List Object) (o i : ℕ) (new : List Byte) → (object_at objects o).live ≡ true
    → object_at (written o i new objects) o ≡ with-new (object_at objects o) i new
is-written objects o i new live = get_or-set_same objects o (with-new (object_at objects o) i new) no_object (is-within objects o live)

pub is-other : (objects : List Object) (o i p : ℕ) (new : List Byte) → p ≢ o → object_at (written o i new objects) p ≡ object_at objects p
is-other objects o i p new ne = get_or-set_other objects o p (with-new (object_at objects o) i new) no_object ne

-- what a write leaves of each object, wherever it is
pub is-left : {A : Type 0} (F : Object → A) (objects : List Object) (o i p : ℕ) (new : List Byte) → ((x : Object) → F (with-new x i new) ≡ F x)
    → F (object_at (written o i new objects) p) ≡ F (object_at objects p)
is-left F objects o i p new h = elim (cases_eq p o) [
  | inl e ↦ elim (cases_lt o (length objects)) [
    | inl less ↦ ap (λ (k : ℕ). F (object_at (written o i new objects) k)) e ∙ ap F (get_or-set_same objects o (with-new (object_at objects o) i new) no_object less)
        ∙ h (object_at objects o) ∙ ap (λ (k : ℕ). F (object_at objects k)) (sym e)
    | inr more ↦ ap (λ (l : List Object). F (object_at l p)) (set_past objects o (with-new (object_at objects o) i new) more)
  ]
  | inr ne ↦ ap F (is-other objects o i p new ne)
]

pub live-left : (objects : List Object) (o i p : ℕ) (new : List Byte) → (object_at (written o i new objects) p).live ≡ (object_at objects p).live
live-left objects o i p new = is-left (λ x. x.live) objects o i p new (λ x. refl)

pub size-left : (objects : List Object) (o i p : ℕ) (new : List Byte) → length (object_at (written o i new objects) p).bytes ≡ length (object_at objects p).bytes
size-left objects o i p new = is-left (λ x. length x.bytes) objects o i p new (λ x. with-length new i x.bytes)

pub small-left : (objects : List Object) (o i : ℕ) (new : List Byte) → AreSmall objects → AreSmall (written o i new objects)
small-left objects o i new h = λ p. subst (λ (n : ℕ). n < 2 ^ 31) (sym (size-left objects o i p new)) (h p)

pub count-left : (objects : List Object) (o i : ℕ) (new : List Byte) → length (written o i new objects) ≡ length objects
count-left objects o i new = length-set objects o (with-new (object_at objects o) i new)

-- ---- bytes of objects

abbrev AreBytes : Object → Type 0
AreBytes x = All IsByte x.bytes

pub bytes-of : (objects : List Object) (o : ℕ) → All AreBytes objects → All IsByte (object_at objects o).bytes
bytes-of objects o h = elim (cases_lt o (length objects)) [
  | inl less ↦ h o no_object less
  | inr more ↦ subst AreBytes (sym (get_or_past objects o no_object more)) (All-nil IsByte)
]

pub bytes-left : (objects : List Object) (o i : ℕ) (new : List Byte) → All IsByte new → All AreBytes objects → All AreBytes (written o i new objects)
bytes-left objects o i new h k =
    All-set AreBytes objects o (with-new (object_at objects o) i new) (with-are new i (object_at objects o).bytes h (bytes-of objects o k)) k

-- ---- memory

holds-for : (spots : List Spot) (size : ℕ) (x y u v : Object) → u ≡ x → v ≡ y → Holds spots size x y → Holds spots size u v
holds-for spots size x y u v e f h =
    subst (λ (z : Object). Holds spots size z v) (sym e) (subst (λ (z : Object). Holds spots size x z) (sym f) h)

holds-new : (spots : List Spot) (size i : ℕ) (x y : Object) (new now : List Byte) → BytesStand spots new now → Holds spots size x y → Holds spots size (with-new x i new) (with-new y i now)
holds-new spots size i x y new now b h = record {
  live = h.live;
  own_size = with-length new i x.bytes ∙ h.own_size;
  same_size = with-length now i y.bytes ∙ h.same_size;
  bytes = with-stand spots new now i x.bytes y.bytes b (h.own_size ∙ sym h.same_size) h.bytes;
}

-- bytes are written to an object and to that in which it stands
pub memory-written :
    (spots : List Spot) (objects kept : List Object) (o f size i : ℕ) (new now : List Byte)
    → MemoryStands spots objects kept → (object_at objects o).live ≡ true → spot_of spots o ≡ In f size → BytesStand spots new now
    → MemoryStands spots (written o i new objects) (written f i now kept)
memory-written spots objects kept o f size i new now m live spot b = record {
  count = m.count ∙ sym (count-left objects o i new);
  holds = λ p g n lives there.
      let living : (object_at objects p).live ≡ true = sym (live-left objects o i p new) ∙ lives in
      elim (cases_eq p o) [
        | inl e ↦
            let same : In g n ≡ In f size = sym there ∙ ap (λ (k : ℕ). spot_of spots k) e ∙ spot in
            let g-is : g ≡ f = same-object g n f size same in
            let old = m.holds o f size live spot in
            subst (λ (k : ℕ). Holds spots k (object_at (written o i new objects) p) (object_at (written f i now kept) g)) (sym (same-size g n f size same))
            (holds-for spots size (with-new (object_at objects o) i new) (with-new (object_at kept f) i now) (object_at (written o i new objects) p) (object_at (written f i now kept) g)
            (ap (λ (k : ℕ). object_at (written o i new objects) k) e ∙ is-written objects o i new live)
            (ap (λ (k : ℕ). object_at (written f i now kept) k) g-is ∙ is-written kept f i now old.live)
            (holds-new spots size i (object_at objects o) (object_at kept f) new now b old))
        | inr ne ↦
            holds-for spots n (object_at objects p) (object_at kept g) (object_at (written o i new objects) p) (object_at (written f i now kept) g)
            (is-other objects o i p new ne)
            (is-other kept f i g now (λ g-is. ne (m.apart p o f n size living live (subst (λ (k : ℕ). spot_of spots p ≡ In k n) g-is there) spot)))
            (m.holds p g n living there)
      ];
  apart = λ p q g n k lp lq sp sq. m.apart p q g n k (sym (live-left objects o i p new) ∙ lp) (sym (live-left objects o i q new) ∙ lq) sp sq;
}

-- bytes are written to an object that stands nowhere
pub memory-nowhere :
    (spots : List Spot) (objects kept : List Object) (o i : ℕ) (new : List Byte)
    → MemoryStands spots objects kept → ((f size : ℕ) → spot_of spots o ≢ In f size)
    → MemoryStands spots (written o i new objects) kept
memory-nowhere spots objects kept o i new m none = record {
  count = m.count ∙ sym (count-left objects o i new);
  holds = λ p g n lives there.
      holds-for spots n (object_at objects p) (object_at kept g) (object_at (written o i new objects) p) (object_at kept g)
      (is-other objects o i p new (λ e. none g n (ap (λ (k : ℕ). spot_of spots k) (sym e) ∙ there))) refl
      (m.holds p g n (sym (live-left objects o i p new) ∙ lives) there);
  apart = λ p q g n k lp lq sp sq. m.apart p q g n k (sym (live-left objects o i p new) ∙ lp) (sym (live-left objects o i q new) ∙ lq) sp sq;
}
