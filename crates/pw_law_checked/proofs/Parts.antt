-- The parts of an object in their order: each lies inside it, and behind the part before.
use Rattle.std.specs.Prelude.{ℕ, zero, suc, ◌≡◌, ◌<◌, ◌≤◌, ◌+◌, ◌*◌, ◌==◌, ◌&&◌, nat_lt, max, not, Bool, true, false, Option, None, Some, is_some, unwrap_or, option_map, option_and_then, List, [], ◌∷◌, map, zip, slice_get, if◌then◌else◌, refl}
use Rattle.std.specs.Option.{option_map_or}
use Rattle.std.proofs.Common.{arith, ap, sym, subst, ◌∙◌, add-one}
use Rattle.std.proofs.lemmas.Bool.{ltb-true, eqb-true}
use Rattle.std.proofs.lemmas.Option.{get_or_from_slice_get}
use Rattle.pw_types.specs.declared.record.Layout.{Layout}
use Rattle.pw_types.specs.declared.record.RecordKind.{RecordKind}
use Rattle.pw_types.specs.declared.record.RecordKind.TheVariants.{Structure, Union}
use Rattle.pw_types.specs.Layouts.{content_at, layout_of, size_of, array_layout, scalar_layout, round_up, offsets_from, end_from, greatest, align_of}
use Rattle.pw_types.specs.Records.{IsLaid, Follows, kind_at, layouts_of}
use Rattle.pw_types.specs.TypeTrees.{CType, Void, Int, Pointer, Array, Function, Record, QType, Qualified, type_of, MemberValue, ContentValue, RecordValue}
use Rattle.pw_types.specs.WellTyped.{IsComplete}
use Rattle.pw_check_rules.specs.Initialisers.{Frame, Target, target_at, element_of, member_target, is_union, is_past_union, member_at, part_of, next_part, one_on}
use Rattle.pw_types.proofs.RecordLemmas.{aligned-by_laid}
use Rattle.pw_check_rules.specs.Kinds.{plain}
use Rattle.pw_law_checked.proofs.Lists.{some_same, never_some, get_map, get_within}
use Rattle.pw_law_checked.proofs.Objects.{object_complete}
use Rattle.pw_law_checked.proofs.Types.{no, element_complete}

abbrev pub sized : List RecordValue → CType → ℕ
sized r ty = unwrap_or (size_of r ty) 0

-- ---- members

abbrev pub AreAligned : List Layout → Type 0
AreAligned ls = (i : ℕ) (l : Layout) → slice_get ls i ≡ Some l → 1 ≤ l.align

pub round_behind : (n align : ℕ) → 1 ≤ align → n ≤ round_up n align
round_behind n align some = omega arith

pub end_behind : (from : ℕ) (ls : List Layout) → AreAligned ls → from ≤ end_from from ls
end_behind from [] h = omega arith
end_behind from (l ∷ rest) h =
    let one : 1 ≤ l.align = h 0 l refl in
    let up : from ≤ round_up from l.align = round_behind from l.align one in
    let on : round_up from l.align + l.size ≤ end_from (round_up from l.align + l.size) rest = end_behind (round_up from l.align + l.size) rest (λ i x e. h (suc i) x e) in
    omega (arith, up, on)

-- a member of a structure ends before the structure does
member_span : (from : ℕ) (ls : List Layout) → AreAligned ls → (i : ℕ) (l : Layout) (o : ℕ) → slice_get ls i ≡ Some l → slice_get (offsets_from from ls) i ≡ Some o
    → (from ≤ o) × (o + l.size ≤ end_from from ls)
member_span from [] h i l o e f = never_some e
member_span from (x ∷ rest) h zero l o e f =
    let one : 1 ≤ x.align = h 0 x refl in
    let up : from ≤ round_up from x.align = round_behind from x.align one in
    let on : round_up from x.align + x.size ≤ end_from (round_up from x.align + x.size) rest = end_behind (round_up from x.align + x.size) rest (λ i y e. h (suc i) y e) in
    let at : round_up from x.align ≡ o = some_same f in
    let is : x.size ≡ l.size = ap (λ (y : Layout). y.size) (some_same e) in
    (omega (arith, up, at), subst (λ n. n + l.size ≤ end_from (round_up from x.align + x.size) rest) at (subst (λ n. round_up from x.align + n ≤ end_from (round_up from x.align + x.size) rest) is on))
member_span from (x ∷ rest) h (suc i) l o e f =
    let one : 1 ≤ x.align = h 0 x refl in
    let up : from ≤ round_up from x.align = round_behind from x.align one in
    let r = member_span (round_up from x.align + x.size) rest (λ k y e. h (suc k) y e) i l o e f in
    let first : round_up from x.align + x.size ≤ o = r.0 in
    (omega (arith, up, first), r.1)

-- and before the next member begins
member_next : (from : ℕ) (ls : List Layout) → AreAligned ls → (i : ℕ) (l : Layout) (o p : ℕ) → slice_get ls i ≡ Some l → slice_get (offsets_from from ls) i ≡ Some o
    → slice_get (offsets_from from ls) (suc i) ≡ Some p → o + l.size ≤ p
member_next from [] h i l o p e f g = never_some e
member_next from (x ∷ []) h zero l o p e f g = never_some g
member_next from (x ∷ y ∷ rest) h zero l o p e f g =
    let one : 1 ≤ y.align = h 1 y refl in
    let up : round_up from x.align + x.size ≤ round_up (round_up from x.align + x.size) y.align = round_behind (round_up from x.align + x.size) y.align one in
    let at : round_up from x.align ≡ o = some_same f in
    let next : round_up (round_up from x.align + x.size) y.align ≡ p = some_same g in
    let is : x.size ≡ l.size = ap (λ (z : Layout). z.size) (some_same e) in
    subst (λ n. n + l.size ≤ p) at (subst (λ n. round_up from x.align + n ≤ p) is (subst (λ n. round_up from x.align + x.size ≤ n) next up))
member_next from (x ∷ rest) h (suc i) l o p e f g = member_next (round_up from x.align + x.size) rest (λ k y e. h (suc k) y e) i l o p e f g

-- ---- elements

pub element_next : (s n : ℕ) → n * s + s ≡ (n + 1) * s
element_next s n = let a : n * s + s ≡ suc n * s = omega arith in a ∙ sym (ap (λ k. k * s) (add-one n))

element_within : (s i n : ℕ) → i < n → i * s + s ≤ s * n
element_within s zero (suc n) h = omega arith
element_within s (suc i) (suc n) h = let k : i * s + s ≤ s * n = element_within s i n (omega (arith, h)) in omega (arith, k)
element_within s i zero h = grind (arith, h)

-- ---- the parts of a record

pub at_least_one : (n : ℕ) → 1 ≤ max 1 n
at_least_one n = omega arith

from_zero : (n k : ℕ) → n ≤ k → 0 + n ≤ k
from_zero n k h = omega (arith, h)

le_trans : {a b c : ℕ} → a ≤ b → b ≤ c → a ≤ c
le_trans {a} {b} {c} h k = omega (arith, h, k)

get_zip : {X Y : Type 0} (xs : List X) (ys : List Y) (i : ℕ) (x : X) (y : Y) → slice_get (zip xs ys) i ≡ Some (x, y) → (slice_get xs i ≡ Some x) × (slice_get ys i ≡ Some y)
get_zip [] ys i x y e = never_some e
get_zip (a ∷ xs) [] i x y e = never_some e
get_zip (a ∷ xs) (b ∷ ys) zero x y e = (ap (λ p. Some p.0) (some_same e), ap (λ p. Some p.1) (some_same e))
get_zip (a ∷ xs) (b ∷ ys) (suc i) x y e = get_zip xs ys i x y e

get_layout : (r : List RecordValue) (ms : List MemberValue) (i : ℕ) (m : MemberValue) → slice_get ms i ≡ Some m
    → slice_get (layouts_of r ms) i ≡ Some (unwrap_or (layout_of r (type_of m.ty)) (scalar_layout 0))
get_layout r [] i m e = never_some e
get_layout r (x ∷ ms) zero m e = ap (λ (y : MemberValue). Some (unwrap_or (layout_of r (type_of y.ty)) (scalar_layout 0))) (some_same e)
get_layout r (x ∷ ms) (suc i) m e = get_layout r ms i m e

-- the layout of a complete type
whole_layout : (r : List RecordValue) (ty : CType) → IsComplete r ty → (unwrap_or (layout_of r ty) (scalar_layout 0)).size ≡ sized r ty
whole_layout r ty complete = by (layout_of r ty) complete
  where
    by : (o : Option Layout) → is_some o ≡ true → (unwrap_or o (scalar_layout 0)).size ≡ unwrap_or (option_map (λ (l : Layout). l.size) o) 0
    by None h = no h
    by (Some l) h = refl

members_complete : (r : List RecordValue) (kind : RecordKind) (c : ContentValue) → Follows r kind c → (i : ℕ) (m : MemberValue) → slice_get c.members i ≡ Some m → IsComplete r (type_of m.ty)
members_complete r kind c f i m e =
    object_complete r (type_of m.ty)
    (subst (λ (x : MemberValue). Rattle.pw_types.specs.Records.IsObjectType r (type_of x.ty)) (get_or_from_slice_get c.members i m m e) (f.complete i m (get_within c.members i m e)))

pub members_aligned : (r : List RecordValue) (kind : RecordKind) (c : ContentValue) → IsLaid r → Follows r kind c → AreAligned (layouts_of r c.members)
members_aligned r kind c laid f i l e =
    let x = get_map (λ (m : MemberValue). unwrap_or (layout_of r (type_of m.ty)) (scalar_layout 0)) c.members i l e in
    by x.0 (layout_of r (type_of x.0.ty)) refl (members_complete r kind c f i x.0 x.1) x.2
  where
    by : (m : MemberValue) (o : Option Layout) → layout_of r (type_of m.ty) ≡ o → is_some o ≡ true → unwrap_or o (scalar_layout 0) ≡ l → 1 ≤ l.align
    by m None g h k = no h
    by m (Some y) g h k = subst (λ (z : Layout). 1 ≤ z.align) k (aligned-by_laid r laid (type_of m.ty) y g)

at_most_greatest : (ls : List Layout) (i : ℕ) (l : Layout) → slice_get ls i ≡ Some l → l.size ≤ greatest (map (λ x. x.size) ls)
at_most_greatest [] i l e = never_some e
at_most_greatest (x ∷ ls) zero l e = let is : x.size ≡ l.size = ap (λ (y : Layout). y.size) (some_same e) in omega (arith, is)
at_most_greatest (x ∷ ls) (suc i) l e = let h : l.size ≤ greatest (map (λ x. x.size) ls) = at_most_greatest ls i l e in omega (arith, h)

-- a member lies inside its record
record_span : (r : List RecordValue) (kind : RecordKind) (c : ContentValue) → IsLaid r → Follows r kind c → (i : ℕ) (m : MemberValue) (o : ℕ) → slice_get c.members i ≡ Some m → slice_get c.offsets i ≡ Some o
    → o + sized r (type_of m.ty) ≤ c.layout.size
record_span r Structure c laid f i m o e g =
    let ls : List Layout = layouts_of r c.members in
    let span = member_span 0 (layouts_of r c.members) (members_aligned r Structure c laid f) i _ o (get_layout r c.members i m e) (subst (λ xs. slice_get xs i ≡ Some o) f.placed g) in
    let inside : o + (unwrap_or (layout_of r (type_of m.ty)) (scalar_layout 0)).size ≤ end_from 0 (layouts_of r c.members) = span.1 in
    let up : end_from 0 (layouts_of r c.members) ≤ round_up (end_from 0 (layouts_of r c.members)) (align_of (layouts_of r c.members)) =
    round_behind (end_from 0 (layouts_of r c.members)) (align_of (layouts_of r c.members)) (at_least_one (greatest (map (λ (l : Layout). l.align) (layouts_of r c.members)))) in
    let is : (unwrap_or (layout_of r (type_of m.ty)) (scalar_layout 0)).size ≡ sized r (type_of m.ty) = whole_layout r (type_of m.ty) (members_complete r Structure c f i m e) in
    let size : c.layout.size ≡ round_up (end_from 0 (layouts_of r c.members)) (align_of (layouts_of r c.members)) = ap (λ (l : Layout). l.size) f.laid in
    subst (λ n. o + n ≤ c.layout.size) is (subst (λ n. o + (unwrap_or (layout_of r (type_of m.ty)) (scalar_layout 0)).size ≤ n) (sym size) (le_trans inside up))
record_span r Union c laid f i m o e g =
    let x = get_map (λ (l : Layout). 0) (layouts_of r c.members) i o (subst (λ xs. slice_get xs i ≡ Some o) f.placed g) in
    let most : (unwrap_or (layout_of r (type_of m.ty)) (scalar_layout 0)).size ≤ greatest (map (λ (l : Layout). l.size) (layouts_of r c.members)) =
    at_most_greatest (layouts_of r c.members) i _ (get_layout r c.members i m e) in
    let up : greatest (map (λ (l : Layout). l.size) (layouts_of r c.members)) ≤ round_up (greatest (map (λ (l : Layout). l.size) (layouts_of r c.members))) (align_of (layouts_of r c.members)) =
    round_behind (greatest (map (λ (l : Layout). l.size) (layouts_of r c.members))) (align_of (layouts_of r c.members)) (at_least_one (greatest (map (λ (l : Layout). l.align) (layouts_of r c.members)))) in
    let is : (unwrap_or (layout_of r (type_of m.ty)) (scalar_layout 0)).size ≡ sized r (type_of m.ty) = whole_layout r (type_of m.ty) (members_complete r Union c f i m e) in
    let size : c.layout.size ≡ round_up (greatest (map (λ (l : Layout). l.size) (layouts_of r c.members))) (align_of (layouts_of r c.members)) = ap (λ (l : Layout). l.size) f.laid in
    subst (λ k. k + sized r (type_of m.ty) ≤ c.layout.size) x.2 (subst (λ n. 0 + n ≤ c.layout.size) is (subst (λ n. 0 + (unwrap_or (layout_of r (type_of m.ty)) (scalar_layout 0)).size ≤ n) (sym size) (from_zero _ _ (le_trans most up))))

-- and before the member behind it, in a structure
record_next : (r : List RecordValue) (c : ContentValue) → IsLaid r → Follows r Structure c → (i : ℕ) (m : MemberValue) (o p : ℕ) → slice_get c.members i ≡ Some m → slice_get c.offsets i ≡ Some o
    → slice_get c.offsets (suc i) ≡ Some p → o + sized r (type_of m.ty) ≤ p
record_next r c laid f i m o p e g h =
    let is : (unwrap_or (layout_of r (type_of m.ty)) (scalar_layout 0)).size ≡ sized r (type_of m.ty) = whole_layout r (type_of m.ty) (members_complete r Structure c f i m e) in
    subst (λ n. o + n ≤ p) is
    (member_next 0 (layouts_of r c.members) (members_aligned r Structure c laid f) i _ o p (get_layout r c.members i m e) (subst (λ xs. slice_get xs i ≡ Some o) f.placed g)
    (subst (λ xs. slice_get xs (suc i) ≡ Some p) f.placed h))

-- ---- the parts of an object

plus_mono : (a b c : ℕ) → b ≤ c → a + b ≤ a + c
plus_mono a b c h = omega (arith, h)

pub array_sized : (r : List RecordValue) (e : CType) (c v : Bool) (n : ℕ) → IsComplete r e → sized r (Array (Qualified e c v) (Some n)) ≡ sized r e * n
array_sized r e c v n complete = by (layout_of r e) complete
  where
    by : (o : Option Layout) → is_some o ≡ true
        → unwrap_or (option_map (λ (l : Layout). l.size) (option_map (array_layout n) o)) 0 ≡ unwrap_or (option_map (λ (l : Layout). l.size) o) 0 * n
    by None h = no h
    by (Some l) h = refl

target_same : {q p : QType} {o k : ℕ} → target_at q o ≡ target_at p k → (q ≡ p) × (o ≡ k)
target_same {q} {p} {o} {k} e = (ap (λ (t : Target). t.ty) e, ap (λ (t : Target). t.offset) e)

-- an element
pub element_is : (r : List RecordValue) (q : QType) (n : Option ℕ) (f : Frame) (t : Target) → element_of r q n f ≡ Some t
    → (option_map_or (nat_lt f.next) n true ≡ true) × (target_at q (f.offset + f.next * sized r (type_of q)) ≡ t)
element_is r q n f t e = by (option_map_or (nat_lt f.next) n true) refl e
  where
    by : (b : Bool) → option_map_or (nat_lt f.next) n true ≡ b → (if b then Some (target_at q (f.offset + f.next * sized r (type_of q))) else None) ≡ Some t
        → (option_map_or (nat_lt f.next) n true ≡ true) × (target_at q (f.offset + f.next * sized r (type_of q)) ≡ t)
    by true g h = (g, some_same h)
    by false g h = never_some h

-- a member
record Member (r : List RecordValue) (n : ℕ) (f : Frame) (t : Target) : Type 0 where
  content : ContentValue
  defined : content_at r n ≡ Some content
  member : MemberValue
  offset : ℕ
  listed : slice_get content.members f.next ≡ Some member
  placed : slice_get content.offsets f.next ≡ Some offset
  is : target_at member.ty (f.offset + offset) ≡ t
  first : is_past_union r n f.next ≡ false

member_is : (r : List RecordValue) (n : ℕ) (f : Frame) (t : Target) → member_at r n f ≡ Some t → Member r n f t
member_is r n f t e = by_union (is_past_union r n f.next) refl e
  where
    by_pair : (c : ContentValue) (o : Option (MemberValue × ℕ)) → content_at r n ≡ Some c → slice_get (zip c.members c.offsets) f.next ≡ o → is_past_union r n f.next ≡ false
        → option_map (member_target f.offset) o ≡ Some t → Member r n f t
    by_pair c None d g u h = never_some h
    by_pair c (Some m) d g u h =
        let z = get_zip c.members c.offsets f.next m.0 m.1 g in
        record { content = c; defined = d; member = m.0; offset = m.1; listed = z.0; placed = z.1; is = some_same h; first = u }

    by_content : (o : Option ContentValue) → content_at r n ≡ o → is_past_union r n f.next ≡ false
        → option_map (member_target f.offset) (option_and_then (λ (c : ContentValue). slice_get (zip c.members c.offsets) f.next) o) ≡ Some t → Member r n f t
    by_content None d u h = never_some h
    by_content (Some c) d u h = by_pair c (slice_get (zip c.members c.offsets) f.next) d refl u h

    by_union : (b : Bool) → is_past_union r n f.next ≡ b
        → (if b then None else option_map (member_target f.offset) (option_and_then (λ (c : ContentValue). slice_get (zip c.members c.offsets) f.next) (content_at r n))) ≡ Some t → Member r n f t
    by_union true u h = never_some h
    by_union false u h = by_content (content_at r n) refl u h

record_sized : (r : List RecordValue) (n : ℕ) (c : ContentValue) → content_at r n ≡ Some c → sized r (Record n) ≡ c.layout.size
record_sized r n c e = ap (λ o. unwrap_or (option_map (λ (l : Layout). l.size) (option_map (λ (x : ContentValue). x.layout) o)) 0) e

-- a scalar is its own part
scalar_is : (ty : CType) (f : Frame) (t : Target) → (if f.next == 0 then Some (target_at (plain ty) f.offset) else None) ≡ Some t → (f.next == 0 ≡ true) × (target_at (plain ty) f.offset ≡ t)
scalar_is ty f t e = by (f.next == 0) refl e
  where
    by : (b : Bool) → (f.next == 0) ≡ b → (if b then Some (target_at (plain ty) f.offset) else None) ≡ Some t → (f.next == 0 ≡ true) × (target_at (plain ty) f.offset ≡ t)
    by true g h = (g, some_same h)
    by false g h = never_some h

-- what is asked of a part: it lies inside the object
abbrev pub Inside : List RecordValue → CType → Frame → Target → Type 0
Inside r ty f t = (f.offset ≤ t.offset) × (t.offset + sized r (type_of t.ty) ≤ f.offset + sized r ty)

scalar_inside : (r : List RecordValue) (ty : CType) (f : Frame) (t : Target) → (if f.next == 0 then Some (target_at (plain ty) f.offset) else None) ≡ Some t → Inside r ty f t
scalar_inside r ty f t e = subst (Inside r ty f) (scalar_is ty f t e).1 (omega arith, omega arith)

part_inside : (r : List RecordValue) → IsLaid r → (ty : CType) (f : Frame) (t : Target) → IsComplete r ty → part_of r ty f ≡ Some t → Inside r ty f t
part_inside r laid (Array (Qualified e c v) (Some n)) f t complete h =
    let x = element_is r (Qualified e c v) (Some n) f t h in
    let below : f.next < n = ltb-true f.next n x.0 in
    let whole : f.next * sized r e + sized r e ≤ sized r e * n = element_within (sized r e) f.next n below in
    let is : sized r (Array (Qualified e c v) (Some n)) ≡ sized r e * n = array_sized r e c v n (element_complete r e c v n complete) in
    subst (Inside r (Array (Qualified e c v) (Some n)) f) x.1
    (omega arith, subst (λ k. f.offset + f.next * sized r e + sized r e ≤ f.offset + k) (sym is) (plus_within f.offset (f.next * sized r e) (sized r e) (sized r e * n) whole))
  where
    plus_within : (a b c d : ℕ) → b + c ≤ d → a + b + c ≤ a + d
    plus_within a b c d h = omega (arith, h)
part_inside r laid (Array (Qualified e c v) None) f t complete h = no complete
part_inside r laid (Record n) f t complete h =
    let m = member_is r n f t h in
    let inside : m.offset + sized r (type_of m.member.ty) ≤ m.content.layout.size =
    record_span r (kind_at r n) m.content laid (laid n m.content m.defined) f.next m.member m.offset m.listed m.placed in
    subst (Inside r (Record n) f) m.is (
      omega arith,
      subst (λ k. f.offset + m.offset + sized r (type_of m.member.ty) ≤ f.offset + k) (sym (record_sized r n m.content m.defined))
          (plus_within f.offset m.offset (sized r (type_of m.member.ty)) m.content.layout.size inside),
    )
  where
    plus_within : (a b c d : ℕ) → b + c ≤ d → a + b + c ≤ a + d
    plus_within a b c d h = omega (arith, h)
part_inside r laid Void f t complete h = no complete
part_inside r laid (Int k) f t complete h = scalar_inside r (Int k) f t h
part_inside r laid (Pointer q) f t complete h = scalar_inside r (Pointer q) f t h
part_inside r laid (Function q ps) f t complete h = no complete

pub next_inside : (r : List RecordValue) → IsLaid r → (f : Frame) (t : Target) → IsComplete r f.ty → next_part r f ≡ Some t → Inside r f.ty f t
next_inside r laid f t complete h = part_inside r laid f.ty f t complete h

-- behind it comes the next part
one_more : {A : Type 0} (n : ℕ) → (n + 1 == 0) ≡ true → A
one_more n e = let z : n + 1 ≡ 0 = eqb-true (n + 1) 0 e in grind (arith, z)

union_once : (r : List RecordValue) (n k : ℕ) → kind_at r n ≡ Union → is_past_union r n (k + 1) ≡ false → ⊥
union_once r n k u e = by (k + 1 == 0) refl (sym (ap (λ x. is_union x && not (k + 1 == 0)) u) ∙ e)
  where
    by : (b : Bool) → (k + 1 == 0) ≡ b → not b ≡ false → ⊥
    by true g h = one_more k g
    by false g h = no (sym h)

part_behind : (r : List RecordValue) → IsLaid r → (ty : CType) (f : Frame) (t u : Target) → part_of r ty f ≡ Some t → part_of r ty (one_on f) ≡ Some u → t.offset + sized r (type_of t.ty) ≤ u.offset
part_behind r laid (Array (Qualified e c v) n) f t u h k =
    let x = element_is r (Qualified e c v) n f t h in
    let y = element_is r (Qualified e c v) n (one_on f) u k in
    let same : f.next * sized r e + sized r e ≡ (f.next + 1) * sized r e = element_next (sized r e) f.next in
    subst (λ (w : Target). t.offset + sized r (type_of t.ty) ≤ w.offset) y.1
    (subst (λ (w : Target). w.offset + sized r (type_of w.ty) ≤ f.offset + (f.next + 1) * sized r e) x.1 (plus_same f.offset (f.next * sized r e) (sized r e) ((f.next + 1) * sized r e) same))
  where
    plus_same : (a b c d : ℕ) → b + c ≡ d → a + b + c ≤ a + d
    plus_same a b c d h = omega (arith, h)
part_behind r laid (Record n) f t u h k =
    let x = member_is r n f t h in
    let y = member_is r n (one_on f) u k in
    by (kind_at r n) refl x y
  where
    plus_within : (a b c d : ℕ) → b + c ≤ d → a + b + c ≤ a + d
    plus_within a b c d h = omega (arith, h)

    by : (kind : RecordKind) → kind_at r n ≡ kind → Member r n f t → Member r n (one_on f) u → t.offset + sized r (type_of t.ty) ≤ u.offset
    by Union e x y = absurd (union_once r n f.next e y.first)
    by Structure e x y =
        let one : x.content ≡ y.content = some_same (sym x.defined ∙ y.defined) in
        let placed : slice_get x.content.offsets (suc f.next) ≡ Some y.offset = ap (λ (c : ContentValue). slice_get c.offsets (suc f.next)) one ∙ (ap (slice_get y.content.offsets) (sym (add-one f.next)) ∙ y.placed) in
        let behind : x.offset + sized r (type_of x.member.ty) ≤ y.offset =
        record_next r x.content laid (subst (λ k. Follows r k x.content) e (laid n x.content x.defined)) f.next x.member x.offset y.offset x.listed x.placed placed in
        subst (λ (w : Target). t.offset + sized r (type_of t.ty) ≤ w.offset) y.is
        (subst (λ (w : Target). w.offset + sized r (type_of w.ty) ≤ f.offset + y.offset) x.is (plus_within f.offset x.offset (sized r (type_of x.member.ty)) y.offset behind))
part_behind r laid Void f t u h k = one_more f.next (scalar_is Void (one_on f) u k).0
part_behind r laid (Int i) f t u h k = one_more f.next (scalar_is (Int i) (one_on f) u k).0
part_behind r laid (Pointer q) f t u h k = one_more f.next (scalar_is (Pointer q) (one_on f) u k).0
part_behind r laid (Function q ps) f t u h k = one_more f.next (scalar_is (Function q ps) (one_on f) u k).0

pub next_behind : (r : List RecordValue) → IsLaid r → (f : Frame) (t u : Target) → next_part r f ≡ Some t → next_part r (one_on f) ≡ Some u → t.offset + sized r (type_of t.ty) ≤ u.offset
next_behind r laid f t u h k = part_behind r laid f.ty f t u h k

-- a part of an object of a complete type has one
complete_part : (r : List RecordValue) → IsLaid r → (ty : CType) (f : Frame) (t : Target) → IsComplete r ty → part_of r ty f ≡ Some t → IsComplete r (type_of t.ty)
complete_part r laid (Array (Qualified e c v) (Some n)) f t complete h =
    subst (λ (w : Target). IsComplete r (type_of w.ty)) (element_is r (Qualified e c v) (Some n) f t h).1 (element_complete r e c v n complete)
complete_part r laid (Array (Qualified e c v) None) f t complete h = no complete
complete_part r laid (Record n) f t complete h =
    let m = member_is r n f t h in
    subst (λ (w : Target). IsComplete r (type_of w.ty)) m.is (members_complete r (kind_at r n) m.content (laid n m.content m.defined) f.next m.member m.listed)
complete_part r laid Void f t complete h = no complete
complete_part r laid (Int k) f t complete h = subst (λ (w : Target). IsComplete r (type_of w.ty)) (scalar_is (Int k) f t h).1 refl
complete_part r laid (Pointer q) f t complete h = subst (λ (w : Target). IsComplete r (type_of w.ty)) (scalar_is (Pointer q) f t h).1 refl
complete_part r laid (Function q ps) f t complete h = no complete

pub part_complete : (r : List RecordValue) → IsLaid r → (f : Frame) (t : Target) → IsComplete r f.ty → next_part r f ≡ Some t → IsComplete r (type_of t.ty)
part_complete r laid f t complete h = complete_part r laid f.ty f t complete h

-- so has an element of an array of any length
pub element_part : (r : List RecordValue) (f : Frame) (t : Target) (q : QType) → IsComplete r (type_of q) → part_of r (Array q None) f ≡ Some t → IsComplete r (type_of t.ty)
element_part r f t q complete h = subst (λ (w : Target). IsComplete r (type_of w.ty)) (element_is r q None f t h).1 complete
