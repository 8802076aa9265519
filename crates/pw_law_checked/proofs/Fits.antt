-- Types whose arrays have elements, and the sizes and alignments of their objects (ISO C90 6.5.4.2).
use Rattle.std.specs.Prelude.{ℕ, zero, suc, ◌≡◌, ◌+◌, ◌-◌, ◌*◌, ◌/◌, ◌%◌, ◌<◌, ◌≤◌, max, true, IsSomeAnd, Option, None, Some, is_some, unwrap_or, option_map, List, [], ◌∷◌, map, slice_get, refl, length, take, ◌++◌}
use Rattle.std.specs.List.{AllByRecursion}
use Rattle.pw_types.specs.TypedModules.{item_size}
use Rattle.pw_types.specs.TypedTrees.{PlacedItem}
use Rattle.std.proofs.Math.Nat.{mul_right_comm}
use Rattle.std.proofs.Common.{arith, ap, sym, subst, ◌∙◌, inl, inr}
use Rattle.pw_flow.specs.ValidFlow.{IsUnit, IsMoved}
use Rattle.pw_types.specs.Conversions.{size_of_kind}
use Rattle.pw_types.specs.declared.kind.IntKind.{IntKind}
use Rattle.pw_types.specs.declared.kind.IntKind.TheVariants as K
use Rattle.pw_types.specs.declared.record.Layout.{Layout}
use Rattle.pw_types.specs.declared.record.RecordKind.{RecordKind}
use Rattle.pw_types.specs.declared.record.RecordKind.TheVariants.{Structure, Union}
use Rattle.pw_types.specs.Layouts.{content_at, layout_of, array_layout, scalar_layout, round_up, end_from, align_of, greatest, record_layout}
use Rattle.pw_types.specs.Records.{IsObjectType, layouts_of}
use Rattle.pw_types.specs.TypeTrees.{CType, Void, Int, Pointer, Array, Function, Record, Qualified, type_of, MemberValue, ContentValue, RecordValue}
use Rattle.pw_value.specs.Limits.{size_limit}
use Rattle.pw_law_lower.specs.Within.{IsCopied}
use Rattle.pw_tree.specs.WellFormed.{NotEmpty}
use Rattle.pw_law_checked.proofs.Lists.{some_same, never_some, map_some}
use Rattle.pw_law_checked.proofs.Types.{no}
use Rattle.pw_law_checked.proofs.Parts.{round_behind}

-- ---- types

abbrev pub HasElements : Option ℕ → Type 0
HasElements None = Unit {0}
HasElements (Some n) = 0 < n

-- no array in an object of the type is empty
abbrev pub IsFit : CType → Type 0
IsFit (Array (Qualified ty c v) n) = IsFit ty × HasElements n
IsFit _ = Unit {0}

-- ---- layouts

pub record IsSolid (l : Layout) : Type 0 where
  pub unit : IsUnit l.align
  pub some : 0 < l.size
  pub times : ℕ
  pub whole : l.size ≡ times * l.align

abbrev pub AreSolid : List RecordValue → Type 0
AreSolid r = (n : ℕ) (c : ContentValue) → content_at r n ≡ Some c → IsSolid c.layout

scalar_solid : (n : ℕ) → IsUnit n → IsSolid (scalar_layout n)
scalar_solid n h = record { unit = h; some = positive n h; times = 1; whole = omega arith }
  where
    positive : (n : ℕ) → IsUnit n → 0 < n
    positive n h = grind arith

kind_solid : (k : IntKind) → IsUnit (size_of_kind k)
kind_solid K.Char = inl refl
kind_solid K.SChar = inl refl
kind_solid K.UChar = inl refl
kind_solid K.Short = inr (inl refl)
kind_solid K.UShort = inr (inl refl)
kind_solid K.Int = inr (inr refl)
kind_solid K.UInt = inr (inr refl)
kind_solid K.Long = inr (inr refl)
kind_solid K.ULong = inr (inr refl)

times_positive : (a b : ℕ) → 0 < a → 0 < b → 0 < a * b
times_positive a zero h k = absurd (omega (arith, k))
times_positive a (suc b) h k = let x : a * suc b ≡ a * b + a = omega arith in omega (arith, x, h)

times_whole : (size align k n : ℕ) → size ≡ k * align → size * n ≡ (k * n) * align
times_whole size align k n e = ap (λ m. m * n) e ∙ mul_right_comm k align n

array_solid : (n : ℕ) (l : Layout) → 0 < n → IsSolid l → IsSolid (array_layout n l)
array_solid n l h s = record { unit = s.unit; some = times_positive l.size n s.some h; times = s.times * n; whole = times_whole l.size l.align s.times n s.whole }

pub layout_solid : (r : List RecordValue) → AreSolid r → (ty : CType) → IsFit ty → (l : Layout) → layout_of r ty ≡ Some l → IsSolid l
layout_solid r solid Void h l e = never_some e
layout_solid r solid (Int k) h l e = subst IsSolid (some_same e) (scalar_solid (size_of_kind k) (kind_solid k))
layout_solid r solid (Pointer q) h l e = subst IsSolid (some_same e) (scalar_solid 4 (inr (inr refl)))
layout_solid r solid (Array (Qualified ty c v) None) h l e = never_some e
layout_solid r solid (Array (Qualified ty c v) (Some n)) h l e =
    let x = map_some (array_layout n) (layout_of r ty) l e in
    subst IsSolid x.2 (array_solid n x.0 h.1 (layout_solid r solid ty h.0 x.0 x.1))
layout_solid r solid (Function q ps) h l e = never_some e
layout_solid r solid (Record n) h l e =
    let x = map_some (λ (c : ContentValue). c.layout) (content_at r n) l e in
    subst IsSolid x.2 (solid n x.0 x.1)

-- ---- records

abbrev pub AreAllSolid : List Layout → Type 0
AreAllSolid [] = Unit {0}
AreAllSolid (l ∷ ls) = IsSolid l × AreAllSolid ls

one_of_units : (a b : ℕ) → IsUnit a → IsUnit b → IsUnit (max a b)
one_of_units a b h k = grind arith

unit_least : (a : ℕ) → IsUnit a → 1 ≤ a
unit_least a h = grind arith

max_zero : (a : ℕ) → max a 0 ≡ a
max_zero a = omega arith

greatest_unit : (l : Layout) (ls : List Layout) → IsSolid l → AreAllSolid ls → IsUnit (greatest (map (λ (x : Layout). x.align) (l ∷ ls)))
greatest_unit l [] h all = subst IsUnit (sym (max_zero l.align)) h.unit
greatest_unit l (m ∷ ls) h all = one_of_units l.align (greatest (map (λ (x : Layout). x.align) (m ∷ ls))) h.unit (greatest_unit m ls all.0 all.1)

one_more : (a : ℕ) → IsUnit a → IsUnit (max 1 a)
one_more a h = one_of_units 1 a (inl refl) h

rounded : (n align : ℕ) → IsUnit align → 0 < n → 0 < round_up n align
rounded n align h k = let one : 1 ≤ align = unit_least align h in let up : n ≤ round_up n align = round_behind n align one in omega (arith, up, k)

end_some : (from : ℕ) (l : Layout) (ls : List Layout) → IsSolid l → AreAllSolid ls → 0 < end_from from (l ∷ ls)
end_some from l [] h all = let k : 0 < l.size = h.some in omega (arith, k)
end_some from l (m ∷ ls) h all = end_some (round_up from l.align + l.size) m ls all.0 all.1

greatest_some : (l : Layout) (ls : List Layout) → IsSolid l → 0 < greatest (map (λ (x : Layout). x.size) (l ∷ ls))
greatest_some l ls h = let k : 0 < l.size = h.some in omega (arith, k)

record_solid : (kind : RecordKind) (l : Layout) (ls : List Layout) → IsSolid l → AreAllSolid ls → IsSolid (record_layout kind (l ∷ ls))
record_solid Structure l ls h all =
    let unit = one_more (greatest (map (λ (x : Layout). x.align) (l ∷ ls))) (greatest_unit l ls h all) in
    record { unit = unit; some = rounded (end_from 0 (l ∷ ls)) (align_of (l ∷ ls)) unit (end_some 0 l ls h all); times = (end_from 0 (l ∷ ls) + (align_of (l ∷ ls) - 1)) / align_of (l ∷ ls); whole = refl }
record_solid Union l ls h all =
    let unit = one_more (greatest (map (λ (x : Layout). x.align) (l ∷ ls))) (greatest_unit l ls h all) in
    record {
      unit = unit;
      some = rounded (greatest (map (λ (x : Layout). x.size) (l ∷ ls))) (align_of (l ∷ ls)) unit (greatest_some l ls h);
      times = (greatest (map (λ (x : Layout). x.size) (l ∷ ls)) + (align_of (l ∷ ls) - 1)) / align_of (l ∷ ls);
      whole = refl;
    }

abbrev pub MembersFit : List MemberValue → Type 0
MembersFit [] = Unit {0}
MembersFit (m ∷ ms) = IsFit (type_of m.ty) × MembersFit ms

members_solid : (r : List RecordValue) → AreSolid r → (ms : List MemberValue) → MembersFit ms → ((i : ℕ) (m : MemberValue) → slice_get ms i ≡ Some m → is_some (layout_of r (type_of m.ty)) ≡ true)
    → AreAllSolid (layouts_of r ms)
members_solid r solid [] h complete = tt
members_solid r solid (m ∷ ms) h complete = (by (layout_of r (type_of m.ty)) refl (complete 0 m refl), members_solid r solid ms h.1 (λ i x e. complete (suc i) x e))
  where
    by : (o : Option Layout) → layout_of r (type_of m.ty) ≡ o → is_some o ≡ true → IsSolid (unwrap_or o (scalar_layout 0))
    by None e k = no k
    by (Some l) e k = layout_solid r solid (type_of m.ty) h.0 l e

-- what follows from members that are complete and fit
pub content_solid : (r : List RecordValue) (kind : RecordKind) (ms : List MemberValue) → AreSolid r → NotEmpty ms → MembersFit ms
    → ((i : ℕ) (m : MemberValue) → slice_get ms i ≡ Some m → is_some (layout_of r (type_of m.ty)) ≡ true) → IsSolid (record_layout kind (layouts_of r ms))
content_solid r kind [] solid some h complete = absurd some
content_solid r kind (m ∷ ms) solid some h complete =
    let all = members_solid r solid (m ∷ ms) h complete in
    record_solid kind (unwrap_or (layout_of r (type_of m.ty)) (scalar_layout 0)) (layouts_of r ms) all.0 all.1

-- ---- copies

whole_units : (size align k : ℕ) → IsUnit align → size ≡ k * align → size % align ≡ 0
whole_units size align k (inl h) e = omega (arith, h)
whole_units size align k (inr (inl h)) e = let x : size ≡ k * 2 = e ∙ ap (λ a. k * a) h in ap (λ a. size % a) h ∙ omega (arith, x)
whole_units size align k (inr (inr h)) e = let x : size ≡ k * 4 = e ∙ ap (λ a. k * a) h in ap (λ a. size % a) h ∙ omega (arith, x)

pub object_copied : (r : List RecordValue) (ty : CType) → AreSolid r → IsFit ty → IsObjectType r ty → IsCopied r ty
object_copied r ty solid fit object = by (layout_of r ty) refl object
  where
    by : (o : Option Layout) → layout_of r ty ≡ o → IsSomeAnd o (λ l. l.size ≤ size_limit)
        → IsMoved (unwrap_or (option_map (λ (l : Layout). l.size) o) 0) (unwrap_or (option_map (λ (l : Layout). l.align) o) 1)
    by None e h = absurd h
    by (Some l) e h =
        let s = layout_solid r solid ty fit l e in
        record { units = s.unit; whole = whole_units l.size l.align s.times s.unit s.whole; positive = s.some; few = h }

-- ---- items

-- no item is empty
abbrev pub AreSome : List PlacedItem → Type 0
AreSome items = AllByRecursion (λ p. 0 < item_size p.item) items

pub some_append : (xs ys : List PlacedItem) → AreSome xs → AreSome ys → AreSome (xs ++ ys)
some_append [] ys h k = k
some_append (x ∷ xs) ys h k = (h.0, some_append xs ys h.1 k)

pub some_end : (xs : List ℕ) (y : ℕ) → 0 < length (xs ++ y ∷ [])
some_end [] y = omega arith
some_end (x ∷ xs) y = let h : 0 < length (xs ++ y ∷ []) = some_end xs y in omega (arith, h)

pub some_taken : (n : ℕ) (xs : List ℕ) → 0 < n → 0 < length xs → 0 < length (take n xs)
some_taken zero xs h k = absurd (omega (arith, h))
some_taken (suc n) [] h k = absurd (omega (arith, k))
some_taken (suc n) (x ∷ xs) h k = omega arith
