-- Types of objects: they are complete and keep the limit on sizes; and what follows from a record's members.
use Rattle.std.specs.Prelude.{ℕ, ◌≡◌, ◌≤◌, nat_lt, max, Bool, true, false, Option, None, Some, is_some, unwrap_or, option_map, IsSomeAnd, IsSome, List, length, get_or, slice_get, if◌then◌else◌, refl}
use Rattle.std.specs.Option.{option_or}
use Rattle.std.proofs.Common.{arith, ap, sym, subst}
use Rattle.std.proofs.lemmas.Bool.{ltb-false}
use Rattle.std.proofs.lemmas.Option.{slice_get-get_or}
use Rattle.pw_types.specs.Conversions.{size_of_kind}
use Rattle.pw_types.specs.declared.kind.IntKind.{IntKind}
use Rattle.pw_types.specs.declared.kind.IntKind.TheVariants as K
use Rattle.pw_types.specs.declared.record.Layout.{Layout}
use Rattle.pw_types.specs.declared.record.RecordKind.{RecordKind}
use Rattle.pw_types.specs.declared.record.RecordKind.TheVariants.{Structure, Union}
use Rattle.pw_types.specs.Layouts.{content_at, layout_of, array_layout, record_layout}
use Rattle.pw_types.specs.Records.{Follows, IsObjectType, layouts_of}
use Rattle.pw_types.specs.Sizes.{oversize_of, passing}
use Rattle.pw_types.specs.TypeTrees.{CType, Void, Int, Pointer, Array, Function, Record, QType, Qualified, type_of, MemberValue, ContentValue, RecordValue}
use Rattle.pw_value.specs.Limits.{size_limit, shape_limit, depth_limit}
use Rattle.pw_check_walk.specs.Causes.{Constraint, needs, DeclaredTag}
use Rattle.pw_check_rules.specs.Kinds.{is_complete}
use Rattle.pw_check_rules.specs.Limits.{Spot, completed, lacks_content, type_within}
use Rattle.pw_check_rules.specs.Leaves.{content_by, content_point}
use Rattle.pw_law_checked.specs.Lawful.{Extends}
use Rattle.pw_law_checked.proofs.Walking.{AreMet, truth}
use Rattle.pw_law_checked.proofs.Lists.{never_some}
use Rattle.pw_law_checked.proofs.Types.{no}

-- ---- a type that is complete keeps its layout

some_of_map : {A B : Type 0} (f : A → B) (o : Option A) → is_some (option_map f o) ≡ true → is_some o ≡ true
some_of_map f None h = no h
some_of_map f (Some x) h = refl

record_same : (a b : List RecordValue) → Extends a b → (n : ℕ) → IsSome (layout_of a (Record n)) → layout_of b (Record n) ≡ layout_of a (Record n)
record_same a b x n h = by (content_at a n) refl h
  where
    by : (o : Option ContentValue) → content_at a n ≡ o → is_some (option_map (λ (c : ContentValue). c.layout) o) ≡ true
        → option_map (λ (c : ContentValue). c.layout) (content_at b n) ≡ option_map (λ (c : ContentValue). c.layout) o
    by None e k = no k
    by (Some c) e k = ap (option_map (λ (y : ContentValue). y.layout)) (x.kept n c e)

pub layout_same : (a b : List RecordValue) → Extends a b → (ty : CType) → IsSome (layout_of a ty) → layout_of b ty ≡ layout_of a ty
layout_same a b x Void h = refl
layout_same a b x (Int k) h = refl
layout_same a b x (Pointer q) h = refl
layout_same a b x (Array (Qualified ty c v) None) h = refl
layout_same a b x (Array (Qualified ty c v) (Some n)) h =
    ap (option_map (array_layout n)) (layout_same a b x ty (some_of_map (array_layout n) (layout_of a ty) h))
layout_same a b x (Function q ps) h = refl
layout_same a b x (Record n) h = record_same a b x n h

object_some : (o : Option Layout) → IsSomeAnd o (λ l. l.size ≤ size_limit) → is_some o ≡ true
object_some None h = absurd h
object_some (Some l) h = refl

pub object_complete : (r : List RecordValue) (ty : CType) → IsObjectType r ty → IsSome (layout_of r ty)
object_complete r ty h = object_some (layout_of r ty) h

pub object_later : (a b : List RecordValue) → Extends a b → (ty : CType) → IsObjectType a ty → IsObjectType b ty
object_later a b x ty h =
    subst (λ o. IsSomeAnd o (λ l. l.size ≤ size_limit)) (sym (layout_same a b x ty (object_complete a ty h))) h

-- ---- what the constraints on a declared type say

completed_by : (records : List RecordValue) (spot : Spot) (c : Constraint) (ty : CType) (x y : Bool)
    → (if x then (if y then needs DeclaredTag (unwrap_or spot.tag 0) false else needs c spot.token (is_complete records ty)) else needs c spot.token (is_complete records ty)).broken ≡ false
    → is_complete records ty ≡ true
completed_by records spot c ty true true e = no (sym e)
completed_by records spot c ty true false e = truth (is_complete records ty) e
completed_by records spot c ty false y e = truth (is_complete records ty) e

pub completed_so : (records : List RecordValue) (spot : Spot) (c : Constraint) (ty : CType) → (completed records spot c ty).broken ≡ false → is_complete records ty ≡ true
completed_so records spot c ty e = completed_by records spot c ty (is_some spot.tag) (lacks_content records ty) e

none_so : {A : Type 0} (o : Option A) → is_some o ≡ false → o ≡ None
none_so None e = refl
none_so (Some x) e = no (sym e)

pub within_so : (records : List RecordValue) (token : ℕ) (q : QType) → AreMet (type_within records token q) → oversize_of records (type_of q) ≡ None
within_so records token q met = none_so (oversize_of records (type_of q)) met.0

pub small : (k : IntKind) → size_of_kind k ≤ size_limit
small K.Char = omega arith
small K.SChar = omega arith
small K.UChar = omega arith
small K.Short = omega arith
small K.UShort = omega arith
small K.Int = omega arith
small K.UInt = omega arith
small K.Long = omega arith
small K.ULong = omega arith

passing_so : (n : ℕ) → passing (Some n) ≡ None → n ≤ size_limit
passing_so n e = by (nat_lt size_limit n) refl e
  where
    by : (b : Bool) → nat_lt size_limit n ≡ b → (if b then Some n else None) ≡ None → n ≤ size_limit
    by true h f = never_some (sym f)
    by false h f = ltb-false size_limit n h

second_none : {A : Type 0} (x y : Option A) → option_or x y ≡ None → y ≡ None
second_none None y e = e
second_none (Some x) y e = never_some (sym e)

sized : (o : Option Layout) → is_some (option_map (λ (l : Layout). l.size) o) ≡ true → passing (option_map (λ (l : Layout). l.size) o) ≡ None → IsSomeAnd o (λ l. l.size ≤ size_limit)
sized None h e = no h
sized (Some l) h e = passing_so l.size e

pub object_type : (r : List RecordValue) (ty : CType) → is_complete r ty ≡ true → oversize_of r ty ≡ None → IsObjectType r ty
object_type r Void h e = no h
object_type r (Int k) h e = small k
object_type r (Pointer q) h e = omega arith
object_type r (Array (Qualified ty c v) n) h e = sized (layout_of r (Array (Qualified ty c v) n)) h (second_none (oversize_of r ty) _ e)
object_type r (Function q ps) h e = no h
object_type r (Record n) h e = sized (layout_of r (Record n)) h e

-- ---- what follows from a record's members

at_least_one : (a b : ℕ) → a ≤ max a b
at_least_one a b = omega arith

aligned_by : (kind : RecordKind) (ls : List Layout) → 1 ≤ (record_layout kind ls).align
aligned_by Structure ls = at_least_one 1 _
aligned_by Union ls = at_least_one 1 _

pub follows_so : (r : List RecordValue) (kind : RecordKind) (token : ℕ) (ms : List MemberValue)
    → ((i : ℕ) (m : MemberValue) → slice_get ms i ≡ Some m → IsObjectType r (type_of m.ty))
    → AreMet (content_point token (content_by r kind ms)) → Follows r kind (content_by r kind ms)
follows_so r kind token ms objects met = record {
  complete = λ k d below. objects k (get_or ms k d) (slice_get-get_or ms k d below);
  laid = refl;
  placed = refl;
  shaped = refl;
  within = ltb-false size_limit (content_by r kind ms).layout.size met.0;
  aligned = aligned_by kind (layouts_of r ms);
  short = ltb-false shape_limit (length (content_by r kind ms).shape) met.1.0;
  shallow = ltb-false depth_limit (content_by r kind ms).depth met.1.1.0;
}
