-- Types that are declared of objects: they keep the limit on sizes where they are complete, and so does a composite of them.
use Rattle.std.specs.Prelude.{ℕ, ◌≡◌, ◌≤◌, ◌⊎◌, true, false, Option, None, Some, is_some, option_map, IsSomeAnd, List, [], ◌∷◌, ◌++◌, length, slice_get, refl}
use Rattle.std.proofs.Common.{arith, ap, sym, subst, ◌∙◌, inl, inr}
use Rattle.std.proofs.lemmas.Bool.{eqb-true}
use Rattle.pw_types.specs.declared.record.Layout.{Layout}
use Rattle.pw_types.specs.Layouts.{content_at, layout_of, array_layout}
use Rattle.pw_types.specs.Records.{IsLaid, IsObjectType}
use Rattle.pw_types.specs.TypeTrees.{CType, Void, Int, Pointer, Array, Function, Record, QType, Qualified, type_of, ContentValue, RecordValue}
use Rattle.pw_types.specs.WellTyped.{IsComplete}
use Rattle.pw_value.specs.Limits.{size_limit}
use Rattle.pw_check_rules.specs.Compatible.{compatible, compatible_types, composite, composite_type}
use Rattle.pw_check_rules.specs.Kinds.{is_function, is_array}
use Rattle.pw_check_rules.specs.States.{LinkedName, put_at}
use Rattle.pw_check_rules.specs.Limits.{type_within}
use Rattle.pw_law_checked.specs.Lawful.{IsLawfulType, Extends}
use Rattle.pw_law_checked.proofs.Walking.{AreMet}
use Rattle.pw_law_checked.proofs.Lists.{some_same, never_some, put_cases, get_more}
use Rattle.pw_law_checked.proofs.Types.{lawful_later, no, left, map_is_some, complete_composite}
use Rattle.pw_law_checked.proofs.Objects.{layout_same, object_type, within_so, small}
use Rattle.pw_law_checked.proofs.Composite.{types_compatible, layout_composite, layout_compatible, layout_alone, layout_covered, Covers}

-- where it is complete, it keeps the limit on sizes
abbrev pub IsWithin : List RecordValue → CType → Type 0
IsWithin r ty = (l : Layout) → layout_of r ty ≡ Some l → l.size ≤ size_limit

pub object_is : (r : List RecordValue) (ty : CType) → IsComplete r ty → IsWithin r ty → IsObjectType r ty
object_is r ty complete fits = by (layout_of r ty) refl complete
  where
    by : (o : Option Layout) → layout_of r ty ≡ o → is_some o ≡ true → IsSomeAnd o (λ l. l.size ≤ size_limit)
    by None e h = no h
    by (Some l) e h = fits l e

pub object_complete : (r : List RecordValue) (ty : CType) → IsObjectType r ty → IsComplete r ty
object_complete r ty h = by (layout_of r ty) h
  where
    by : (o : Option Layout) → IsSomeAnd o (λ (l : Layout). l.size ≤ size_limit) → is_some o ≡ true
    by None h = absurd h
    by (Some l) h = refl

pub object_fits : (r : List RecordValue) (ty : CType) → IsObjectType r ty → IsWithin r ty
object_fits r ty h l e = subst (λ o. IsSomeAnd o (λ l. l.size ≤ size_limit)) e h

pub fits_later : (a b : List RecordValue) → Extends a b → IsLaid b → (ty : CType) → IsLawfulType a ty → IsWithin a ty → IsWithin b ty
fits_later a b x laid Void lawful h l e = h l e
fits_later a b x laid (Int k) lawful h l e = h l e
fits_later a b x laid (Pointer q) lawful h l e = h l e
fits_later a b x laid (Array (Qualified ty c v) None) lawful h l e = never_some e
fits_later a b x laid (Array (Qualified ty c v) (Some n)) lawful h l e =
    h l (sym (ap (option_map (array_layout n)) (layout_same a b x ty lawful.1)) ∙ e)
fits_later a b x laid (Function q ps) lawful h l e = never_some e
fits_later a b x laid (Record n) lawful h l e = by (content_at b n) refl e
  where
    by : (o : Option ContentValue) → content_at b n ≡ o → option_map (λ (c : ContentValue). c.layout) o ≡ Some l → l.size ≤ size_limit
    by None f g = never_some g
    by (Some c) f g = subst (λ (y : Layout). y.size ≤ size_limit) (some_same g) (laid n c f).within

pub fits_composite : (r : List RecordValue) (a b : CType) → compatible_types a b ≡ true → IsLawfulType r a → IsLawfulType r b → IsWithin r a → IsWithin r b → IsWithin r (composite_type a b)
unfolding composite_type compatible_types
fits_composite r (Pointer q) (Pointer p) e h k f g l z = f l z
fits_composite r (Array (Qualified a c w) (Some n)) (Array (Qualified b d u) m) e h k f g l z =
    f l (sym (ap (option_map (array_layout n)) (layout_composite r a b h.1 r)) ∙ z)
fits_composite r (Array (Qualified a c w) None) (Array (Qualified b d u) (Some m)) e h k f g l z =
    let both = types_compatible a b c w d u (left (compatible (Qualified a c w) (Qualified b d u)) true e) in
    g l (sym (ap (option_map (array_layout m)) (layout_composite r a b h.1 r ∙ layout_compatible r a b both.0 h.1 k.1 r)) ∙ z)
fits_composite r (Array (Qualified a c w) None) (Array (Qualified b d u) None) e h k f g l z = never_some z
fits_composite r (Function q ps) (Function p qs) e h k f g l z = never_some z
fits_composite r Void b e h k f g l z = f l z
fits_composite r (Int i) b e h k f g l z = f l z
fits_composite r (Record i) b e h k f g l z = f l z
fits_composite r _ _ e h k f g l z = no e

pub complete_second : (r : List RecordValue) (a b : CType) → compatible_types a b ≡ true → IsLawfulType r a → IsComplete r b → IsComplete r (composite_type a b)
unfolding composite_type compatible_types
complete_second r (Pointer q) (Pointer p) e h k = refl
complete_second r (Int i) (Int j) e h k = refl
complete_second r (Array (Qualified a c w) (Some n)) (Array (Qualified b d u) m) e h k = map_is_some (array_layout n) (layout_of r (composite_type a b)) ∙ complete_composite r a b h.1
complete_second r (Array (Qualified a c w) None) (Array (Qualified b d u) (Some m)) e h k = map_is_some (array_layout m) (layout_of r (composite_type a b)) ∙ complete_composite r a b h.1
complete_second r (Array (Qualified a c w) None) (Array (Qualified b d u) None) e h k = no k
complete_second r (Record i) (Record j) e h k = subst (λ n. IsComplete r (Record n)) (sym (eqb-true i j e)) k
complete_second r (Function q ps) (Function p qs) e h k = no k
complete_second r Void Void e h k = no k
complete_second r _ _ e h k = no e

of_layout : (r : List RecordValue) (ty : CType) (l : Layout) → layout_of r ty ≡ Some l → Rattle.pw_check_rules.specs.Kinds.is_complete r ty ≡ true
of_layout r ty l e = ap (λ o. is_some (option_map (λ (x : Layout). x.size) o)) e

pub within_fits : (r : List RecordValue) (token : ℕ) (q : QType) → AreMet (type_within r token q) → IsWithin r (type_of q)
within_fits r token q met l e = object_fits r (type_of q) (object_type r (type_of q) (of_layout r (type_of q) l e) (within_so r token q met)) l e

-- ---- what covers a complete type that keeps the limit keeps it

pub object_covered : (r : List RecordValue) (a b : QType) → Covers a b → IsObjectType r (type_of b) → IsObjectType r (type_of a)
object_covered r a b h k = subst (λ o. IsSomeAnd o (λ (l : Layout). l.size ≤ size_limit)) (sym (layout_covered r a b h (object_complete r (type_of b) k))) k

-- a composite with a complete type that covers the first one is complete
alone_complete : (r : List RecordValue) (a b : QType) → Covers b a → is_array (type_of a) ≡ false → IsComplete r (type_of b) → IsComplete r (type_of a)
alone_complete r a b x e k = ap is_some (layout_alone r a e ∙ (sym (x.sizes r) ∙ sym (layout_alone r b (x.array ∙ e)))) ∙ k

pub complete_with : (r : List RecordValue) (a b : QType) → Covers b a → IsLawfulType r (type_of a) → IsComplete r (type_of b) → IsComplete r (type_of (composite a b))
unfolding composite composite_type
complete_with r (Qualified (Array (Qualified a c w) (Some n)) e f) (Qualified (Array (Qualified b d u) m) g i) x h k = map_is_some (array_layout n) (layout_of r (composite_type a b)) ∙ complete_composite r a b h.1
complete_with r (Qualified (Array (Qualified a c w) None) e f) (Qualified (Array (Qualified b d u) (Some m)) g i) x h k = map_is_some (array_layout m) (layout_of r (composite_type a b)) ∙ complete_composite r a b h.1
complete_with r (Qualified (Array (Qualified a c w) None) e f) (Qualified (Array (Qualified b d u) None) g i) x h k = no k
complete_with r (Qualified (Array p n) e f) (Qualified Void g i) x h k = no x.array
complete_with r (Qualified (Array p n) e f) (Qualified (Int j) g i) x h k = no x.array
complete_with r (Qualified (Array p n) e f) (Qualified (Pointer q) g i) x h k = no x.array
complete_with r (Qualified (Array p n) e f) (Qualified (Function q ps) g i) x h k = no x.array
complete_with r (Qualified (Array p n) e f) (Qualified (Record j) g i) x h k = no x.array
complete_with r (Qualified (Pointer p) e f) (Qualified (Pointer q) g i) x h k = refl
complete_with r (Qualified (Pointer p) e f) (Qualified _ g i) x h k = refl
complete_with r (Qualified (Function p ps) e f) b x h k = no (alone_complete r (Qualified (Function p ps) e f) b x refl k)
complete_with r (Qualified Void e f) b x h k = no (alone_complete r (Qualified Void e f) b x refl k)
complete_with r (Qualified (Int j) e f) (Qualified b g i) x h k = refl
complete_with r (Qualified (Record j) e f) (Qualified b g i) x h k = alone_complete r (Qualified (Record j) e f) (Qualified b g i) x refl k

-- ---- the limit on sizes, where more that is known of records does not change the size

-- an array keeps the limit; a structure or union does where it is defined
abbrev pub KeepsLimit : List RecordValue → CType → Type 0
KeepsLimit r (Array q n) = IsWithin r (Array q n)
KeepsLimit r _ = Unit {0}

pub within_keeps : (r : List RecordValue) (ty : CType) → IsWithin r ty → KeepsLimit r ty
within_keeps r (Array q n) h = h
within_keeps r Void h = tt
within_keeps r (Int k) h = tt
within_keeps r (Pointer q) h = tt
within_keeps r (Function q ps) h = tt
within_keeps r (Record n) h = tt

pub keeps_within : (r : List RecordValue) → IsLaid r → (ty : CType) → KeepsLimit r ty → IsWithin r ty
keeps_within r laid (Array q n) h l e = h l e
keeps_within r laid Void h l e = never_some e
keeps_within r laid (Int k) h l e = subst (λ (y : Layout). y.size ≤ size_limit) (some_same e) (small k)
keeps_within r laid (Pointer q) h l e = subst (λ (y : Layout). y.size ≤ size_limit) (some_same e) (omega arith)
keeps_within r laid (Function q ps) h l e = never_some e
keeps_within r laid (Record n) h l e = by (content_at r n) refl e
  where
    by : (o : Option ContentValue) → content_at r n ≡ o → option_map (λ (c : ContentValue). c.layout) o ≡ Some l → l.size ≤ size_limit
    by None f g = never_some g
    by (Some c) f g = subst (λ (y : Layout). y.size ≤ size_limit) (some_same g) (laid n c f).within

pub function_keeps : (r : List RecordValue) (ty : CType) → is_function ty ≡ true → KeepsLimit r ty
function_keeps r (Function q ps) e = tt
function_keeps r (Array q n) e = no e
function_keeps r Void e = tt
function_keeps r (Int k) e = tt
function_keeps r (Pointer q) e = tt
function_keeps r (Record n) e = tt

pub keeps_later : (a b : List RecordValue) → Extends a b → (ty : CType) → IsLawfulType a ty → KeepsLimit a ty → KeepsLimit b ty
keeps_later a b x (Array (Qualified ty c v) None) lawful h = λ l e. never_some e
keeps_later a b x (Array (Qualified ty c v) (Some n)) lawful h = λ l e.
    h l (sym (ap (option_map (array_layout n)) (layout_same a b x ty lawful.1)) ∙ e)
keeps_later a b x Void lawful h = tt
keeps_later a b x (Int k) lawful h = tt
keeps_later a b x (Pointer q) lawful h = tt
keeps_later a b x (Function q ps) lawful h = tt
keeps_later a b x (Record n) lawful h = tt

keeps_types : (r : List RecordValue) (a b : CType) → compatible_types a b ≡ true → IsLawfulType r a → IsLawfulType r b → KeepsLimit r a → KeepsLimit r b → KeepsLimit r (composite_type a b)
unfolding composite_type compatible_types
keeps_types r (Array q n) (Array p m) e h k f g = fits_composite r (Array q n) (Array p m) e h k f g
keeps_types r (Pointer q) (Pointer p) e h k f g = tt
keeps_types r (Function q ps) (Function p qs) e h k f g = tt
keeps_types r Void b e h k f g = tt
keeps_types r (Int i) b e h k f g = tt
keeps_types r (Record i) b e h k f g = tt
keeps_types r _ _ e h k f g = no e

pub keeps_composite : (r : List RecordValue) (a b : QType) → compatible a b ≡ true → IsLawfulType r (type_of a) → IsLawfulType r (type_of b) → KeepsLimit r (type_of a) → KeepsLimit r (type_of b)
    → KeepsLimit r (type_of (composite a b))
unfolding composite
keeps_composite r (Qualified a c v) (Qualified b d w) e h k f g = keeps_types r a b (types_compatible a b c v d w e).0 h k f g

-- each name with linkage keeps the limit
abbrev pub AreWithin : List RecordValue → List LinkedName → Type 0
AreWithin r xs = (n : ℕ) (l : LinkedName) → slice_get xs n ≡ Some l → IsLawfulType r (type_of l.ty) × KeepsLimit r (type_of l.ty)

pub within_later : (a b : List RecordValue) (xs : List LinkedName) → Extends a b → AreWithin a xs → AreWithin b xs
within_later a b xs x h n l e = let y = h n l e in (lawful_later a b x (type_of l.ty) y.0, keeps_later a b x (type_of l.ty) y.0 y.1)

pub within_put : (r : List RecordValue) (place : ℕ) (x : LinkedName) (xs : List LinkedName) → IsLawfulType r (type_of x.ty) → KeepsLimit r (type_of x.ty) → AreWithin r xs → AreWithin r (put_at place x xs)
within_put r place x xs lawful limit h n l e = by (put_cases place x xs n l e)
  where
    by : ((n ≡ place) × (x ≡ l) × ((z : LinkedName) × (slice_get xs place ≡ Some z))) ⊎ (slice_get xs n ≡ Some l) → IsLawfulType r (type_of l.ty) × KeepsLimit r (type_of l.ty)
    by (inl g) = subst (λ (z : LinkedName). IsLawfulType r (type_of z.ty) × KeepsLimit r (type_of z.ty)) g.1 (lawful, limit)
    by (inr g) = h n l g

pub within_same : (r : List RecordValue) (place : ℕ) (l x : LinkedName) (xs : List LinkedName) → slice_get xs place ≡ Some l → x.ty ≡ l.ty → AreWithin r xs → AreWithin r (put_at place x xs)
within_same r place l x xs at typed h =
    let y = h place l at in
    within_put r place x xs (subst (λ t. IsLawfulType r (type_of t)) (sym typed) y.0) (subst (λ t. KeepsLimit r (type_of t)) (sym typed) y.1) h

pub within_more : (r : List RecordValue) (x : LinkedName) (xs : List LinkedName) → IsLawfulType r (type_of x.ty) → KeepsLimit r (type_of x.ty) → AreWithin r xs → AreWithin r (xs ++ x ∷ [])
within_more r x xs lawful limit h n l e = by (get_more xs x n l e)
  where
    by : (slice_get xs n ≡ Some l) ⊎ ((n ≡ length xs) × (x ≡ l)) → IsLawfulType r (type_of l.ty) × KeepsLimit r (type_of l.ty)
    by (inl g) = h n l g
    by (inr g) = subst (λ (z : LinkedName). IsLawfulType r (type_of z.ty) × KeepsLimit r (type_of z.ty)) g.1 (lawful, limit)
