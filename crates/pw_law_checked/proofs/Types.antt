-- Lawful types: in records of which more is known, with qualifiers more, and composites.
use Rattle.std.specs.Prelude.{ℕ, zero, suc, ◌≡◌, ◌⊎◌, Bool, true, false, ◌&&◌, ◌||◌, not, Option, None, Some, is_some, option_map, List, refl}
use Rattle.std.proofs.Common.{arith, ap, sym, subst, ◌∙◌, inl, inr}
use Rattle.std.proofs.lemmas.Bool.{eqb-true, eq-eqb}
use Rattle.pw_types.specs.declared.kind.IntKind.{IntKind}
use Rattle.pw_types.specs.declared.kind.IntKind.TheVariants as K
use Rattle.pw_types.specs.declared.record.Layout.{Layout}
use Rattle.pw_types.specs.Layouts.{content_at, layout_of, array_layout}
use Rattle.pw_types.specs.TypeTrees.{CType, Void, Int, Pointer, Array, Function, Record, QType, Qualified, QTypes, NoType, OneType, type_of, ContentValue, RecordValue}
use Rattle.pw_types.specs.WellTyped.{IsScalar, IsResult, IsComplete, IsKnownType, AreKnownTypes, IsFunctionType, so_qualified}
use Rattle.pw_check_rules.specs.Compatible.{composite_type, composite_parameters}
use Rattle.pw_check_rules.specs.Kinds.{same_type, same_qualified, same_types, same_kind, same_length, number_of_kind, is_complete, qualify}
use Rattle.pw_value.specs.ProgramNames.{same_truth}
use Rattle.pw_law_checked.specs.Lawful.{IsLawfulType, AreLawfulTypes, Extends}

pub no : {A : Type 0} → false ≡ true → A
no e = grind arith

pub left : (a b : Bool) → (a && b) ≡ true → a ≡ true
left true b e = refl
left false b e = no e

pub right : (a b : Bool) → (a && b) ≡ true → b ≡ true
right true b e = e
right false b e = no e

pub one_of : (a b : Bool) → (a || b) ≡ true → (a ≡ true) ⊎ (b ≡ true)
one_of true b e = inl refl
one_of false b e = inr e

pub not_true : (b : Bool) → not b ≡ true → b ≡ false
not_true true e = no e
not_true false e = refl

-- ---- more is known of records

pub extends_trans : {a b c : List RecordValue} → Extends a b → Extends b c → Extends a c
extends_trans {a} {b} {c} e f = record {
  longer = let h = e.longer in let k = f.longer in omega (arith, h, k);
  kept = λ n x h. f.kept n x (e.kept n x h);
}

pub extends_same : (a : List RecordValue) → Extends a a
extends_same a = record { longer = omega arith; kept = λ n x h. h }

pub map_is_some : {A B : Type 0} (f : A → B) (o : Option A) → is_some (option_map f o) ≡ is_some o
map_is_some f None = refl
map_is_some f (Some x) = refl

pub is_complete_so : (records : List RecordValue) (ty : CType) → is_complete records ty ≡ true → IsComplete records ty
is_complete_so records ty e = sym (map_is_some (λ (l : Layout). l.size) (layout_of records ty)) ∙ e

complete_record : (a b : List RecordValue) → Extends a b → (n : ℕ) → IsComplete a (Record n) → IsComplete b (Record n)
complete_record a b e n h = by_content (content_at a n) refl h
  where
    by_content : (o : Option ContentValue) → content_at a n ≡ o → is_some (option_map (λ (c : ContentValue). c.layout) o) ≡ true → IsComplete b (Record n)
    by_content None same k = no k
    by_content (Some c) same k = ap (λ o. is_some (option_map (λ (x : ContentValue). x.layout) o)) (e.kept n c same)

pub complete_later : (a b : List RecordValue) → Extends a b → (ty : CType) → IsComplete a ty → IsComplete b ty
complete_later a b e Void h = h
complete_later a b e (Int kind) h = h
complete_later a b e (Pointer q) h = h
complete_later a b e (Array (Qualified ty c v) None) h = h
complete_later a b e (Array (Qualified ty c v) (Some n)) h =
    map_is_some (array_layout n) (layout_of b ty) ∙ complete_later a b e ty (sym (map_is_some (array_layout n) (layout_of a ty)) ∙ h)
complete_later a b e (Function q ps) h = h
complete_later a b e (Record n) h = complete_record a b e n h

pub element_complete : (r : List RecordValue) (ty : CType) (c v : Bool) (n : ℕ) → IsComplete r (Array (Qualified ty c v) (Some n)) → IsComplete r ty
element_complete r ty c v n h = sym (map_is_some (array_layout n) (layout_of r ty)) ∙ h

pub element_whole : (r : List RecordValue) (q : QType) (n : ℕ) → IsComplete r (Array q (Some n)) → IsComplete r (type_of q)
element_whole r (Qualified ty c v) n h = element_complete r ty c v n h

pub no_length : (r : List RecordValue) (q : QType) → IsComplete r (Array q None) → ⊥
no_length r (Qualified ty c v) h = no h

mutual
  pub lawful_later : (a b : List RecordValue) → Extends a b → (ty : CType) → IsLawfulType a ty → IsLawfulType b ty
  lawful_later a b e Void h = tt
  lawful_later a b e (Int kind) h = tt
  lawful_later a b e (Pointer (Qualified ty c v)) h = lawful_later a b e ty h
  lawful_later a b e (Array (Qualified ty c v) count) h = (lawful_later a b e ty h.0, complete_later a b e ty h.1)
  lawful_later a b e (Function (Qualified ty c v) ps) h = (lawful_later a b e ty h.0, h.1, all_lawful_later a b e ps h.2)
  lawful_later a b e (Record n) h = let k = e.longer in omega (arith, h, k)

  pub all_lawful_later : (a b : List RecordValue) → Extends a b → (ps : QTypes) → AreLawfulTypes a ps → AreLawfulTypes b ps
  all_lawful_later a b e NoType h = tt
  all_lawful_later a b e (OneType (Qualified ty c v) rest) h = (lawful_later a b e ty h.0, h.1, all_lawful_later a b e rest h.2)

mutual
  pub lawful_known : (a : List RecordValue) (ty : CType) → IsLawfulType a ty → IsKnownType a ty
  lawful_known a Void h = tt
  lawful_known a (Int kind) h = tt
  lawful_known a (Pointer (Qualified ty c v)) h = lawful_known a ty h
  lawful_known a (Array (Qualified ty c v) count) h = lawful_known a ty h.0
  lawful_known a (Function (Qualified ty c v) ps) h = (lawful_known a ty h.0, all_lawful_known a ps h.2)
  lawful_known a (Record n) h = h

  pub all_lawful_known : (a : List RecordValue) (ps : QTypes) → AreLawfulTypes a ps → AreKnownTypes a ps
  all_lawful_known a NoType h = tt
  all_lawful_known a (OneType (Qualified ty c v) rest) h = (lawful_known a ty h.0, all_lawful_known a rest h.2)

-- what a pointer points to
pub lawful_target : (a : List RecordValue) (q : QType) → IsLawfulType a (Pointer q) → IsLawfulType a (type_of q)
lawful_target a (Qualified ty c v) h = h

pub lawful_pointer : (a : List RecordValue) (q : QType) → IsLawfulType a (type_of q) → IsLawfulType a (Pointer q)
lawful_pointer a (Qualified ty c v) h = h

pub lawful_element : (a : List RecordValue) (q : QType) (n : Option ℕ) → IsLawfulType a (Array q n) → IsLawfulType a (type_of q)
lawful_element a (Qualified ty c v) n h = h.0

pub whole_element : (a : List RecordValue) (q : QType) (n : Option ℕ) → IsLawfulType a (Array q n) → IsComplete a (type_of q)
whole_element a (Qualified ty c v) n h = h.1

pub lawful_result : (a : List RecordValue) (q : QType) (ps : QTypes) → IsLawfulType a (Function q ps) → IsLawfulType a (type_of q) × IsResult (type_of q) × AreLawfulTypes a ps
lawful_result a (Qualified ty c v) ps h = h

-- ---- qualifiers more

pub qualify_same : (c v : Bool) (q : QType) → qualify c v q ≡ so_qualified c v q
unfolding qualify
qualify_same c v (Qualified (Array q n) d w) = ap (λ x. Qualified (Array x n) d w) (qualify_same c v q)
qualify_same c v (Qualified _ d w) = refl

complete_qualify : (a : List RecordValue) (c v : Bool) (q : QType) → IsComplete a (type_of q) → IsComplete a (type_of (qualify c v q))
unfolding qualify
complete_qualify a c v (Qualified (Array q (Some n)) d w) h = complete_array a n (qualify c v q) (complete_qualify a c v q (element_whole a q n h))
  where
    complete_array : (a : List RecordValue) (n : ℕ) (q : QType) → IsComplete a (type_of q) → IsComplete a (Array q (Some n))
    complete_array a n (Qualified ty c v) h = map_is_some (array_layout n) (layout_of a ty) ∙ h
complete_qualify a c v (Qualified (Array q None) d w) h = absurd (no_length a q h)
complete_qualify a c v (Qualified _ d w) h = h

pub lawful_qualify : (a : List RecordValue) (c v : Bool) (q : QType) → IsLawfulType a (type_of q) → IsLawfulType a (type_of (qualify c v q))
unfolding qualify
lawful_qualify a c v (Qualified (Array q n) d w) h = lawful_array a n (qualify c v q) (lawful_qualify a c v q (lawful_element a q n h)) (complete_qualify a c v q (whole_element a q n h))
  where
    lawful_array : (a : List RecordValue) (n : Option ℕ) (q : QType) → IsLawfulType a (type_of q) → IsComplete a (type_of q) → IsLawfulType a (Array q n)
    lawful_array a n (Qualified ty c v) h k = (h, k)
lawful_qualify a c v (Qualified _ d w) h = h

-- no function becomes one by qualifiers
pub object_qualify : (c v : Bool) (q : QType) → (IsFunctionType (type_of q) → ⊥) → IsFunctionType (type_of (qualify c v q)) → ⊥
unfolding qualify
object_qualify c v (Qualified (Array q n) d w) h (result, ps, same) = never_array same
  where
    never_array : {x : QType} {n : Option ℕ} {r : QType} {ps : QTypes} → Array x n ≡ Function r ps → ⊥
    never_array {x} {n} {r} {ps} e = subst (λ ty. P ty) e tt
      where
        P : CType → Type 0
        P (Array q n) = Unit {0}
        P _ = ⊥
object_qualify c v (Qualified _ d w) h k = h k

-- ---- types that are written alike

kind_of_number : ℕ → IntKind
kind_of_number zero = K.Char
kind_of_number (suc zero) = K.SChar
kind_of_number (suc (suc zero)) = K.UChar
kind_of_number (suc (suc (suc zero))) = K.Short
kind_of_number (suc (suc (suc (suc zero)))) = K.UShort
kind_of_number (suc (suc (suc (suc (suc zero))))) = K.Int
kind_of_number (suc (suc (suc (suc (suc (suc zero)))))) = K.UInt
kind_of_number (suc (suc (suc (suc (suc (suc (suc zero))))))) = K.Long
kind_of_number (suc (suc (suc (suc (suc (suc (suc (suc n)))))))) = K.ULong

kind_back : (a : IntKind) → kind_of_number (number_of_kind a) ≡ a
unfolding kind_of_number
kind_back K.Char = refl
kind_back K.SChar = refl
kind_back K.UChar = refl
kind_back K.Short = refl
kind_back K.UShort = refl
kind_back K.Int = refl
kind_back K.UInt = refl
kind_back K.Long = refl
kind_back K.ULong = refl

pub kinds_same : (a b : IntKind) → same_kind a b ≡ true → a ≡ b
kinds_same a b e =
    sym (kind_back a) ∙ (ap kind_of_number (eqb-true (number_of_kind a) (number_of_kind b) e) ∙ kind_back b)

pub truths_same : (a b : Bool) → same_truth a b ≡ true → a ≡ b
truths_same true true e = refl
truths_same true false e = no e
truths_same false true e = no e
truths_same false false e = refl

lengths_same : (a b : Option ℕ) → same_length a b ≡ true → a ≡ b
lengths_same None None e = refl
lengths_same (Some a) (Some b) e = ap Some (eqb-true a b e)
lengths_same None (Some b) e = no e
lengths_same (Some a) None e = no e

mutual
  unfolding same_type

  pub types_same : (a b : CType) → same_type a b ≡ true → a ≡ b
  types_same Void Void e = refl
  types_same (Int a) (Int b) e = ap Int (kinds_same a b e)
  types_same (Pointer a) (Pointer b) e = ap Pointer (qualified_same a b e)
  types_same (Array a n) (Array b m) e =
      ap (λ x. Array x n) (qualified_same a b (left (same_qualified a b) (same_length n m) e))
      ∙ ap (λ x. Array b x) (lengths_same n m (right (same_qualified a b) (same_length n m) e))
  types_same (Function a ps) (Function b qs) e =
      ap (λ x. Function x ps) (qualified_same a b (left (same_qualified a b) (same_types ps qs) e))
      ∙ ap (λ x. Function b x) (lists_same ps qs (right (same_qualified a b) (same_types ps qs) e))
  types_same (Record a) (Record b) e = ap Record (eqb-true a b e)
  types_same _ _ e = no e

  qualified_same : (a b : QType) → same_qualified a b ≡ true → a ≡ b
  qualified_same (Qualified a c v) (Qualified b d w) e =
      let first : (same_type a b && same_truth c d) ≡ true = left (same_type a b && same_truth c d) (same_truth v w) e in
      ap (λ x. Qualified x c v) (types_same a b (left (same_type a b) (same_truth c d) first))
      ∙ (ap (λ x. Qualified b x v) (truths_same c d (right (same_type a b) (same_truth c d) first))
      ∙ ap (λ x. Qualified b d x) (truths_same v w (right (same_type a b && same_truth c d) (same_truth v w) e)))

  lists_same : (a b : QTypes) → same_types a b ≡ true → a ≡ b
  lists_same NoType NoType e = refl
  lists_same (OneType a ps) (OneType b qs) e =
      ap (λ x. OneType x ps) (qualified_same a b (left (same_qualified a b) (same_types ps qs) e))
      ∙ ap (λ x. OneType b x) (lists_same ps qs (right (same_qualified a b) (same_types ps qs) e))
  lists_same _ _ e = no e

truth_itself : (a : Bool) → same_truth a a ≡ true
truth_itself true = refl
truth_itself false = refl

length_itself : (n : Option ℕ) → same_length n n ≡ true
length_itself None = refl
length_itself (Some n) = eq-eqb n n refl

both : (a b : Bool) → a ≡ true → b ≡ true → (a && b) ≡ true
both true b e f = f
both false b e f = no e

mutual
  unfolding same_type

  pub type_itself : (a : CType) → same_type a a ≡ true
  type_itself Void = refl
  type_itself (Int k) = eq-eqb (number_of_kind k) (number_of_kind k) refl
  type_itself (Pointer q) = qualified_itself q
  type_itself (Array q n) = both (same_qualified q q) (same_length n n) (qualified_itself q) (length_itself n)
  type_itself (Function q ps) = both (same_qualified q q) (same_types ps ps) (qualified_itself q) (list_itself ps)
  type_itself (Record n) = eq-eqb n n refl

  qualified_itself : (q : QType) → same_qualified q q ≡ true
  qualified_itself (Qualified a c v) =
      both (same_type a a && same_truth c c) (same_truth v v) (both (same_type a a) (same_truth c c) (type_itself a) (truth_itself c)) (truth_itself v)

  list_itself : (ps : QTypes) → same_types ps ps ≡ true
  list_itself NoType = refl
  list_itself (OneType q ps) = both (same_qualified q q) (same_types ps ps) (qualified_itself q) (list_itself ps)

-- ---- composite types

pub complete_composite : (r : List RecordValue) (a b : CType) → IsComplete r a → IsComplete r (composite_type a b)
unfolding composite_type
complete_composite r (Pointer q) (Pointer p) h = refl
complete_composite r (Array (Qualified a c w) (Some n)) (Array (Qualified b d u) m) h =
    map_is_some (array_layout n) (layout_of r (composite_type a b)) ∙ complete_composite r a b (element_complete r a c w n h)
complete_composite r (Array (Qualified a c w) None) (Array (Qualified b d u) m) h = no h
complete_composite r (Function q ps) (Function p qs) h = no h
complete_composite r _ _ h = h

scalar_composite : (a b : CType) → IsScalar a → IsScalar (composite_type a b)
unfolding composite_type
scalar_composite Void b h = h
scalar_composite (Int k) b h = tt
scalar_composite (Pointer q) (Pointer r) h = tt
scalar_composite (Pointer q) _ h = tt
scalar_composite (Array q n) b h = absurd h
scalar_composite (Function q ps) b h = absurd h
scalar_composite (Record n) b h = h

composite_void : (a b : CType) → a ≡ Void → composite_type a b ≡ Void
unfolding composite_type
composite_void a b e = ap (λ x. composite_type x b) e

result_composite : (a b : CType) → IsResult a → IsResult (composite_type a b)
result_composite a b (inl e) = inl (composite_void a b e)
result_composite a b (inr h) = inr (scalar_composite a b h)

mutual
  unfolding composite_type

  pub lawful_composite : (r : List RecordValue) (a b : CType) → IsLawfulType r a → IsLawfulType r b → IsLawfulType r (composite_type a b)
  lawful_composite r (Pointer (Qualified a c v)) (Pointer (Qualified b d w)) h k = lawful_composite r a b h k
  lawful_composite r (Array (Qualified a c v) n) (Array (Qualified b d w) m) h k = (lawful_composite r a b h.0 k.0, complete_composite r a b h.1)
  lawful_composite r (Function (Qualified a c v) ps) (Function (Qualified b d w) qs) h k =
      (lawful_composite r a b h.0 k.0, result_composite a b h.1, all_lawful_composite r ps qs h.2 k.2)
  lawful_composite r _ _ h k = h

  all_lawful_composite : (r : List RecordValue) (ps qs : QTypes) → AreLawfulTypes r ps → AreLawfulTypes r qs → AreLawfulTypes r (composite_parameters ps qs)
  all_lawful_composite r (OneType (Qualified a c v) ps) (OneType (Qualified b d w) qs) h k =
      (lawful_composite r a b h.0 k.0, scalar_composite a b h.1, all_lawful_composite r ps qs h.2 k.2)
  all_lawful_composite r _ _ h k = h
