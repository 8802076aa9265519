-- Types that are written alike are one.
use Rattle.std.specs.Prelude.{ℕ, ◌≡◌, Bool, true, false, ◌&&◌, Option, None, Some, refl}
use Rattle.std.proofs.Common.{ap, ◌∙◌}
use Rattle.std.proofs.lemmas.Bool.{eqb-true, eq-eqb}
use Rattle.pw_types.specs.TypeTrees.{CType, Void, Int, Pointer, Array, Function, Record, QType, Qualified, QTypes, NoType, OneType}
use Rattle.pw_check_rules.specs.Kinds.{same_type, same_qualified, same_types, same_length}
use Rattle.pw_value.specs.ProgramNames.{same_truth}
use Rattle.pw_check_rules.proofs.Booleans.{no, both, left, right}
use Rattle.pw_check_rules.proofs.CompatibleLaws.{kinds_same, same_kinds}

truth_refl : (a : Bool) → same_truth a a ≡ true
truth_refl true = refl
truth_refl false = refl

truth_exact : (a b : Bool) → same_truth a b ≡ true → a ≡ b
truth_exact true true e = refl
truth_exact true false e = no e
truth_exact false true e = no e
truth_exact false false e = refl

length_refl : (n : Option ℕ) → same_length n n ≡ true
length_refl None = refl
length_refl (Some n) = eq-eqb n n refl

length_exact : (n m : Option ℕ) → same_length n m ≡ true → n ≡ m
length_exact None None e = refl
length_exact (Some n) (Some m) e = ap Some (eqb-true n m e)
length_exact None (Some m) e = no e
length_exact (Some n) None e = no e

mutual
  unfolding same_type

  pub same_refl : (ty : CType) → same_type ty ty ≡ true
  same_refl Void = refl
  same_refl (Int k) = same_kinds k
  same_refl (Pointer q) = qualified_refl q
  same_refl (Array q n) = both (same_qualified q q) (same_length n n) (qualified_refl q) (length_refl n)
  same_refl (Function q ps) = both (same_qualified q q) (same_types ps ps) (qualified_refl q) (types_refl ps)
  same_refl (Record n) = eq-eqb n n refl

  pub qualified_refl : (q : QType) → same_qualified q q ≡ true
  qualified_refl (Qualified ty c v) =
      both (same_type ty ty && same_truth c c) (same_truth v v)
      (both (same_type ty ty) (same_truth c c) (same_refl ty) (truth_refl c)) (truth_refl v)

  pub types_refl : (ps : QTypes) → same_types ps ps ≡ true
  types_refl NoType = refl
  types_refl (OneType q ps) = both (same_qualified q q) (same_types ps ps) (qualified_refl q) (types_refl ps)

mutual
  unfolding same_type

  pub same_exact : (a b : CType) → same_type a b ≡ true → a ≡ b
  same_exact Void Void e = refl
  same_exact (Int k) (Int l) e = ap Int (kinds_same k l e)
  same_exact (Pointer a) (Pointer b) e = ap Pointer (qualified_exact a b e)
  same_exact (Array a n) (Array b m) e =
      ap (λ q. Array q n) (qualified_exact a b (left (same_qualified a b) (same_length n m) e))
      ∙ ap (Array b) (length_exact n m (right (same_qualified a b) (same_length n m) e))
  same_exact (Function a ps) (Function b qs) e =
      ap (λ q. Function q ps) (qualified_exact a b (left (same_qualified a b) (same_types ps qs) e))
      ∙ ap (Function b) (types_exact ps qs (right (same_qualified a b) (same_types ps qs) e))
  same_exact (Record n) (Record m) e = ap Record (eqb-true n m e)
  same_exact _ _ e = no e

  pub qualified_exact : (a b : QType) → same_qualified a b ≡ true → a ≡ b
  qualified_exact (Qualified a c v) (Qualified b d w) e =
      let first : (same_type a b && same_truth c d) ≡ true = left (same_type a b && same_truth c d) (same_truth v w) e in
      ap (λ ty. Qualified ty c v) (same_exact a b (left (same_type a b) (same_truth c d) first))
      ∙ (ap (λ x. Qualified b x v) (truth_exact c d (right (same_type a b) (same_truth c d) first))
      ∙ ap (Qualified b d) (truth_exact v w (right (same_type a b && same_truth c d) (same_truth v w) e)))

  pub types_exact : (ps qs : QTypes) → same_types ps qs ≡ true → ps ≡ qs
  types_exact NoType NoType e = refl
  types_exact (OneType a ps) (OneType b qs) e =
      ap (λ q. OneType q ps) (qualified_exact a b (left (same_qualified a b) (same_types ps qs) e))
      ∙ ap (OneType b) (types_exact ps qs (right (same_qualified a b) (same_types ps qs) e))
  types_exact NoType (OneType b qs) e = no e
  types_exact (OneType a ps) NoType e = no e
