-- Of two types one is wider: whatever is compatible with the other is compatible with it. Composites narrow (ISO C90 6.1.2.6).
use Rattle.std.specs.Prelude.{ℕ, ◌≡◌, Bool, true, false, ◌&&◌, Option, None, Some, refl}
use Rattle.std.specs.Option.{option_or}
use Rattle.std.proofs.Common.{subst}
use Rattle.std.proofs.lemmas.Bool.{eqb-true}
use Rattle.pw_types.specs.TypeTrees.{CType, Void, Int, Pointer, Array, Function, Record, QType, Qualified, QTypes, NoType, OneType}
use Rattle.pw_value.specs.ProgramNames.{same_truth}
use Rattle.pw_check_rules.specs.Compatible.{compatible, compatible_types, compatible_parameters, lengths_agree, composite, composite_type, composite_parameters}
use Rattle.pw_law_checked.proofs.Types.{no, left, right, kinds_same}

abbrev pub Wider : QType → QType → Type 0
Wider a b = (t : QType) → compatible a t ≡ true → compatible b t ≡ true

pub wider_trans : (a b c : QType) → Wider a b → Wider b c → Wider a c
wider_trans a b c x y t h = y t (x t h)

both : (a b : Bool) → a ≡ true → b ≡ true → (a && b) ≡ true
both true b e f = f
both false b e f = no e

-- ---- lengths

first_length : (n m k : Option ℕ) → lengths_agree (option_or n m) k ≡ true → lengths_agree n k ≡ true
first_length None m k e = refl
first_length (Some n) m k e = e

both_lengths : (n m k : Option ℕ) → lengths_agree n k ≡ true → lengths_agree m k ≡ true → lengths_agree (option_or n m) k ≡ true
both_lengths None m k e f = f
both_lengths (Some n) m k e f = e

second_length : (n m k : Option ℕ) → lengths_agree n m ≡ true → lengths_agree (option_or n m) k ≡ true → lengths_agree m k ≡ true
second_length None m k e f = f
second_length (Some n) None k e f = refl
second_length (Some n) (Some m) k e f = subst (λ i. lengths_agree (Some i) k ≡ true) (eqb-true n m e) f

truths : (a b c : Bool) → same_truth a b ≡ true → same_truth a c ≡ true → same_truth b c ≡ true
truths true true c e f = f
truths true false c e f = no e
truths false true c e f = no e
truths false false c e f = f

-- ---- what is compatible with a composite is so with the first

mutual
  unfolding composite_type compatible_types

  first_types : (a b t : CType) → compatible_types (composite_type a b) t ≡ true → compatible_types a t ≡ true
  first_types (Pointer a) (Pointer b) (Pointer t) e = first_wider a b t e
  first_types (Array a n) (Array b m) (Array t k) e =
      both (compatible a t) (lengths_agree n k) (first_wider a b t (left (compatible (composite a b) t) (lengths_agree (option_or n m) k) e)) (first_length n m k (right (compatible (composite a b) t) (lengths_agree (option_or n m) k) e))
  first_types (Function a ps) (Function b qs) (Function t rs) e =
      both (compatible a t) (compatible_parameters ps rs) (first_wider a b t (left (compatible (composite a b) t) (compatible_parameters (composite_parameters ps qs) rs) e))
      (first_all ps qs rs (right (compatible (composite a b) t) (compatible_parameters (composite_parameters ps qs) rs) e))
  first_types _ _ _ e = e

  pub first_wider : (a b t : QType) → compatible (composite a b) t ≡ true → compatible a t ≡ true
  first_wider (Qualified a c v) (Qualified b d w) (Qualified t f u) e =
      let x = left (compatible_types (composite_type a b) t && same_truth c f) (same_truth v u) e in
      both (compatible_types a t && same_truth c f) (same_truth v u)
      (both (compatible_types a t) (same_truth c f) (first_types a b t (left (compatible_types (composite_type a b) t) (same_truth c f) x)) (right (compatible_types (composite_type a b) t) (same_truth c f) x))
      (right (compatible_types (composite_type a b) t && same_truth c f) (same_truth v u) e)

  first_all : (ps qs rs : QTypes) → compatible_parameters (composite_parameters ps qs) rs ≡ true → compatible_parameters ps rs ≡ true
  first_all (OneType (Qualified a c v) ps) (OneType (Qualified b d w) qs) (OneType (Qualified t f u) rs) e =
      both (compatible_types a t) (compatible_parameters ps rs) (first_types a b t (left (compatible_types (composite_type a b) t) (compatible_parameters (composite_parameters ps qs) rs) e))
      (first_all ps qs rs (right (compatible_types (composite_type a b) t) (compatible_parameters (composite_parameters ps qs) rs) e))
  first_all (OneType a ps) (OneType b qs) NoType e = no e
  first_all (OneType a ps) NoType rs e = e
  first_all NoType qs rs e = e

-- ---- what is compatible with both is so with the composite

mutual
  unfolding composite_type compatible_types

  both_types : (a b t : CType) → compatible_types a t ≡ true → compatible_types b t ≡ true → compatible_types (composite_type a b) t ≡ true
  both_types (Pointer a) (Pointer b) (Pointer t) e f = both_wider a b t e f
  both_types (Array a n) (Array b m) (Array t k) e f =
      both (compatible (composite a b) t) (lengths_agree (option_or n m) k) (both_wider a b t (left (compatible a t) (lengths_agree n k) e) (left (compatible b t) (lengths_agree m k) f))
      (both_lengths n m k (right (compatible a t) (lengths_agree n k) e) (right (compatible b t) (lengths_agree m k) f))
  both_types (Function a ps) (Function b qs) (Function t rs) e f =
      both (compatible (composite a b) t) (compatible_parameters (composite_parameters ps qs) rs) (both_wider a b t (left (compatible a t) (compatible_parameters ps rs) e) (left (compatible b t) (compatible_parameters qs rs) f))
      (both_all ps qs rs (right (compatible a t) (compatible_parameters ps rs) e) (right (compatible b t) (compatible_parameters qs rs) f))
  both_types _ _ _ e f = e

  pub both_wider : (a b t : QType) → compatible a t ≡ true → compatible b t ≡ true → compatible (composite a b) t ≡ true
  both_wider (Qualified a c v) (Qualified b d w) (Qualified t f u) e g =
      let x = left (compatible_types a t && same_truth c f) (same_truth v u) e in
      let y = left (compatible_types b t && same_truth d f) (same_truth w u) g in
      both (compatible_types (composite_type a b) t && same_truth c f) (same_truth v u)
      (both (compatible_types (composite_type a b) t) (same_truth c f) (both_types a b t (left (compatible_types a t) (same_truth c f) x) (left (compatible_types b t) (same_truth d f) y)) (right (compatible_types a t) (same_truth c f) x))
      (right (compatible_types a t && same_truth c f) (same_truth v u) e)

  both_all : (ps qs rs : QTypes) → compatible_parameters ps rs ≡ true → compatible_parameters qs rs ≡ true → compatible_parameters (composite_parameters ps qs) rs ≡ true
  both_all (OneType (Qualified a c v) ps) (OneType (Qualified b d w) qs) (OneType (Qualified t f u) rs) e g =
      both (compatible_types (composite_type a b) t) (compatible_parameters (composite_parameters ps qs) rs)
      (both_types a b t (left (compatible_types a t) (compatible_parameters ps rs) e) (left (compatible_types b t) (compatible_parameters qs rs) g))
      (both_all ps qs rs (right (compatible_types a t) (compatible_parameters ps rs) e) (right (compatible_types b t) (compatible_parameters qs rs) g))
  both_all (OneType a ps) (OneType b qs) NoType e g = no e
  both_all (OneType a ps) NoType rs e g = e
  both_all NoType qs rs e g = e

-- ---- what is compatible with the composite of compatible types is so with the second

mutual
  unfolding composite_type compatible_types

  second_types : (a b t : CType) → compatible_types a b ≡ true → compatible_types (composite_type a b) t ≡ true → compatible_types b t ≡ true
  second_types Void Void t h e = e
  second_types (Int i) (Int j) t h e = subst (λ k. compatible_types (Int k) t ≡ true) (kinds_same i j h) e
  second_types (Record i) (Record j) t h e = subst (λ k. compatible_types (Record k) t ≡ true) (eqb-true i j h) e
  second_types (Pointer a) (Pointer b) (Pointer t) h e = second_wider a b t h e
  second_types (Pointer a) (Pointer b) Void h e = no e
  second_types (Pointer a) (Pointer b) (Int k) h e = no e
  second_types (Pointer a) (Pointer b) (Array t k) h e = no e
  second_types (Pointer a) (Pointer b) (Function t rs) h e = no e
  second_types (Pointer a) (Pointer b) (Record k) h e = no e
  second_types (Array a n) (Array b m) (Array t k) h e =
      both (compatible b t) (lengths_agree m k)
      (second_wider a b t (left (compatible a b) (lengths_agree n m) h) (left (compatible (composite a b) t) (lengths_agree (option_or n m) k) e))
      (second_length n m k (right (compatible a b) (lengths_agree n m) h) (right (compatible (composite a b) t) (lengths_agree (option_or n m) k) e))
  second_types (Array a n) (Array b m) Void h e = no e
  second_types (Array a n) (Array b m) (Int k) h e = no e
  second_types (Array a n) (Array b m) (Pointer t) h e = no e
  second_types (Array a n) (Array b m) (Function t rs) h e = no e
  second_types (Array a n) (Array b m) (Record k) h e = no e
  second_types (Function a ps) (Function b qs) (Function t rs) h e =
      both (compatible b t) (compatible_parameters qs rs)
      (second_wider a b t (left (compatible a b) (compatible_parameters ps qs) h) (left (compatible (composite a b) t) (compatible_parameters (composite_parameters ps qs) rs) e))
      (second_all ps qs rs (right (compatible a b) (compatible_parameters ps qs) h) (right (compatible (composite a b) t) (compatible_parameters (composite_parameters ps qs) rs) e))
  second_types (Function a ps) (Function b qs) Void h e = no e
  second_types (Function a ps) (Function b qs) (Int k) h e = no e
  second_types (Function a ps) (Function b qs) (Pointer t) h e = no e
  second_types (Function a ps) (Function b qs) (Array t k) h e = no e
  second_types (Function a ps) (Function b qs) (Record k) h e = no e
  second_types _ _ t h e = no h

  pub second_wider : (a b t : QType) → compatible a b ≡ true → compatible (composite a b) t ≡ true → compatible b t ≡ true
  second_wider (Qualified a c v) (Qualified b d w) (Qualified t f u) h e =
      let x = left (compatible_types a b && same_truth c d) (same_truth v w) h in
      let y = left (compatible_types (composite_type a b) t && same_truth c f) (same_truth v u) e in
      both (compatible_types b t && same_truth d f) (same_truth w u)
      (both (compatible_types b t) (same_truth d f) (second_types a b t (left (compatible_types a b) (same_truth c d) x) (left (compatible_types (composite_type a b) t) (same_truth c f) y))
      (truths c d f (right (compatible_types a b) (same_truth c d) x) (right (compatible_types (composite_type a b) t) (same_truth c f) y)))
      (truths v w u (right (compatible_types a b && same_truth c d) (same_truth v w) h) (right (compatible_types (composite_type a b) t && same_truth c f) (same_truth v u) e))

  second_all : (ps qs rs : QTypes) → compatible_parameters ps qs ≡ true → compatible_parameters (composite_parameters ps qs) rs ≡ true → compatible_parameters qs rs ≡ true
  second_all (OneType (Qualified a c v) ps) (OneType (Qualified b d w) qs) (OneType (Qualified t f u) rs) h e =
      both (compatible_types b t) (compatible_parameters qs rs)
      (second_types a b t (left (compatible_types a b) (compatible_parameters ps qs) h) (left (compatible_types (composite_type a b) t) (compatible_parameters (composite_parameters ps qs) rs) e))
      (second_all ps qs rs (right (compatible_types a b) (compatible_parameters ps qs) h) (right (compatible_types (composite_type a b) t) (compatible_parameters (composite_parameters ps qs) rs) e))
  second_all (OneType a ps) (OneType b qs) NoType h e = no e
  second_all (OneType a ps) NoType rs h e = no h
  second_all NoType (OneType b qs) rs h e = no h
  second_all NoType NoType rs h e = e

-- ---- composites

pub wider_composite : (a b : QType) → Wider (composite a b) a
wider_composite a b t e = first_wider a b t e

pub wider_second : (a b : QType) → compatible a b ≡ true → Wider (composite a b) b
wider_second a b h t e = second_wider a b t h e

-- what a name has by all its declarations stays narrower than what it has in one scope
pub wider_composites : (a q b : QType) → Wider a q → compatible a b ≡ true → Wider (composite a b) (composite q b)
wider_composites a q b x h t e = both_wider q b t (x t (first_wider a b t e)) (second_wider a b t h e)
