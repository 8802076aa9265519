-- What holds of each two items of a list, and of webs that agree with those before them.
use Rattle.std.proofs.Common.{◌≡◌, ℕ, Bool, true, false, cond, List, [], ◌∷◌, ◌++◌, refl, sym, ap, ◌∙◌}
use Rattle.std.specs.Prelude.{Some, ◌==◌}
use Rattle.std.specs.List.{AllByRecursion}
use Rattle.std.proofs.lemmas.Bool.{eqb-true, eq-eqb}
use Rattle.pw_db.specs.declared.database.Web.{Web}
use Rattle.pw_db.specs.Database.{EachTwo, Agree}
use Rattle.pw_db_file.specs.Reading.{first_with}

-- ---- lists

pub each_front : {X : Type 0} (P : X → Type 0) (xs ys : List X) → AllByRecursion P (xs ++ ys) → AllByRecursion P xs
each_front P [] ys all = tt
each_front P (x ∷ xs) ys all = (all.0, each_front P xs ys all.1)

pub each_back : {X : Type 0} (P : X → Type 0) (xs ys : List X) → AllByRecursion P (xs ++ ys) → AllByRecursion P ys
each_back P [] ys all = all
each_back P (x ∷ xs) ys all = each_back P xs ys all.1

pub each_append : {X : Type 0} (P : X → Type 0) (xs ys : List X) → AllByRecursion P xs → AllByRecursion P ys → AllByRecursion P (xs ++ ys)
each_append P [] ys one two = two
each_append P (x ∷ xs) ys one two = (one.0, each_append P xs ys one.1 two)

-- one more behind
pub two_push : {X : Type 0} (R : X → X → Type 0) (xs : List X) (y : X) → EachTwo R xs → AllByRecursion (λ x. R x y) xs → EachTwo R (xs ++ y ∷ [])
two_push R [] y two all = (tt, tt)
two_push R (x ∷ xs) y two all = (each_append (R x) xs (y ∷ []) two.0 (all.0, tt), two_push R xs y two.1 all.1)

pub two_last : {X : Type 0} (R : X → X → Type 0) (xs : List X) (y : X) → EachTwo R (xs ++ y ∷ []) → AllByRecursion (λ x. R x y) xs
two_last R [] y two = tt
two_last R (x ∷ xs) y two = ((each_back (R x) xs (y ∷ []) two.0).0, two_last R xs y two.1)

pub two_front : {X : Type 0} (R : X → X → Type 0) (xs ys : List X) → EachTwo R (xs ++ ys) → EachTwo R xs
two_front R [] ys two = tt
two_front R (x ∷ xs) ys two = (each_front (R x) xs ys two.0, two_front R xs ys two.1)

pub two_back : {X : Type 0} (R : X → X → Type 0) (xs ys : List X) → EachTwo R (xs ++ ys) → EachTwo R ys
two_back R [] ys two = two
two_back R (x ∷ xs) ys two = two_back R xs ys two.1

-- ---- webs of one number

apart : false ≡ true → ⊥
apart e = cc

first_by : (id : ℕ) (x v : Web) (xs : List Web) (b : Bool) → (x.id == id) ≡ b → (first_with id xs ≡ Some v → v.id ≡ id) → cond b (Some x) (first_with id xs) ≡ Some v → v.id ≡ id
first_by id x v xs true is later e = let same : x ≡ v = cc in ap (λ (w : Web). w.id) (sym same) ∙ eqb-true x.id id is
first_by id x v xs false is later e = later e

-- the first web of a number has the number
pub first_number : (id : ℕ) (xs : List Web) (v : Web) → first_with id xs ≡ Some v → v.id ≡ id
first_number id [] v e = absurd cc
first_number id (x ∷ xs) v e = first_by id x v xs (x.id == id) refl (first_number id xs v) e

-- a web that is the first of its number agrees with all before it, where these agree
abbrev pub IsFirst : List Web → Web → Type 0
IsFirst xs w = (v : Web) → first_with w.id xs ≡ Some v → v ≡ w

behind_same : (x w : Web) (xs : List Web) → x ≡ w → AllByRecursion (Agree x) xs → AllByRecursion (λ v. Agree v w) xs
behind_same x w [] same all = tt
behind_same x w (y ∷ xs) same all = ((λ e. sym (all.0 (ap (λ (z : Web). z.id) same ∙ sym e)) ∙ same), behind_same x w xs same all.1)

agree_by : (x w : Web) (xs : List Web) (b : Bool) → (x.id == w.id) ≡ b → AllByRecursion (Agree x) xs → ((v : Web) → cond b (Some x) (first_with w.id xs) ≡ Some v → v ≡ w) → (IsFirst xs w → AllByRecursion (λ v. Agree v w) xs)
    → Agree x w × AllByRecursion (λ v. Agree v w) xs
agree_by x w xs true is all first later = let same = first x refl in ((λ e. same), behind_same x w xs same all)
agree_by x w xs false is all first later = ((λ e. absurd (apart (sym is ∙ eq-eqb x.id w.id e))), later first)

pub agree_all : (xs : List Web) (w : Web) → EachTwo Agree xs → IsFirst xs w → AllByRecursion (λ v. Agree v w) xs
agree_all [] w two first = tt
agree_all (x ∷ xs) w two first = agree_by x w xs (x.id == w.id) refl two.0 first (agree_all xs w two.1)

same_by : (x v w : Web) (xs : List Web) (b : Bool) → (x.id == w.id) ≡ b → Agree x w → (first_with w.id xs ≡ Some v → v ≡ w) → cond b (Some x) (first_with w.id xs) ≡ Some v → v ≡ w
same_by x v w xs true is agree later e = let same : x ≡ v = cc in sym same ∙ agree (eqb-true x.id w.id is)
same_by x v w xs false is agree later e = later e

pub first_same : (xs : List Web) (w : Web) → AllByRecursion (λ v. Agree v w) xs → IsFirst xs w
first_same [] w all v e = absurd cc
first_same (x ∷ xs) w all v e = same_by x v w xs (x.id == w.id) refl all.0 (first_same xs w all.1 v) e
