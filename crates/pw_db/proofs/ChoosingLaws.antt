-- Finding a function in a database.
use Rattle.std.proofs.Common.{◌≡◌, ℕ, ◌<◌, List, length, get_or, map, Result, Ok, Err, sym, ap, subst, ◌∙◌, arith}
use Rattle.std.specs.Prelude.{Contains, IfOk}
use Rattle.std.specs.List.{HoldsAt}
use Rattle.std.specs.Ordering.{nat_cmp}
use Rattle.std.specs.Cmp.Lexicographic.{slice_cmp}
use Rattle.std.specs.declared.cmp.Ordering.TheVariants.{Equal}
use Rattle.std.proofs.lemmas.List.{get_or_default, get_or-map, length-map}
use Rattle.pw_files.proofs.Searches.{found}
use Rattle.pw_db.specs.declared.database.Directives.{Directives}
use Rattle.pw_db.specs.Database.{HasDirectives, empty}

-- ---- a search that found something

pub found_at : {D : Type 0} (fs : List (List ℕ × D)) (name : List ℕ) (i : ℕ) (x : List ℕ × D) → i < length fs → HoldsAt (λ y. slice_cmp nat_cmp y.0 name ≡ Equal) fs i → x ≡ get_or fs i x → Contains fs (name, x.1)
found_at {D} fs name i x lt at is =
    let same : x.0 ≡ name = ap (λ (y : List ℕ × D). y.0) is ∙ found (λ (y : List ℕ × D). y.0) fs name i at x in
    let pair : (name, x.1) ≡ get_or fs i x = ap (λ (n : List ℕ). (n, x.1)) (sym same) ∙ is in
    (i, lt, get_or_default fs i (name, x.1) x lt ∙ sym pair)

-- ---- a database's functions

name_there : (fs : List (List ℕ × Directives)) (name : List ℕ) (d : Directives) → Contains fs (name, d) → Contains (map (λ f. f.0) fs) name
name_there fs name d h =
    (h.0, omega (arith, h.1, length-map fs (λ f. f.0)), get_or-map (λ f. f.0) fs h.0 (name, d) name h.1 ∙ ap (λ (f : List ℕ × Directives). f.0) h.2)

pub has_found : (fs : List (List ℕ × Directives)) (name : List ℕ) (d : Directives) → Contains fs (name, d) → HasDirectives fs (name, d)
has_found fs name d h = record { found = λ n. h; lacks = λ n. absurd (n (name_there fs name d h)) }

pub has_none : (fs : List (List ℕ × Directives)) (name : List ℕ) (d : Directives) → (Contains (map (λ f. f.0) fs) name → ⊥) → d ≡ empty → HasDirectives fs (name, d)
has_none fs name d none same = record { found = λ n. absurd (none n); lacks = λ n. same }

pub has_found_by : {E : Type 0} (fs : List (List ℕ × Directives)) (name : List ℕ) (d : Directives) (r : Result Directives E) → Contains fs (name, d) → IfOk r (λ e. e ≡ d) → IfOk r (λ e. HasDirectives fs (name, e))
has_found_by fs name d (Ok e) h same = subst (λ (k : Directives). HasDirectives fs (name, k)) (sym same) (has_found fs name d h)
has_found_by fs name d (Err e) h same = tt
