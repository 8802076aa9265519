-- Where a temporary is not copied, nothing is a copy of it.
use Rattle.std.proofs.Common.{◌≡◌, ◌∙◌, ◌==◌, ℕ, Bool, true, false, List, sym, ap, subst, inl, inr}
use Rattle.std.specs.Prelude.{if◌then◌else◌}
use Rattle.std.proofs.lemmas.Bool.{cases_Bool, eqb-true}
use Rattle.std.proofs.lemmas.List.{ext_get_or, length-map}
use Rattle.std.proofs.Math.ListN.{get_or-map}
use Rattle.pw_opt_rules.specs.declared.flat.Flat.{Flat}
use Rattle.pw_opt_rules.specs.declared.flat.Flat.TheVariants.{Bottom, One, Many}
use Rattle.pw_opt_rules.specs.Flat.{is_one}
use Rattle.pw_opt_rules.specs.Rows.{known}
use Rattle.pw_opt_rules.specs.Copies.{without_copies}
use Rattle.pw_opt_order.specs.Order.{forgotten}
use Rattle.pw_opt_rows.specs.Joins.{HasWhatMay}
use Rattle.pw_opt_copies.specs.Originals.{may_copy}

one_from : (of : ℕ) (x : Flat) → is_one of x ≡ true → x ≡ One of
one_from of Bottom e = absurd cc
one_from of (One m) e = ap One (eqb-true m of e)
one_from of Many e = absurd cc

none_copied : (originals : List Bool) (row : List Flat) (of t : ℕ) → HasWhatMay (may_copy originals) row → may_copy originals t of ≡ false → is_one of (known row t) ≡ false
none_copied originals row of t may none = elim (cases_Bool (is_one of (known row t))) [
  | inr other ↦ other
  | inl copy ↦ absurd (let noted : may_copy originals t of ≡ true = may t of (one_from of (known row t) copy) in cc)
]

pub nothing_forgotten : (originals : List Bool) (row : List Flat) (of : ℕ) → HasWhatMay (may_copy originals) row → ((t : ℕ) → may_copy originals t of ≡ false) → row ≡ without_copies row of
nothing_forgotten originals row of may none =
    ext_get_or Many row (without_copies row of) (sym (length-map row (forgotten of)))
    (λ t lt.
    let stays : forgotten of (known row t) ≡ known row t = ap (λ (c : Bool). if c then Many else known row t) (none_copied originals row of t may (none t)) in
    sym stays ∙ sym (get_or-map (forgotten of) row t Many))
