-- Behind an operation whose original is noted, a temporary is known to be a copy only of what is noted.
use Rattle.std.specs.Prelude.{ℕ, ◌≡◌, ◌⊎◌, ◌==◌, if◌then◌else◌, Bool, true, false, Option, Some, None, List, length, slice_set}
use Rattle.std.proofs.Common.{sym, ap, subst, ◌∙◌, arith, inl, inr}
use Rattle.std.proofs.lemmas.Bool.{cases_eq, cases_lt}
use Rattle.std.proofs.lemmas.List.{get_or_past, get_or-set_same, get_or-set_other, length-set}
use Rattle.std.proofs.Math.ListN.{get_or-map}
use Rattle.pw_flow.specs.declared.flow.Op.{Op}
use Rattle.pw_flow.specs.declared.flow.Op.TheVariants as op
use Rattle.pw_flow.specs.Uses.{op_defines}
use Rattle.pw_opt_rules.specs.declared.flat.Flat.{Flat}
use Rattle.pw_opt_rules.specs.declared.flat.Flat.TheVariants.{Bottom, One, Many}
use Rattle.pw_opt_rules.specs.Rows.{known}
use Rattle.pw_opt_rules.specs.Copies.{copied, without_copies, with_copy, copy_transfer}
use Rattle.pw_opt_order.specs.Order.{forgotten}
use Rattle.pw_opt_rows.specs.Joins.{HasWhatMay}
use Rattle.pw_opt_copies.specs.Originals.{may_copy, is_noted}

-- what a row knows where one place is set: that, or what it knew
pub set_one : (row : List Flat) (d : ℕ) (x : Flat) (t n : ℕ) → known (slice_set row d x) t ≡ One n → ((t ≡ d) × (x ≡ One n)) ⊎ (known row t ≡ One n)
set_one row d x t n e = elim (cases_eq t d) [
  | inr other ↦ inr (sym (get_or-set_other row d t x Many other) ∙ e)
  | inl same ↦ elim (cases_lt d (length row)) [
    | inl low ↦ inl (same, sym (get_or-set_same row d x Many low) ∙ ap (known (slice_set row d x)) (sym same) ∙ e)
    | inr past ↦
        let long : length (slice_set row d x) ≡ length row = length-set row d x in
        let none : known (slice_set row d x) t ≡ Many = get_or_past (slice_set row d x) t Many (omega (arith, same, past, long)) in
        absurd (let clash : Many ≡ One n = sym none ∙ e in cc)
  ]
]

pub forgotten_one : (d : ℕ) (x : Flat) (n : ℕ) → forgotten d x ≡ One n → x ≡ One n
forgotten_one d Bottom n e = e
forgotten_one d (One m) n e = either (m == d) e where
  either : (c : Bool) → (if c then Many else One m) ≡ One n → One m ≡ One n
  either true e = absurd cc
  either false e = e
forgotten_one d Many n e = e

pub without_one : (row : List Flat) (d t n : ℕ) → known (without_copies row d) t ≡ One n → known row t ≡ One n
without_one row d t n e = forgotten_one d (known row t) n (sym (get_or-map (forgotten d) row t Many) ∙ e)

-- what an operation makes a copy of is noted
copied_noted : (originals : List Bool) (o : Op) (d n : ℕ) → is_noted originals o ≡ true → op_defines o ≡ Some d → copied o ≡ One n → may_copy originals d n ≡ true
copied_noted originals (op.Copy t a) d n noted def e = either (a == t) e where
  either : (c : Bool) → (if c then Many else One a) ≡ One n → may_copy originals d n ≡ true
  either true e = absurd cc
  either false e =
      let first : t ≡ d = cc in
      let second : a ≡ n = cc in
      subst (λ (k : ℕ). may_copy originals k n ≡ true) first (subst (λ (k : ℕ). may_copy originals t k ≡ true) second noted)
copied_noted originals o d n noted def e = absurd cc

defined_keeps : (originals : List Bool) (row : List Flat) (d : Option ℕ) (x : Flat) → ((t n : ℕ) → d ≡ Some t → x ≡ One n → may_copy originals t n ≡ true)
    → HasWhatMay (may_copy originals) row → HasWhatMay (may_copy originals) (with_copy row d x)
defined_keeps originals row None x fits may t n e = may t n e
defined_keeps originals row (Some d) x fits may t n e = elim (set_one (without_copies row d) d x t n e) [
  | inl k ↦ fits t n (ap Some (sym k.0)) k.1
  | inr k ↦ may t n (without_one row d t n k)
]

pub copies_keep : (originals : List Bool) (row : List Flat) (o : Op) → is_noted originals o ≡ true → HasWhatMay (may_copy originals) row → HasWhatMay (may_copy originals) (copy_transfer row o)
copies_keep originals row o noted may = defined_keeps originals row (op_defines o) (copied o) (λ t n def e. copied_noted originals o t n noted def e) may
