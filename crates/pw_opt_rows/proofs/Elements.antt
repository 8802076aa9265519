-- Rows as elements of their lattice: joins and the least.
use Rattle.std.specs.Prelude.{ℕ, ◌≡◌, Bool, List, length, replicate}
use Rattle.std.proofs.Common.{ap, ◌∙◌}
use Rattle.pw_fix.specs.Order.{IsLeast, IsJoin}
use Rattle.pw_opt_rules.specs.declared.flat.Flat.{Flat}
use Rattle.pw_opt_rules.specs.declared.flat.Flat.TheVariants.{Bottom}
use Rattle.pw_opt_rules.specs.Rows.{known}
use Rattle.pw_opt_places.specs.declared.places.Places.{Places}
use Rattle.pw_opt_rows.specs.Joins.{joined}
use Rattle.pw_opt_rows.specs.Seeing.{may_at, IsOwn, IsBelowShared}
use Rattle.pw_opt_rows.proofs.Joining.{rows_join, bottom_least}

pub elements_join : (ps : Places) (may : ℕ → ℕ → Bool) (x y z : List Flat × List Flat) → IsOwn ps may x → IsOwn ps may y → length z.0 ≡ length x.0 → z.1 ≡ x.1
    → ((t : ℕ) → known z.0 t ≡ joined (known x.0 t) (known y.0 t)) → IsJoin (IsOwn ps may) IsBelowShared x y z
elements_join ps may x y z a b same own joins =
    let k = rows_join (may_at ps.names.items may) (length ps.names.items) x.0 y.0 z.0 a.0 b.0 same joins in
    record {
      own = (k.own, ap (λ (row : List Flat). length row) own ∙ a.1);
      above_first = k.above_first;
      above_second = k.above_second;
      least = λ w own_w f g. k.least w.0 own_w.0 f g;
    }

pub element_least : (ps : Places) (may : ℕ → ℕ → Bool) (x : List Flat × List Flat) → x.0 ≡ replicate (length ps.names.items) Bottom → length x.1 ≡ ps.own → IsLeast (IsOwn ps may) IsBelowShared x
element_least ps may x is long =
    let k = bottom_least (may_at ps.names.items may) (length ps.names.items) x.0 is in
    record { own = (k.own, long); least = λ y own. k.least y.0 own.0 }
