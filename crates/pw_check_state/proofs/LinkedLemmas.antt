-- Changes of one of the names with linkage.
use Rattle.std.proofs.Common.{◌≡◌, ℕ, Option, None, Some, slice_get, refl, ap, sym, ◌∙◌}
use Rattle.std.specs.Option.{option_map_or}
use Rattle.pw_check_names.specs.LinkedViews.{changed_at}
use Rattle.pw_check_rules.specs.States as states
use Rattle.pw_check_rules.specs.States.{State, linked_at, with_types}
use Rattle.pw_check_rules.specs.Linkage.{change_linked}
use Rattle.pw_check_state.proofs.PlaceLemmas.{changed_put}

-- a change of a name with linkage is one of the list
pub change_is : (place : ℕ) (f : states.LinkedName → states.LinkedName) (s : State)
    → change_linked place f s ≡ with_types (λ t. record t { linked = changed_at place f t.linked }) s
change_is place f s =
    by (slice_get s.types.linked place)
    ∙ ap (λ ls. with_types (λ t. record t { linked = ls }) s) (sym (changed_put place f s.types.linked))
  where
    by : (o : Option states.LinkedName) → option_map_or (λ l. states.put_linked place (f l) s) o s
        ≡ with_types (λ t. record t { linked = option_map_or (λ x. states.put_at place (f x) s.types.linked) o s.types.linked }) s
    by None = refl
    by (Some l) = refl
