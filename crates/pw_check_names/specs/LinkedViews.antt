-- The names with linkage as a list, and changes of one of them.
use Rattle.std.specs.Prelude.{ℕ, zero, suc, List, [], ◌∷◌, map}
use Rattle.pw_check_rules.specs.States as states
use Rattle.pw_check_names.specs.EntityViews.{view_linked}
use Rattle.pw_check_names.specs.declared.linked.LinkedNames.{LinkedNames}

abbrev pub linked_names : LinkedNames → List states.LinkedName
linked_names l = map view_linked l.items.items

-- the list with a change of what is at the place
abbrev pub changed_at : {X : Type 0} → ℕ → (X → X) → List X → List X
changed_at n f [] = []
changed_at zero f (y ∷ rest) = f y ∷ rest
changed_at (suc n) f (y ∷ rest) = y ∷ changed_at n f rest
