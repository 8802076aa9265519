-- Rules that go over a list.
use Rattle.std.specs.Prelude.{◌≡◌, List, ◌∷◌}
use Rattle.pw_check_walk.specs.Walks.{Walk, bind}

-- The rule over lists takes an item, by the items behind it, and goes on with what that makes.
abbrev pub ItemByItem : {X A C S : Type 0} → (List X → A → S → Walk (C × S)) → (X → List X → A → S → Walk (A × S)) → Type 0
ItemByItem {X} {A} {C} {S} over one = (x : X) (rest : List X) (a : A) (s : S) → over (x ∷ rest) a s ≡ bind (one x rest a s) (λ t. over rest t.0 t.1)
