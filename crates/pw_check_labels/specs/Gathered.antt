-- What was made of the first items of a list, before what the rest makes.
use Rattle.std.specs.Prelude.{List, [], ◌∷◌}

abbrev pub gathered : {X Acc : Type 0} → (X → Acc → Acc) → List X → Acc → Acc
gathered cons [] rest = rest
gathered cons (x ∷ xs) rest = cons x (gathered cons xs rest)
