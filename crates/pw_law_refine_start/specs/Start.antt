-- Where the objects of a program stand at the start.
use Rattle.std.specs.Prelude.{ℕ, suc, List, [], ◌∷◌, map}
use Rattle.pw_run_languages.specs.Programs.{Program, globals_of}
use Rattle.pw_law_refine_steps.specs.FromLawRefine.Standing.{Spot, In}

-- objects of these sizes stand each in the object of its own number, from a number on
abbrev pub in_order : ℕ → List ℕ → List Spot
in_order n [] = []
in_order n (size ∷ sizes) = In n size ∷ in_order (suc n) sizes

-- the spots at the start, where the globals are the only objects
abbrev pub start_spots : Program → List Spot
start_spots p = in_order 0 (map (λ g. g.size) (globals_of p))
