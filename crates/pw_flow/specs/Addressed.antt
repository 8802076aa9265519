-- The names whose address code takes.
use Rattle.std.specs.Prelude.{ℕ, List, [], ◌∷◌}
use Rattle.pw_flow.specs.declared.flow.Op.{Op}
use Rattle.pw_flow.specs.declared.flow.Op.TheVariants.{AddrGlobal, AddrFn}

-- the name whose address an operation takes
abbrev pub addressed : Op → List (List ℕ)
addressed (AddrGlobal t g n) = g ∷ []
addressed (AddrFn t f) = f ∷ []
addressed _ = []
