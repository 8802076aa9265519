-- Optimised functions and modules: constants, then copies, then dead operations. Blocks, temporaries, slots and numbers
-- stay.
use Rattle.std.specs.Prelude.{ℕ, ◌≡◌, ◌*◌, ◌<◌, ◌≤◌, List, [], ◌∷◌, length}
use Rattle.pw_flow.specs.declared.flow.FlowFn.{FlowFn}
use Rattle.pw_flow.specs.declared.flow.FlowModule.{FlowModule}
use Rattle.pw_opt_rules.specs.Rewriting.{IsRewritten}
use Rattle.pw_opt_rules.specs.Constants.{constants}
use Rattle.pw_opt_rules.specs.Copies.{copies}
use Rattle.pw_opt_rules.specs.Dead.{without_dead}

-- how many temporaries times blocks a function may have
abbrev pub optimise_limit : ℕ
optimise_limit = 4000000

-- a larger function stays
pub data IsOptimised (m : FlowModule) (f : FlowFn) : FlowFn → Type 0 where
  stays : optimise_limit < f.temps * length f.blocks → IsOptimised m f f
  steps : (g h : FlowFn) → f.temps * length f.blocks ≤ optimise_limit → IsRewritten constants f g → IsRewritten copies g h
      → IsOptimised m f (without_dead m h)

-- functions one by one
pub data AreOptimised (m : FlowModule) : List FlowFn → List FlowFn → Type 0 where
  none : AreOptimised m [] []
  also : (f g : FlowFn) (fs gs : List FlowFn) → IsOptimised m f g → AreOptimised m fs gs → AreOptimised m (f ∷ fs) (g ∷ gs)

-- the objects and what is declared stay
pub record IsOptimisedModule (m n : FlowModule) : Type 0 where
  pub name : n.name ≡ m.name
  pub globals : n.globals ≡ m.globals
  pub declared : n.declared ≡ m.declared
  pub functions : AreOptimised m m.functions n.functions
