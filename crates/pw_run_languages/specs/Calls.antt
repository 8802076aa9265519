-- Calls of a trace that the program's graph of calls has, and registers that their callers answer for.
use Rattle.std.specs.Prelude.{ℕ, ◌≡◌, ◌⊎◌, List, [], ◌∷◌, Contains}
use Rattle.pw_value.specs.ProgramNames.{start_name}
use Rattle.pw_db.specs.declared.database.Directives.{Directives}
use Rattle.pw_alloc.specs.declared.located.Located.{Located}
use Rattle.pw_db_sound.specs.CallGraphs.{Graph, Calls}
use Rattle.pw_run_languages.specs.Traces.{Event, Called, Refused, MayChange}
use Rattle.pw_run_languages.specs.Traffic.{Open, active}

-- the innermost active call calls the function; where none is active it is `$start`
abbrev pub IsCalledBy : {B V : Type 0} → Graph → List ℕ → List (Open B V) → Type 0
IsCalledBy g f [] = f ≡ start_name
IsCalledBy g f (c ∷ cs) = Calls g c.function f

-- each call of a trace is one of the graph, whether there was stack for it or not
abbrev pub FollowsCalls : {B V : Type 0} → Graph → List (Event B V) → Type 0
FollowsCalls g [] = Unit {0}
FollowsCalls g (Called f gs rs ∷ l) = IsCalledBy g f (active l) × FollowsCalls g l
FollowsCalls g (Refused f ∷ l) = IsCalledBy g f (active l) × FollowsCalls g l
FollowsCalls g (e ∷ l) = FollowsCalls g l

-- a function of a name saves the register
pub record Saves (functions : List Located) (name : List ℕ) (r : ℕ) : Type 0 where
  pub function : Located
  pub there : Contains functions function
  pub named : function.body.name ≡ name
  pub saved : Contains function.saved r

-- A register that a function may leave with something else in it, each of its callers may leave so too, or saves.
abbrev pub AreGuarded : Graph → List (List ℕ × Directives) → List Located → Type 0
AreGuarded g d functions = (caller callee : List ℕ) (r : ℕ) → Calls g caller callee → MayChange d callee r → MayChange d caller r ⊎ Saves functions caller r
