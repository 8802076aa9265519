-- Locals that are in scope while a function runs: the statements of laws.
use Rattle.std.specs.Prelude.{ℕ, ◌≡◌, ◌≤◌, Option, None, List, ◌++◌}
use Rattle.pw_value.specs.declared.value.Value.{Value}
use Rattle.pw_cmean.specs.Acts.{State, Act}
use Rattle.pw_cmean.specs.Evaluation.{Env}
use Rattle.pw_cmean.specs.Execution.{with_locals}
use Rattle.pw_run_languages.specs.FlowRun.{Machine}
use Rattle.pw_law_refine.specs.Standing.{Spot}
use Rattle.pw_law_refine.specs.Activations.{Activation, IsActivation, Numbers, number_of, env_of}
use Rattle.pw_law_refine.specs.Matching.{Related, Later}
use Rattle.pw_law_refine.specs.Meeting.{Meets}
use Rattle.pw_law_refine.specs.Statements.{IsReturning}
use Rattle.pw_law_refine.specs.StatementParts.{HaveBegun}

-- the function is about to return its result, with locals in scope
pub record IsLeaving (x : Activation) (numbers : Numbers) (spots : List Spot) (s : State) (m : Machine) (result : Option Value) (t : State) (n : Machine) : Type 0 where
  pub later : Later x numbers spots s m t n
  pub returning : IsReturning later.spots result n

-- What leaves the function where locals of its own are in scope, leaves it behind their end. Where these have begun, the
-- spots go on from those of before, and the machine has done nothing.
abbrev pub LocalsLeave : ℕ → Type 0
LocalsLeave bound =
    (x : Activation) (numbers : Numbers) (spots : List Spot) (first count : ℕ) (act : Env → Act (Option Value)) (s : State) (m : Machine) →
    IsActivation x → ((k : ℕ) → first ≤ k → number_of numbers k ≡ None) → Related x numbers spots s m →
    ((inner : Numbers) (more : List Spot) (t : State) → HaveBegun first count numbers inner → ((new : List Spot) × (more ≡ spots ++ new)) → Related x inner more t m →
    Meets x.world bound m (act (env_of x inner) t) (IsLeaving x inner more t m)) →
    Meets x.world bound m (with_locals count first act (env_of x numbers) s) (IsLeaving x numbers spots s m)
