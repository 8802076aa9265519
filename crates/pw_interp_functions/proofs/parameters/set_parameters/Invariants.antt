use Rattle.std.proofs.Common.{drop}
use Rattle.pw_cmean.specs.Evaluation.{site}
use Rattle.pw_cmean.specs.SourceRun.{set_parameters}
use Rattle.pw_interp_state.specs.Shown.{view_state}
use Rattle.pw_interp_calls.specs.Views.{view_env}
use Rattle.pw_interp_todo.specs.Leading.{Leads}
use Rattle.pw_interp_functions.proofs.parameters.set_parameters.Given as goal

-- what the arguments that are left come to from here all do
abbrev pub invariant-loop-k : goal.invariant-loop-k
invariant-loop-k l =
    let e = view_env l.env in
    Leads e.world
    (set_parameters (site e l.token) 0 l.args e) (view_state l.fn.state)
    (set_parameters (site e l.token) l.k (drop l.k l.args) e) (view_state l.state)
