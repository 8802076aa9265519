use Rattle.std.proofs.Common.{◌≡◌, refl, sym, ap, ◌∙◌, [], arith}
use Rattle.pw_cmean.specs.Acts.{stop}
use Rattle.pw_interp_calls.specs.Functions.{callable_of}
use Rattle.pw_interp_calls.specs.Views.{view_env}
use Rattle.pw_interp_machine.proofs.Finishing.{finish_is}
use Rattle.pw_interp_pushes.proofs.Pushing.{nothing_in}
use Rattle.pw_interp_machine.proofs.Standings.{steps_finish, steps_return}
use Rattle.pw_interp_machine.proofs.calls.give_back.Goals as goal

pub returns-in-Some : goal.returns-in-Some
returns-in-Some c =
    let old = c.args.machine.now.call in
    steps_return old (view_env old.env) old.bound c.args.given c.requires c.args.machine.now.callers.items _ c.in-Some.ensures.items refl

pub returns-in-None : goal.returns-in-None
returns-in-None c =
    let old = c.args.machine.now.call in
    let main = (callable_of c.args.main).body in
    let callers = c.args.machine.now.callers in
    let none : callers.items ≡ [] = nothing_in callers.items (omega (arith, c.in-None.ensures.cases.0, callers.ok.0)) in
    steps_finish old (view_env old.env) old.bound c.args.given c.requires callers.items _ _ none (finish_is main c.args.given ∙ ap stop (sym c.finish.ensures))
