use Rattle.std.proofs.Common.{ap}
use Rattle.pw_interp_calls.specs.Views.{view_env}
use Rattle.pw_interp_todo.specs.Operands.{call_behind}
use Rattle.pw_interp_todo.proofs.LeadLaws.{followed, named}
use Rattle.pw_interp_functions.proofs.Continuing.{gives_next}
use Rattle.pw_interp_functions.proofs.callees.callee_of.Goals as goal

pub returns-in-Named : goal.returns-in-Named
unfolding call_behind
returns-in-Named c vs n w =
    followed (named (ap (λ x. call_behind x vs (view_env c.args.env.now) n) c.in-Named.is)) (gives_next _ (c.function_of.ensures w))

pub returns-in-Through : goal.returns-in-Through
unfolding call_behind
returns-in-Through c vs n w =
    followed (named (ap (λ x. call_behind x vs (view_env c.args.env.now) n) c.in-Through.is)) (c.called_through.ensures vs n w)
