use Rattle.std.proofs.Common.{rules, refl, sym, ap, ◌∙◌, []}
use Rattle.pw_cmean.specs.Acts.{◌>>=◌}
use Rattle.pw_interp_calls.specs.Views.{view_env}
use Rattle.pw_interp_todo.specs.Operands.{call_behind}
use Rattle.pw_interp_todo.specs.Resuming.{Gave, Listed, resume}
use Rattle.pw_interp_machine.proofs.Standings.{steps_no_memory, steps_reached}
use Rattle.pw_interp_machine.proofs.calls.call_listed.Goals as goal

pub returns-in_err-args : goal.returns-in_err-args
returns-in_err-args c main = steps_no_memory (search rules)

pub returns : goal.returns
returns c main =
    let call = c.args.machine.now.call in
    let e = view_env call.env in
    let taken = c.in_ok-args in
    let todo = c.take_arguments.new.todo in
    steps_reached call (record call { todo = todo }) (λ rest. rest e call.bound (Listed [])) (λ rest. call_behind taken.callee c.deref.result.now e call.bound >>= λ r. rest e call.bound (Gave r))
    (λ rest.
    taken.ensures.taken e call.bound rest
    ∙ ap (λ vs. call_behind taken.callee vs e call.bound >>= λ r. resume todo.items rest e call.bound (Gave r)) (sym c.deref.ensures.value))
    refl refl (c.call_with.ensures main)
