use Rattle.std.proofs.Common.{refl, ap, ◌≤◌, arith}
use Rattle.pw_typed.specs.Views.{view_stmt}
use Rattle.pw_cmean.specs.Acts.{◌>>=◌}
use Rattle.pw_interp_calls.specs.Views.{view_env}
use Rattle.pw_interp_todo.specs.Flows.{view_entry}
use Rattle.pw_interp_todo.specs.Members.{count_in}
use Rattle.pw_interp_todo.specs.Resuming.{Flowed, control_act, resume}
use Rattle.pw_interp_todo.proofs.LeadLaws.{left_so, named}
use Rattle.pw_interp_pushes.proofs.Opening.{opened_is}
use Rattle.pw_interp_pushes.proofs.blocks.open_block.Goals as goal

pub returns-else-made-count : goal.returns-else-made-count
unfolding control_act
returns-else-made-count c =
    let call = c.args.call.now in
    let e = view_env call.env in
    let s = view_stmt c.args.of.now in
    let all : count_in s ≤ c.args.made = first_of (omega (arith, c.locals_in-first.ensures.count, c.if-made-count.false), omega (arith, c.locals_in-first.ensures.count)) in
    record {
      steps = λ rest. left_so _ refl (named (ap (λ act. act >>= λ flow. resume call.todo.items rest e c.args.bound (Flowed flow)) (opened_is s (view_entry c.args.at) e call.bound c.args.made all)));
      room = refl;
      stands = refl;
    }
