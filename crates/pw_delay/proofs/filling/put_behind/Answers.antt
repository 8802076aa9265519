use Rattle.std.proofs.Common.{sym, ◌∙◌}
use Rattle.pw_delay.proofs.Stepping.{left}
use Rattle.pw_delay.proofs.filling.put_behind.Goals as goal

pub returns-in_ok-push-2 : goal.returns-in_ok-push-2
returns-in_ok-push-2 c = λ rest.
    rw c.in_ok-push-2.ensures (rw c.compared-then.ensures (left c.args.done.now c.args.behind c.args.last c.args.next rest (sym c.is_taken.ensures ∙ c.if-is_taken.false)))
