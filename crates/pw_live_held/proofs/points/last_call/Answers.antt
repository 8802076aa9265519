use Rattle.std.proofs.Common.{Bool, subst}
use Rattle.std.specs.Prelude.{Some, slice_get, ◌≡◌}
use Rattle.pw_live_held.proofs.Calling.{last_here, last_before}
use Rattle.pw_live_held.proofs.points.last_call.Goals as goal

pub returns-then-call : goal.returns-then-call
returns-then-call c = λ calls at _. last_here calls c.args.p (subst (λ (b : Bool). slice_get calls c.args.p ≡ Some b) c.if-call.true at)

pub returns-else-call : goal.returns-else-call
returns-else-call c = λ calls at is. last_before calls c.args.p c.args.before (subst (λ (b : Bool). slice_get calls c.args.p ≡ Some b) c.if-call.false at) is
