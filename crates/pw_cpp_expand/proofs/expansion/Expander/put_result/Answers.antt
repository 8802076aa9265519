use Rattle.std.proofs.Common.{◌≡◌, ◌+◌, ◌<◌, length, inr, refl, ap, arith}
use Rattle.pw_cpp_expand.proofs.expansion.Expander.put_result.Goals as goal

pub returns-then-room-count : goal.returns-then-room-count
returns-then-room-count c = inr (refl, omega (arith, c.if-room-count.true, c.len-count.ensures, c.requires))

pub returns : goal.returns
returns c = (
  ap (λ x. record c.args.self.now { pending = x }) c.in_ok-put_in_front.ensures,
  ap (λ n. record c.args.progress.now { produced = c.args.progress.now.produced + n }) c.len-count.ensures,
  omega (arith, c.if-room-count.false, c.len-count.ensures, c.requires),
)
