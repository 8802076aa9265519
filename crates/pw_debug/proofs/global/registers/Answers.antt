use Rattle.std.proofs.Common.{◌∙◌, sym, subst, ◌<◌, arith}
use Rattle.std.proofs.lemmas.List.{length-set}
use Rattle.pw_machine.specs.Core.{register}
use Rattle.pw_debug.proofs.Filling.{one_more, all_filled}
use Rattle.pw_debug.proofs.global.registers.Goals as goal

-- src/global.rt:20:5
pub loop-r-preserved : goal.loop-r-preserved
loop-r-preserved c = (
  length-set c.loop-r.registers c.from.result c.reg.result ∙ c.loop-r.invariant.0,
  one_more (register c.args.machine.now.core) c.loop-r.registers c.loop-r.r c.from.result c.reg.result c.from.ensures c.reg.ensures (subst (λ n. c.loop-r.r < n) (sym c.loop-r.invariant.0) c.loop-r-test.true) c.loop-r.invariant.1,
)

-- src/global.rt:16:1
pub returns : goal.returns
returns c = all_filled (register c.args.machine.now.core) c.loop-r.registers c.loop-r.r 32 c.loop-r.invariant.0 (omega (arith, c.loop-r-test.false, c.loop-r.auto.r-end)) c.loop-r.invariant.1
