use Rattle.std.proofs.Common.{take}
use Rattle.pw_opt_rules.specs.Optimised.{AreOptimised}
use Rattle.pw_opt.proofs.functions.optimise_functions.Given as goal

abbrev pub invariant-loop-f : goal.invariant-loop-f
invariant-loop-f l = AreOptimised l.quiet.flow.now (take l.f-index l.functions) l.optimised
