use Rattle.std.proofs.Common.{take}
use Rattle.pw_law_opt.specs.Laws.{AreOptimisedModules}
use Rattle.pw_build_objects.proofs.forms.optimised_forms.Given as goal

abbrev pub invariant-loop-flow : goal.invariant-loop-flow
invariant-loop-flow l = AreOptimisedModules (take l.flow-index l.flows) l.forms.items
