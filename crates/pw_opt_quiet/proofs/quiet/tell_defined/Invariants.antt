use Rattle.pw_flow.specs.declared.flow.FlowGlobal.{FlowGlobal}
use Rattle.pw_opt_quiet.specs.Marks.{unmarked}
use Rattle.pw_opt_quiet.proofs.Telling.{Told}
use Rattle.pw_opt_quiet.proofs.quiet.tell_defined.Given as goal

abbrev pub invariant-loop-back : goal.invariant-loop-back
invariant-loop-back l = Told (λ (g : FlowGlobal). g.name) (λ (g : FlowGlobal). unmarked g.shape) l.globals l.back l.fn.marks l.marks
