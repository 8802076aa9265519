use Rattle.std.proofs.Common.{[], sym, subst}
use Rattle.pw_law_opt.specs.Laws.{AreOptimisedModules, none}
use Rattle.pw_build_objects.proofs.FormLaws.{optimised_more}
use Rattle.pw_build_objects.proofs.forms.optimised_forms.Goals as goal

pub loop-flow-init : goal.loop-flow-init
loop-flow-init c = subst (AreOptimisedModules []) (sym c.new-forms.ensures.items) none

pub loop-flow-preserved : goal.loop-flow-preserved
loop-flow-preserved c =
    optimised_more c.args.flows.now c.loop-flow.flow-index c.flow-item.result c.in_ok-optimise.field-0 c.loop-flow.forms.items _
    c.loop-flow-test.true c.flow-item.is c.in_ok-push_form.ensures c.in_ok-optimise.ensures c.loop-flow.invariant
