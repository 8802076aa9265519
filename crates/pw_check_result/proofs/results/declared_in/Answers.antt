use Rattle.std.proofs.Common.{map, refl}
use Rattle.pw_check_state.specs.EntityViews.{view_linked}
use Rattle.pw_check_labels.proofs.LabelNames.{names_on, names_end}
use Rattle.pw_typed.specs.Views.{view_declared}
use Rattle.pw_check_result.specs.Parts.{declared_of}
use Rattle.pw_check_result.proofs.ResultLaws.{all_declared, declared_on}
use Rattle.pw_check_result.proofs.results.declared_in.Goals as goal

pub loop-next-preserved : goal.loop-next-preserved
loop-next-preserved c =
    names_on all_declared (λ x. declared_of (view_linked x)) declared_on c.args.linked.now c.loop-next.next-index
    (map view_declared c.loop-next.declared.items) _ _ c.next-item.result c.loop-next-test.true c.next-item.is c.loop-next.invariant c.in_ok-push_declared.ensures

pub returns : goal.returns
returns c =
    names_end all_declared (λ x. declared_of (view_linked x)) declared_on c.args.linked.now c.loop-next.next-index
    (map view_declared c.loop-next.declared.items) _ c.loop-next-test.false refl c.loop-next.invariant
