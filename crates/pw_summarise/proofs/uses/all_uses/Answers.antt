use Rattle.std.proofs.Common.{◌+◌, Bor, List, take, sym, subst}
use Rattle.std.specs.List.{AllZip}
use Rattle.pw_flow.specs.declared.flow.FlowFn.{FlowFn}
use Rattle.pw_flow.specs.ValidFlow.{IsFunction}
use Rattle.pw_summary.specs.declared.summary.Uses.{Uses}
use Rattle.pw_summarise.specs.Summarises.{IsUsesOf}
use Rattle.pw_summarise.proofs.MakingLaws.{zip_more}
use Rattle.pw_summarise.proofs.uses.all_uses.Goals as goal

pub uses_of-requires : goal.uses_of-requires
uses_of-requires c = subst (λ (f : Bor FlowFn). IsFunction f.now) (sym c.function-item.is) (c.requires c.loop-function.function-index c.function-item.result c.loop-function-test.true)

pub loop-function-preserved : goal.loop-function-preserved
loop-function-preserved c =
    let R = λ (f : Bor FlowFn) (u : Uses). IsUsesOf f.now u in
    let i = c.loop-function.function-index in
    subst (λ (us : List Uses). AllZip R (take (i + 1) c.args.functions.now) us) (sym c.in_ok-push.ensures)
    (zip_more R c.args.functions.now c.loop-function.all i c.function-item.result c.in_ok-uses_of.field-0 c.loop-function-test.true c.function-item.is c.loop-function.invariant c.in_ok-uses_of.ensures)
