use Rattle.std.proofs.Common.{ap, ◌∙◌}
use Rattle.pw_typed.specs.Views.{view_optional, view_stmt}
use Rattle.pw_cmean.specs.Execution.{Front}
use Rattle.pw_cmean.specs.SourceRun.{calls}
use Rattle.pw_interp_entries.specs.Looping.{counting_act}
use Rattle.pw_interp_entries.proofs.Turning.{counted_none, counted_some}
use Rattle.pw_interp_entries.proofs.loops.counted_front.Goals as goal

pub returns-in-Some : goal.returns-in-Some
returns-in-Some c e n s =
    let a = view_stmt c.args.s.now in
    ap (λ o. counting_act (view_optional o) a e Front (calls e.world n) s) c.in-Some.is ∙ counted_some a e n s _

pub returns-in-None : goal.returns-in-None
returns-in-None c e n s =
    let a = view_stmt c.args.s.now in
    ap (λ o. counting_act (view_optional o) a e Front (calls e.world n) s) c.in-None.is ∙ counted_none a e n s ∙ c.met.ensures e n s
