use Rattle.std.proofs.Common.{ap, sym, ◌∙◌}
use Rattle.std.specs.Prelude.{option_map}
use Rattle.pw_typed.specs.Views.{view_stmt}
use Rattle.pw_cmean.specs.Acts.{◌>>=◌}
use Rattle.pw_cmean.specs.SourceRun.{calls}
use Rattle.pw_interp_todo.specs.Flows.{view_flow}
use Rattle.pw_interp_todo.specs.Loops.{behind_of, body_behind, top_or_leave}
use Rattle.pw_interp_flows.proofs.Following.{body_left, body_on}
use Rattle.pw_interp_flows.proofs.behind.behind_body.Goals as goal

pub returns-in-Some : goal.returns-in-Some
unfolding body_behind
returns-in-Some c e n s =
    let a = view_stmt c.args.s.now in
    let cs = calls e.world n in
    ap (λ act. act s) (body_left (behind_of a e cs >>= top_or_leave a e cs) (view_flow c.args.flow) (view_flow c.in-Some.left) (sym c.left_by.ensures ∙ ap (option_map view_flow) c.in-Some.is))

pub returns-in-None : goal.returns-in-None
unfolding body_behind
returns-in-None c e n s =
    let a = view_stmt c.args.s.now in
    let cs = calls e.world n in
    ap (λ act. act s) (body_on (behind_of a e cs >>= top_or_leave a e cs) (view_flow c.args.flow) (sym c.left_by.ensures ∙ ap (option_map view_flow) c.in-None.is))
    ∙ c.tail_of.ensures e n s
