use Rattle.std.proofs.Common.{ap, sym, ◌∙◌}
use Rattle.pw_typed.specs.Views.{view_stmt}
use Rattle.pw_cmean.specs.SourceRun.{calls}
use Rattle.pw_interp_todo.specs.Flows.{view_entry}
use Rattle.pw_interp_entries.specs.Looping.{body_act, met_act}
use Rattle.pw_interp_entries.proofs.Turning.{met_front, met_label}
use Rattle.pw_interp_entries.proofs.loops.met.Goals as goal

pub returns-in-Front : goal.returns-in-Front
returns-in-Front c e n s =
    let a = view_stmt c.args.s.now in
    ap (λ at. met_act a e (view_entry at) (calls e.world n) s) c.in-Front.is ∙ met_front a e n s

pub returns-in-AtLabel : goal.returns-in-AtLabel
returns-in-AtLabel c e n s =
    let a = view_stmt c.args.s.now in
    ap (λ at. met_act a e (view_entry at) (calls e.world n) s) c.in-AtLabel.is
    ∙ met_label a e n s _
    ∙ ap (λ at. body_act a e (view_entry at) (calls e.world n) s) (sym c.in-AtLabel.is)
    ∙ c.turn.ensures e n s
