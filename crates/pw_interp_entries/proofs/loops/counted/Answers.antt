use Rattle.std.proofs.Common.{ap, sym, ◌∙◌}
use Rattle.pw_typed.specs.Views.{view_optional, view_stmt}
use Rattle.pw_cmean.specs.SourceRun.{calls}
use Rattle.pw_interp_todo.specs.Flows.{view_entry}
use Rattle.pw_interp_entries.specs.Looping.{counting_act, met_act}
use Rattle.pw_interp_entries.proofs.Turning.{counted_label}
use Rattle.pw_interp_entries.proofs.loops.counted.Goals as goal

pub returns-in-Front : goal.returns-in-Front
returns-in-Front c e n s =
    ap (λ at. counting_act (view_optional c.args.first.now) (view_stmt c.args.s.now) e (view_entry at) (calls e.world n) s) c.in-Front.is ∙ c.counted_front.ensures e n s

pub returns-in-AtLabel : goal.returns-in-AtLabel
returns-in-AtLabel c e n s =
    let a = view_stmt c.args.s.now in
    ap (λ at. counting_act (view_optional c.args.first.now) a e (view_entry at) (calls e.world n) s) c.in-AtLabel.is
    ∙ counted_label a e n s (view_optional c.args.first.now) _
    ∙ ap (λ at. met_act a e (view_entry at) (calls e.world n) s) (sym c.in-AtLabel.is)
    ∙ c.met.ensures e n s
