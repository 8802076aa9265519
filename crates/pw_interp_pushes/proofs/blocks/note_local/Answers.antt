use Rattle.std.proofs.Common.{ap}
use Rattle.pw_typed.specs.Views.{view_stmt}
use Rattle.pw_cmean.specs.Acts.{◌>>=◌}
use Rattle.pw_interp_todo.specs.Flows.{view_entry}
use Rattle.pw_interp_todo.specs.Parts.{part_act}
use Rattle.pw_interp_todo.specs.Resuming.{Flowed, control_act, resume}
use Rattle.pw_interp_todo.specs.declared.statements.Part.TheVariants as P
use Rattle.pw_interp_pushes.proofs.blocks.note_local.Goals as goal

pub returns : goal.returns
unfolding control_act
returns c e n rest =
    ap (λ items. part_act (P.Locals c.args.opened) (view_stmt c.args.of.now) (view_entry c.args.at) e n >>= λ flow. resume items rest e c.args.bound (Flowed flow)) c.in_ok-push.ensures.items
