use Rattle.pw_tree.specs.Views.{view_module}
use Rattle.pw_typed.specs.Views as typed
use Rattle.pw_phase_one.proofs.PhaseLaws.{typed_failed, typed_passed}
use Rattle.pw_phase_one.proofs.phase.phase_typed.Goals as goal

pub returns-in-Ok : goal.returns-in-Ok
returns-in-Ok c = typed_passed typed.view_module c.args.text.now (view_module c.in-Ok.tree) c.typed_tree.result c.in-Ok.ensures.function c.typed_tree.ensures

pub returns-in-Err : goal.returns-in-Err
returns-in-Err c = typed_failed view_module typed.view_module c.args.text.now c.in-Err.error c.in-Err.ensures.function
