use Rattle.pw_tree.specs.Views.{view_module}
use Rattle.pw_typed.specs.Views as typed
use Rattle.pw_phase_one.proofs.PhaseLaws.{checked_err, checked_ok}
use Rattle.pw_phase_one.proofs.phase.typed_tree.Goals as goal

pub returns-in-Ok : goal.returns-in-Ok
returns-in-Ok c = checked_ok c.checks_is_exact.ensures (view_module c.args.tree.now) (typed.view_module c.in-Ok.typed) c.in-Ok.ensures.typed

pub returns-in-Err : goal.returns-in-Err
returns-in-Err c = checked_err typed.view_module c.checks_is_exact.ensures (view_module c.args.tree.now) c.in-Err.fault c.error_of.result c.error_of.ensures c.in-Err.ensures.refused
