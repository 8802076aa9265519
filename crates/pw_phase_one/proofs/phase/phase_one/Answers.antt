use Rattle.pw_tree.specs.Views.{view_module}
use Rattle.pw_phase_one.proofs.PhaseLaws.{front_failed, front_passed, phase_lawful}
use Rattle.pw_phase_one.proofs.phase.phase_one.Goals as goal

pub returns-in-Ok-clause-function : goal.returns-in-Ok-clause-function
returns-in-Ok-clause-function c = front_passed c.args.name.now c.args.text.now (view_module c.in-Ok.tree) c.compile.result c.in-Ok.ensures.function c.compile.ensures

pub returns-in-Err-clause-function : goal.returns-in-Err-clause-function
returns-in-Err-clause-function c = front_failed view_module c.args.name.now c.args.text.now c.in-Err.error c.in-Err.ensures.function

pub returns-in-Ok-clause-lawful : goal.returns-in-Ok-clause-lawful
returns-in-Ok-clause-lawful c =
    let name = c.args.name.now in
    let text = c.args.text.now in
    phase_lawful name text (c.flow_graphs_are_lawful.ensures name text) c.compile.result (front_passed name text (view_module c.in-Ok.tree) c.compile.result c.in-Ok.ensures.function c.compile.ensures)
