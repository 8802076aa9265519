use Rattle.std.proofs.Common.{◌∙◌, ap}
use Rattle.pw_flow.specs.declared.flow.FlowGlobal.{FlowGlobal}
use Rattle.pw_opt_quiet.specs.Marks.{unmarked}
use Rattle.pw_opt_quiet.proofs.Telling.{told_none, told_step, told_all}
use Rattle.pw_opt_quiet.proofs.quiet.tell_defined.Goals as goal

pub loop-back-init : goal.loop-back-init
loop-back-init c = told_none (λ (g : FlowGlobal). g.name) (λ (g : FlowGlobal). unmarked g.shape) c.args.globals.now c.args.marks.now

pub loop-back-preserved : goal.loop-back-preserved
loop-back-preserved c =
    let x = c.index-globals-globals.result in
    told_step (λ (g : FlowGlobal). g.name) (λ (g : FlowGlobal). unmarked g.shape) c.args.globals.now c.loop-back.back c.args.marks.now c.loop-back.marks c.declare.new.self x c.as_bytes.result.now c.is_unmarked.result
    c.loop-back-test.true c.index-globals-globals.is c.as_bytes.ensures.bytes (c.is_unmarked.ensures ∙ ap unmarked c.as_bytes-in-loop-back.ensures) c.in_ok-declare.ensures.ok c.loop-back.invariant

pub returns : goal.returns
returns c = told_all (λ (g : FlowGlobal). g.name) (λ (g : FlowGlobal). unmarked g.shape) c.args.globals.now c.loop-back.back c.args.marks.now c.loop-back.marks c.loop-back-test.false c.loop-back.invariant
