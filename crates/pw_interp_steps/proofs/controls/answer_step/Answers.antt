use Rattle.pw_interp_steps.proofs.controls.answer_step.Goals as goal

pub returns-then-is_direct : goal.returns-then-is_direct
returns-then-is_direct c =
    let call = c.args.call.now in
    c.given.ensures call _ _ _ (c.answer_of.ensures call.bound)
