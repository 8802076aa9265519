use Rattle.std.specs.Prelude.{IfOk, OnErr}
use Rattle.pw_image.specs.Image.{IsImageFile}
use Rattle.pw_where.specs.Looks.{LeavesUnlooked, LooksAs}
use Rattle.pw_where.proofs.Reaching.{both_some, loaded_going}
use Rattle.pw_where.proofs.looking.look_at_call.Goals as goal

pub look_from-requires-clause-going : goal.look_from-requires-clause-going
look_from-requires-clause-going g c = loaded_going c.in_ok-machine.machine c.requires.image.0.value (c.in_ok-machine.ensures c.requires.image.0 c.requires.image.1)

pub returns-clause-look : goal.returns-clause-look
returns-clause-look g c =
    both_some (λ k. IsImageFile c.args.bytes.now k)
    (λ k rest. IfOk c.look_from.result (λ look. LooksAs k.value c.args.objects.now c.args.frames.now c.args.call c.args.budget rest look (g.I.Source.rest c.look_from.new.input)))
    (g.I.Source.rest c.args.input.now) (λ k h. c.look_from.ensures.look k.value (c.in_ok-plan.ensures k h) (c.in_ok-machine.ensures k h))

pub returns-clause-memory : goal.returns-clause-memory
returns-clause-memory g c =
    both_some (λ k. IsImageFile c.args.bytes.now k)
    (λ k rest. OnErr c.look_from.result (LeavesUnlooked k.value c.args.objects.now c.args.call c.args.budget rest (g.I.Source.rest c.look_from.new.input)))
    (g.I.Source.rest c.args.input.now) (λ k h. c.look_from.ensures.memory k.value (c.in_ok-plan.ensures k h) (c.in_ok-machine.ensures k h))
