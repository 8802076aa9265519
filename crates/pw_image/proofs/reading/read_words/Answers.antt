use Rattle.std.proofs.lemmas.Result.{err_from_is_err_and}
use Rattle.pw_fields.specs.Fields.{u32_at}
use Rattle.pw_fields.proofs.FieldLoops.{repeat_goes_on, repeat_ends, repeat_is_done}
use Rattle.pw_image.proofs.reading.read_words.Goals as goal

pub returns-in_err-word : goal.returns-in_err-word
returns-in_err-word c =
    let p = err_from_is_err_and c.from_residual.result c.from_residual.ensures.1 in
    rw (p.1, p.2) (repeat_ends u32_at c.in_err-word.field-0.0 c.loop.words c.args.count c.loop.counter c.loop.rest.now _ c.loop-test.true c.in_err-word.ensures.found c.loop.invariant)

pub loop-preserved : goal.loop-preserved
loop-preserved c =
    rw c.in_ok-push.ensures (repeat_goes_on u32_at c.loop.words c.args.count c.loop.counter c.loop.rest.now c.in_ok-word.word c.in_ok-word.after.now _ c.loop-test.true c.in_ok-word.ensures.found c.loop.invariant)

pub returns : goal.returns
returns c = repeat_is_done u32_at c.loop.words c.args.count c.loop.counter c.loop.rest.now _ c.loop-test.false c.loop.invariant
