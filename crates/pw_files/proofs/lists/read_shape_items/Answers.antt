use Rattle.std.specs.Prelude.{option_map}
use Rattle.std.proofs.lemmas.Result.{err_from_is_err_and}
use Rattle.pw_fields.proofs.FieldLoops.{goes_on, ends, is_done}
use Rattle.pw_files.specs.Rising.{next_key}
use Rattle.pw_files.specs.Names.{text_above_at}
use Rattle.pw_files.proofs.lists.read_shape_items.Goals as goal

pub returns-in_err-text : goal.returns-in_err-text
returns-in_err-text c =
    let p = err_from_is_err_and c.from_residual.result c.from_residual.ensures.1 in
    rw (p.1, p.2) (ends text_above_at (next_key (λ text. text)) c.in_err-text.field-0.0 c.loop.items c.args.count c.loop.counter (option_map (λ b. b.now) c.loop.before) c.loop.rest.now _ c.loop-test.true c.in_err-text.ensures.found c.loop.invariant)

pub loop-preserved : goal.loop-preserved
loop-preserved c =
    rw (c.in_ok-push.ensures, c.«new».ensures, c.in_ok-from_slice.ensures.items) (goes_on text_above_at (next_key (λ text. text)) c.loop.items c.args.count c.loop.counter (option_map (λ b. b.now) c.loop.before) c.loop.rest.now c.in_ok-text.text.now c.in_ok-text.after.now _ c.loop-test.true c.in_ok-text.ensures.found c.loop.invariant)

pub returns : goal.returns
returns c = is_done text_above_at (next_key (λ text. text)) c.loop.items c.args.count c.loop.counter (option_map (λ b. b.now) c.loop.before) c.loop.rest.now _ c.loop-test.false c.loop.invariant
