use Rattle.std.proofs.Common.{map}
use Rattle.std.specs.Prelude.{option_map}
use Rattle.std.proofs.lemmas.Result.{err_from_is_err_and}
use Rattle.pw_fields.proofs.FieldLoops.{goes_on, ends, is_done}
use Rattle.pw_db_file.specs.Reading.{function_at, next_function}
use Rattle.pw_db_file.specs.Seen.{known_web}
use Rattle.pw_db_file.proofs.reading.read_function_items.Goals as goal

pub returns-in_err-name : goal.returns-in_err-name
returns-in_err-name c =
    let p = err_from_is_err_and c.from_residual.result c.from_residual.ensures.1 in
    rw (p.1, p.2) (ends (function_at c.args.version c.args.names.now) next_function c.in_err-name.field-0.0 c.loop.functions c.args.count c.loop.counter
    (record { name = option_map (λ n. n.now) c.loop.before; webs = map known_web c.loop.seen.webs.items }) c.loop.rest.now _ c.loop-test.true c.in_err-name.ensures.found c.loop.invariant)

pub loop-preserved : goal.loop-preserved
loop-preserved c =
    rw (c.in_ok-push.ensures, c.in_ok-copy.ensures, c.in_ok-name.ensures.seen) (goes_on (function_at c.args.version c.args.names.now) next_function c.loop.functions c.args.count c.loop.counter
    (record { name = option_map (λ n. n.now) c.loop.before; webs = map known_web c.loop.seen.webs.items }) c.loop.rest.now (c.in_ok-name.name.now, c.in_ok-name.directives) c.in_ok-name.after.now _ c.loop-test.true c.in_ok-name.ensures.found c.loop.invariant)

pub returns : goal.returns
returns c = is_done (function_at c.args.version c.args.names.now) next_function c.loop.functions c.args.count c.loop.counter
    (record { name = option_map (λ n. n.now) c.loop.before; webs = map known_web c.loop.seen.webs.items }) c.loop.rest.now _ c.loop-test.false c.loop.invariant
