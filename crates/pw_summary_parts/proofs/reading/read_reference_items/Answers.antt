use Rattle.std.specs.Prelude.{option_map}
use Rattle.std.proofs.lemmas.Result.{err_from_is_err_and}
use Rattle.pw_fields.proofs.FieldLoops.{goes_on, ends, is_done}
use Rattle.pw_files.specs.Rising.{next_key}
use Rattle.pw_summary_parts.specs.Reading.{reference_at}
use Rattle.pw_summary_parts.proofs.reading.read_reference_items.Goals as goal

pub returns-in_err-name : goal.returns-in_err-name
returns-in_err-name c =
    let p = err_from_is_err_and c.from_residual.result c.from_residual.ensures.1 in
    rw (p.1, p.2) (ends (reference_at c.args.names.now) (next_key (λ r. r.0)) c.in_err-name.field-0.0 c.loop.items c.args.count c.loop.counter (option_map (λ b. b.now) c.loop.before) c.loop.rest.now _ c.loop-test.true c.in_err-name.ensures.found c.loop.invariant)

pub loop-preserved : goal.loop-preserved
loop-preserved c =
    rw (c.in_ok-push.ensures, c.in_ok-copy.ensures) (goes_on (reference_at c.args.names.now) (next_key (λ r. r.0)) c.loop.items c.args.count c.loop.counter (option_map (λ b. b.now) c.loop.before) c.loop.rest.now (c.in_ok-name.name.now, c.in_ok-name.reads, c.in_ok-name.writes) c.in_ok-name.after.now _ c.loop-test.true c.in_ok-name.ensures.found c.loop.invariant)

pub returns : goal.returns
returns c = is_done (reference_at c.args.names.now) (next_key (λ r. r.0)) c.loop.items c.args.count c.loop.counter (option_map (λ b. b.now) c.loop.before) c.loop.rest.now _ c.loop-test.false c.loop.invariant
