use Rattle.std.proofs.Common.{map, ap, ◌∙◌}
use Rattle.std.proofs.lemmas.Result.{err_from_is_err_and}
use Rattle.std.proofs.lemmas.List.{map_push}
use Rattle.pw_fields.proofs.FieldLoops.{goes_on, ends, is_done}
use Rattle.pw_flowfile.specs.Reading.{global_at, next_global, seen_after}
use Rattle.pw_flowfile.proofs.MarkLaws.{seen_more}
use Rattle.pw_flowfile.proofs.globals.read_globals.Goals as goal

pub returns-in_err-global-clause-found : goal.returns-in_err-global-clause-found
returns-in_err-global-clause-found c = λ seen marks.
    let i = c.loop.invariant seen marks in
    let p = err_from_is_err_and c.from_residual.result c.from_residual.ensures.1 in
    rw (p.1, p.2) (ends (global_at c.args.names.now) next_global c.in_err-global.field-0.0 c.loop.globals c.args.count c.loop.counter (seen_after seen (map (λ x. x.name) c.loop.globals)) c.loop.rest.now _ c.loop-test.true (c.in_err-global.ensures.found _ i.0) i.1)

pub loop-preserved : goal.loop-preserved
loop-preserved c = λ seen marks.
    let i = c.loop.invariant seen marks in
    let global = c.in_ok-global.global in
    let more = c.in_ok-push.ensures in
    let named = map_push (λ x. x.name) c.loop.globals global in
    let state = ap (seen_after seen) named ∙ seen_more seen (map (λ x. x.name) c.loop.globals) global.name in (
      rw (more, state) (c.in_ok-global.ensures.marked _ c.requires.rising i.0),
      rw (more, state) (goes_on (global_at c.args.names.now) next_global c.loop.globals c.args.count c.loop.counter (seen_after seen (map (λ x. x.name) c.loop.globals)) c.loop.rest.now global c.in_ok-global.after.now _ c.loop-test.true (c.in_ok-global.ensures.found _ i.0) i.1),
    )

pub returns-clause-found : goal.returns-clause-found
returns-clause-found c = λ seen marks.
    let i = c.loop.invariant seen marks in
    is_done (global_at c.args.names.now) next_global c.loop.globals c.args.count c.loop.counter (seen_after seen (map (λ x. x.name) c.loop.globals)) c.loop.rest.now _ c.loop-test.false i.1

pub returns-clause-marked : goal.returns-clause-marked
returns-clause-marked c = λ seen marks. (c.loop.invariant seen marks).0
