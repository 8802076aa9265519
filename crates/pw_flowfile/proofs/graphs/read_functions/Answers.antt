use Rattle.std.proofs.Common.{map, ap, ◌∙◌}
use Rattle.std.proofs.lemmas.Result.{err_from_is_err_and}
use Rattle.std.proofs.lemmas.List.{map_push}
use Rattle.pw_fields.proofs.FieldLoops.{goes_on, ends, is_done}
use Rattle.pw_flowfile.specs.Reading.{function_at, next_function, seen_after}
use Rattle.pw_flowfile.proofs.MarkLaws.{seen_more}
use Rattle.pw_flowfile.proofs.graphs.read_functions.Goals as goal

pub returns-in_err-function : goal.returns-in_err-function
returns-in_err-function c = λ seen marks.
    let i = c.loop.invariant seen marks in
    let p = err_from_is_err_and c.from_residual.result c.from_residual.ensures.1 in
    rw (p.1, p.2) (ends (function_at c.args.names.now) next_function c.in_err-function.field-0.0 c.loop.functions c.args.count c.loop.counter (seen_after seen (map (λ x. x.name) c.loop.functions)) c.loop.rest.now _ c.loop-test.true (c.in_err-function.ensures.found _ i.0) i.1)

pub loop-preserved : goal.loop-preserved
loop-preserved c = λ seen marks.
    let i = c.loop.invariant seen marks in
    let function = c.in_ok-function.function in
    let more = c.in_ok-push.ensures in
    let named = map_push (λ x. x.name) c.loop.functions function in
    let state = ap (seen_after seen) named ∙ seen_more seen (map (λ x. x.name) c.loop.functions) function.name in (
      rw (more, state) (c.in_ok-function.ensures.marked _ c.requires.rising i.0),
      rw (more, state) (goes_on (function_at c.args.names.now) next_function c.loop.functions c.args.count c.loop.counter (seen_after seen (map (λ x. x.name) c.loop.functions)) c.loop.rest.now function c.in_ok-function.after.now _ c.loop-test.true (c.in_ok-function.ensures.found _ i.0) i.1),
    )

pub returns : goal.returns
returns c = λ seen marks.
    let i = c.loop.invariant seen marks in
    is_done (function_at c.args.names.now) next_function c.loop.functions c.args.count c.loop.counter (seen_after seen (map (λ x. x.name) c.loop.functions)) c.loop.rest.now _ c.loop-test.false i.1
