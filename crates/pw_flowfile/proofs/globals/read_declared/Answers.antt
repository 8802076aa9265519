use Rattle.std.proofs.Common.{◌≡◌, ◌++◌, ◌∷◌, [], map, ap, ◌∙◌}
use Rattle.std.proofs.lemmas.Result.{err_from_is_err_and}
use Rattle.std.proofs.lemmas.List.{map_push}
use Rattle.pw_fields.proofs.FieldLoops.{goes_on, ends, is_done}
use Rattle.pw_flowfile.specs.Reading.{declared_at, next_declared, seen_after}
use Rattle.pw_flowfile.proofs.MarkLaws.{seen_more}
use Rattle.pw_flowfile.proofs.globals.read_declared.Goals as goal

pub returns-in_err-declaration : goal.returns-in_err-declaration
returns-in_err-declaration c = λ seen marks.
    let i = c.loop.invariant seen marks in
    let p = err_from_is_err_and c.from_residual.result c.from_residual.ensures.1 in
    rw (p.1, p.2) (ends (declared_at c.args.names.now) next_declared c.in_err-declaration.field-0.0 c.loop.declared c.args.count c.loop.counter (seen_after seen (map (λ x. x.0) c.loop.declared)) c.loop.rest.now _ c.loop-test.true (c.in_err-declaration.ensures.found _ i.0) i.1)

pub loop-preserved : goal.loop-preserved
loop-preserved c = λ seen marks.
    let i = c.loop.invariant seen marks in
    let declaration = c.in_ok-declaration.declaration in
    let more = c.in_ok-push.ensures in
    let named : map (λ x. x.0) c.push.new.self ≡ map (λ x. x.0) c.loop.declared ++ declaration.0 ∷ [] = rw c.in_ok-push.ensures (map_push _ c.loop.declared declaration) in
    let state : seen_after seen (map (λ x. x.0) c.push.new.self) ≡ declaration.0 ∷ seen_after seen (map (λ x. x.0) c.loop.declared) = ap (seen_after seen) named ∙ seen_more seen (map (λ x. x.0) c.loop.declared) declaration.0 in (
      rw state (c.in_ok-declaration.ensures.marked _ c.requires.rising i.0),
      rw (state, more) (goes_on (declared_at c.args.names.now) next_declared c.loop.declared c.args.count c.loop.counter (seen_after seen (map (λ x. x.0) c.loop.declared)) c.loop.rest.now declaration c.in_ok-declaration.after.now _ c.loop-test.true (c.in_ok-declaration.ensures.found _ i.0) i.1),
    )

pub returns : goal.returns
returns c = λ seen marks.
    let i = c.loop.invariant seen marks in
    is_done (declared_at c.args.names.now) next_declared c.loop.declared c.args.count c.loop.counter (seen_after seen (map (λ x. x.0) c.loop.declared)) c.loop.rest.now _ c.loop-test.false i.1
