use Rattle.std.proofs.Common.{◌≡◌, ◌++◌, map, Ok}
use Rattle.std.proofs.lemmas.Result.{err_from_is_err_and}
use Rattle.pw_fields.specs.FieldFaults.{Fails}
use Rattle.pw_fields.proofs.FieldLoops.{goes_on, ends, is_done}
use Rattle.pw_db_file.specs.Reading.{web_at, next_web}
use Rattle.pw_db_file.specs.Seen.{known_web}
use Rattle.pw_db_file.proofs.SeenLaws.{web_behind, one_more, webs_pushed, seen_more}
use Rattle.pw_db_file.proofs.reading.read_webs.Goals as goal

pub returns-in_err-known-clause-found : goal.returns-in_err-known-clause-found
returns-in_err-known-clause-found c =
    let p = err_from_is_err_and c.from_residual.result c.from_residual.ensures.1 in
    let earlier = map known_web c.args.before.webs.items in
    let ws = c.loop.webs in
    let h = web_behind (Fails c.in_err-known.field-0.0) c.args.names.now earlier (map known_web c.loop.seen.webs.items) ws c.as_slice.result.now c.loop.rest.now c.loop.invariant.seen c.as_slice.ensures c.in_err-known.ensures.found in
    rw (p.1, p.2) (ends (λ own. web_at c.args.names.now (earlier ++ own) own) next_web c.in_err-known.field-0.0 ws c.args.count c.loop.counter (map (λ w. w.0) ws) c.loop.rest.now _ c.loop-test.true h c.loop.invariant.found)

pub loop-preserved : goal.loop-preserved
loop-preserved c =
    let earlier = map known_web c.args.before.webs.items in
    let ws = c.loop.webs in
    let w = known_web c.in_ok-known.known in
    let role = c.in_ok-known.role in
    let after = c.in_ok-known.after.now in
    let h = web_behind (λ r. r ≡ Ok ((w, role), after)) c.args.names.now earlier (map known_web c.loop.seen.webs.items) ws c.as_slice.result.now c.loop.rest.now c.loop.invariant.seen c.as_slice.ensures c.in_ok-known.ensures.found in
    let pushed = one_more ws c.push.new.self c.in_ok-web.field-0 w role c.in_ok-push.ensures c.in_ok-web.ensures in
    let on = goes_on (λ own. web_at c.args.names.now (earlier ++ own) own) next_web ws c.args.count c.loop.counter (map (λ p. p.0) ws) c.loop.rest.now (w, role) after _ c.loop-test.true h c.loop.invariant.found in
    record {
      seen = seen_more earlier (map known_web c.loop.seen.webs.items) (map known_web c.in_ok-seen.seen.webs.items) ws c.push.new.self w role c.in_ok-seen.ensures c.loop.invariant.seen pushed;
      found = rw (pushed, webs_pushed ws w role) on;
    }

pub returns-clause-found : goal.returns-clause-found
returns-clause-found c =
    let earlier = map known_web c.args.before.webs.items in
    is_done (λ own. web_at c.args.names.now (earlier ++ own) own) next_web c.loop.webs c.args.count c.loop.counter (map (λ w. w.0) c.loop.webs) c.loop.rest.now _ c.loop-test.false c.loop.invariant.found
