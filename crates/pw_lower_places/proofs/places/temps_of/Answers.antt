use Rattle.std.proofs.Common.{◌≡◌, ◌≤◌, ◌^◌, rules, arith}
use Rattle.std.proofs.lemmas.Result.{MatchResult-from_err}
use Rattle.pw_lower.specs.Places.{temps_from}
use Rattle.pw_lower_places.proofs.PlacingLaws.{temps_counted}
use Rattle.pw_lower_places.proofs.places.temps_of.Goals as goal

pub returns-in_err-temps : goal.returns-in_err-temps
returns-in_err-temps c =
    let total = temps_from c.args.params c.args.places.now in
    MatchResult-from_err c.from_residual.result (λ n. n ≡ total) (λ _. 2 ^ 32 ≤ total) (search rules)
    (λ _. temps_counted _ c.loop-place.place-index c.in-Temp.temp c.loop-place.temps _ c.args.places.now _ c.loop-place-test.true c.in-Temp.is (omega arith) c.in_err-temps.ensures c.loop-place.invariant)
