-- What is known of temporaries, at the points of spans and behind definitions.
use Rattle.std.proofs.Common.{◌≡◌, ◌<◌, ℕ, List, length, map, arith}
use Rattle.std.specs.Prelude.{Some, slice_get, All}
use Rattle.std.proofs.lemmas.List.{length-map}
use Rattle.std.proofs.lemmas.List.Elements.{Contains-get_or}
use Rattle.std.proofs.lemmas.Option.{slice_get_within}
use Rattle.pw_flow.specs.Outline.{Outline}
use Rattle.pw_live.specs.Points.{points}
use Rattle.pw_live_held.specs.Makers.{maker}
use Rattle.pw_alloc_taken.specs.Knowing.{AreFacts}
use Rattle.pw_alloc_taken.specs.declared.facts.Facts.{Facts}

-- the points behind definitions are points
pub defined_points : (f : Outline) (v : Facts) (t n : ℕ) (row : List ℕ) → AreFacts f v → n ≡ length (points f) → slice_get v.definitions.items t ≡ Some row → All (λ p. p < n) row
defined_points f v t n row known size at = λ k d lt.
    let low = slice_get_within (map maker (points f)) _ (Some t) ((known.definitions t _ row at).0 (Contains-get_or row k d lt)) in
    let long = length-map (points f) maker in
    omega (arith, low, long, size)
