-- The calls before points: of each point the last one up to there.
use Rattle.std.specs.Prelude.{ℕ, ◌≡◌, ◌+◌, ◌≤◌, ◌<◌, Bool, true, Option, None, Some, List, length, map, slice_get}
use Rattle.pw_flow.specs.Outline.{Outline}
use Rattle.pw_live.specs.Points.{points}
use Rattle.pw_live_held.specs.Makers.{calls}

abbrev pub IsCall : List Bool → ℕ → Type 0
IsCall calls p = slice_get calls p ≡ Some true

-- of the points from one up to another this is the last one that stands behind a call, or none does
abbrev pub IsLastCall : List Bool → ℕ → ℕ → Option ℕ → Type 0
IsLastCall calls from to None = (q : ℕ) → from ≤ q → q < to → ¬ IsCall calls q
IsLastCall calls from to (Some p) = (from ≤ p) × (p < to) × IsCall calls p × ((q : ℕ) → p < q → q < to → ¬ IsCall calls q)

-- of each point the last one up to it
pub record AreLastCalls (calls : List Bool) (lasts : List (Option ℕ)) : Type 0 where
  pub long : length lasts ≡ length calls
  pub each : (p : ℕ) (last : Option ℕ) → slice_get lasts p ≡ Some last → IsLastCall calls 0 (p + 1) last

-- those of a function
abbrev pub AreCallsOf : Outline → List (Option ℕ) → Type 0
AreCallsOf f lasts = AreLastCalls (map calls (points f)) lasts
