-- What is looked up of points in sets of registers.
use Rattle.std.specs.Prelude.{ℕ, List, slice_index, Contains}
use Rattle.pw_live_spans.specs.Spans.{Covers}
use Rattle.pw_alloc_masks.specs.Masks.{HasRegister}
use Rattle.pw_alloc_masks.specs.Sets.{HasAt}
use Rattle.pw_alloc_masks.specs.declared.sets.PointSets.{PointSets}

-- it is that of the temporary which is written before one of the points of spans
abbrev pub IsMadeBeside : PointSets → List (ℕ × ℕ) → ℕ → Type 0
IsMadeBeside made spans r = (p : ℕ) × Covers spans p × HasAt made p r

-- it is occupied at one of the points
abbrev pub IsOccupiedBehind : List ℕ → List ℕ → ℕ → Type 0
IsOccupiedBehind definitions occupied r = (p : ℕ) × Contains definitions p × HasRegister (slice_index occupied p) r
