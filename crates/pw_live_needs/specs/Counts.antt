-- Temporaries that are counted at points, one behind the other: a mark tells of each point which one was counted last.
use Rattle.std.specs.Prelude.{ℕ, ◌≡◌, ◌≤◌, ◌+◌, ◌==◌, if◌then◌else◌, max, Some, List, [], ◌∷◌, length, slice_get, slice_index}
use Rattle.std.specs.List.{count_by, range_with_len}
use Rattle.pw_flow.specs.Outline.{Outline}
use Rattle.pw_live.specs.Points.{Point, points}
use Rattle.pw_live_needs.specs.Needs.{is_short}
use Rattle.pw_live_needs.specs.declared.counting.Counting.{Counting}

-- what is counted at a point once this mark is there
abbrev pub full : Counting → ℕ → ℕ → ℕ
full v mark q = slice_index v.counts.items q + (if slice_index v.marks.items q == mark then 0 else 1)

-- a count and a mark for each of so many points
pub record AreCounts (points : ℕ) (v : Counting) : Type 0 where
  pub counts : length v.counts.items ≡ points
  pub marks : length v.marks.items ≡ points

-- at some point so many are counted, or more
abbrev pub IsReached : ℕ → Counting → Type 0
IsReached n v = (q : ℕ) × (n ≤ slice_index v.counts.items q)

-- so many temporaries have been counted
pub record IsCounted (f : Outline) (temps : ℕ) (v : Counting) : Type 0 where
  pub sized : AreCounts (length (points f)) v
  pub each : (q : ℕ) (p : Point) → slice_get (points f) q ≡ Some p → slice_index v.counts.items q ≡ count_by (is_short f p) (range_with_len 0 temps)
  pub low : (q : ℕ) → slice_index v.counts.items q ≤ temps
  pub marked : (q : ℕ) → slice_index v.marks.items q ≤ temps

abbrev pub greatest : List ℕ → ℕ
greatest [] = 0
greatest (n ∷ ns) = max n (greatest ns)
