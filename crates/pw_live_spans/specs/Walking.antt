-- What a walk over the points of a function, from the last one back, has found so far.
use Rattle.std.specs.Prelude.{ℕ, ◌≡◌, ◌≤◌, ◌<◌, ◌⊎◌, Some, List, slice_get}
use Rattle.pw_live_spans.specs.Spans.{Covers}
use Rattle.pw_live_spans.specs.declared.walk.Walk.{Walk}

-- a temporary is live at the point where the walk stands, and so up to a point that is no longer in its span
abbrev pub IsOpenTo : Walk → ℕ → ℕ → Type 0
IsOpenTo w t end = slice_get w.ends.items t ≡ Some (Some end)

abbrev pub IsOpen : Walk → ℕ → Type 0
IsOpen w t = (end : ℕ) × IsOpenTo w t end

-- a point is in a span that has been closed, or in the one that is open
pub record IsClosed (w : Walk) (t q : ℕ) : Type 0 where
  pub spans : List (ℕ × ℕ)
  pub at : slice_get w.lists.items t ≡ Some spans
  pub covers : Covers spans q

pub record IsAhead (w : Walk) (t q : ℕ) : Type 0 where
  pub end : ℕ
  pub opens : IsOpenTo w t end
  pub low : w.place ≤ q
  pub high : q < end

abbrev pub Marked : Walk → ℕ → ℕ → Type 0
Marked w t q = IsClosed w t q ⊎ IsAhead w t q
