-- What stands before a point: the temporary that the operation writes, and whether it calls.
use Rattle.std.specs.Prelude.{ℕ, ◌≡◌, Bool, true, Option, None, Some, List, slice_get}
use Rattle.pw_flow.specs.Outline.{Act}
use Rattle.pw_live.specs.Points.{Point, is_call}

abbrev pub made_by : Option Act → Option ℕ
made_by None = None
made_by (Some a) = a.defines

abbrev pub maker : Point → Option ℕ
maker p = made_by p.before

abbrev pub calls : Point → Bool
calls p = is_call p.before

-- a point stands behind a call that does not write the temporary
abbrev pub IsOverCall : List (Option ℕ) → List Bool → ℕ → ℕ → Type 0
IsOverCall makers calls t p = (slice_get calls p ≡ Some true) × ¬ (slice_get makers p ≡ Some (Some t))
