-- Marks of temporaries, and that they are what is live at a point of a block.
use Rattle.std.specs.Prelude.{ℕ, ◌≡◌, Bool, true, false, Option, Some, None, List, map, slice_index_or}
use Rattle.pw_flow.specs.declared.flow.Op.{Op}
use Rattle.pw_flow.specs.declared.flow.Block.{Block}
use Rattle.pw_flow.specs.Outline.{Outline, act_of}
use Rattle.pw_flow.specs.Uses.{end_uses, successors}
use Rattle.pw_live.specs.Liveness.{is_live}

abbrev pub is_marked : List Bool → ℕ → Bool
is_marked live t = slice_index_or live t false

-- whether what an operation defines is marked, if it defines anything
abbrev pub is_needed_by : List Bool → Option ℕ → Bool
is_needed_by live (Some t) = is_marked live t
is_needed_by live None = true

-- what is live where these operations of a block follow
abbrev pub MarksLive : Outline → Block → List Op → List Bool → Type 0
MarksLive f b ops live = (t : ℕ) → is_marked live t ≡ is_live f t (map act_of ops) (end_uses b.end) (successors b.end)
