-- The points of a function: at the front of each block and behind each of its operations. Of a point one needs what is
-- left of its block, and the operation directly before it, where there is one.
use Rattle.std.specs.Prelude.{ℕ, Bool, false, Option, None, Some, List, [], ◌∷◌}
use Rattle.std.specs.List.{flat_map}
use Rattle.pw_flow.specs.Outline.{Act, Stretch, Outline}
use Rattle.pw_live.specs.Liveness.{is_that, is_live}

pub record Point : Type 0 where
  pub before : Option Act
  pub acts : List Act
  pub uses : List ℕ
  pub next : List ℕ

abbrev pub point_in : Stretch → Option Act → List Act → Point
point_in s before acts = record { before = before; acts = acts; uses = s.uses; next = s.next }

-- those behind each of the last operations of a block
abbrev pub points_behind : Stretch → List Act → List Point
points_behind s [] = []
points_behind s (a ∷ acts) = point_in s (Some a) acts ∷ points_behind s acts

abbrev pub points_in : Stretch → List Point
points_in s = point_in s None s.acts ∷ points_behind s s.acts

abbrev pub points : Outline → List Point
points f = flat_map points_in f.blocks

-- whether the temporary is live there, whether the operation before writes it, and whether that is a call
abbrev pub lives : Outline → ℕ → Point → Bool
lives f t p = is_live f t p.acts p.uses p.next

abbrev pub writes : Option Act → ℕ → Bool
writes None t = false
writes (Some a) t = is_that a.defines t

abbrev pub is_call : Option Act → Bool
is_call None = false
is_call (Some a) = a.calls
