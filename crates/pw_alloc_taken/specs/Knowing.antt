-- What is known of temporaries before they get registers, and while they get them.
use Rattle.std.specs.Prelude.{ℕ, ◌≡◌, ◌<◌, ◌↔◌, Some, List, length, map, slice_get, slice_index, vec_len, Contains}
use Rattle.pw_flow.specs.Outline.{Outline}
use Rattle.pw_live.specs.Points.{points}
use Rattle.pw_live_spans.specs.LivePoints.{LivesFrom}
use Rattle.pw_live_held.specs.Makers.{maker}
use Rattle.pw_live_held.specs.IsLiveness.{IsLiveness}
use Rattle.pw_alloc_masks.specs.Masks.{HasRegister}
use Rattle.pw_alloc_masks.specs.Sets.{AreSets, HasAt}
use Rattle.pw_alloc_temps.specs.Registers.{register_of}
use Rattle.pw_alloc_taken.specs.declared.facts.Facts.{Facts}
use Rattle.pw_alloc_taken.specs.declared.given.Given.{Given}

-- a temporary is written directly before a point
abbrev pub IsMade : Outline → ℕ → ℕ → Type 0
IsMade f p t = slice_get (map maker (points f)) p ≡ Some (Some t)

pub record AreFacts (f : Outline) (v : Facts) : Type 0 where
  pub liveness : IsLiveness f v.liveness
  pub count : vec_len v.definitions ≡ f.temps
  pub definitions : (t p : ℕ) (row : List ℕ) → slice_get v.definitions.items t ≡ Some row → Contains row p ↔ IsMade f p t

-- there is a place for each temporary and for each point
pub record AreSized (f : Outline) (v : Given) : Type 0 where
  pub temps : vec_len v.registers ≡ f.temps
  pub sets : AreSets v.made
  pub made : v.made.points ≡ length (points f)
  pub points : vec_len v.occupied ≡ length (points f)

-- what has been given to temporaries is a list of them with their registers, each once
pub record AreGiven (f : Outline) (given : List (ℕ × ℕ)) (v : Given) : Type 0 where
  pub once : (t r : ℕ) → Contains given (t, r) → register_of given t ≡ Some r
  pub registers : (t : ℕ) → t < f.temps → slice_get v.registers.items t ≡ Some (register_of given t)
  pub occupied : (p r : ℕ) → HasRegister (slice_index v.occupied.items p) r ↔ ((t : ℕ) × (register_of given t ≡ Some r) × LivesFrom f 0 t p)
  pub made : (p r : ℕ) → HasAt v.made p r ↔ ((t : ℕ) × (register_of given t ≡ Some r) × IsMade f p t)
  pub params : (r : ℕ) → HasRegister v.params r ↔ ((t : ℕ) × (t < f.params) × (register_of given t ≡ Some r))
