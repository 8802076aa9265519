-- Sets of registers of points, as a tree: those of the points stand behind as many places, and at each of these but the first
-- one stands what is at twice its number and at the place behind that, together.
use Rattle.std.specs.Prelude.{ℕ, ◌≡◌, ◌+◌, ◌^◌, ◌≤◌, ◌<◌, ◌⊎◌, ◌↔◌, List, length, slice_index}
use Rattle.pw_alloc_masks.specs.Masks.{HasRegister}
use Rattle.pw_alloc_masks.specs.declared.sets.PointSets.{PointSets}

abbrev pub HasPlace : List ℕ → ℕ → ℕ → Type 0
HasPlace masks i r = HasRegister (slice_index masks i) r

-- one of the two places below one has a register
abbrev pub HasBelow : List ℕ → ℕ → ℕ → Type 0
HasBelow masks i r = HasPlace masks (i + i) r ⊎ HasPlace masks (i + i + 1) r

-- one of the places from one up to another has it
abbrev pub HasAmong : List ℕ → ℕ → ℕ → ℕ → Type 0
HasAmong masks from to r = (i : ℕ) × (from ≤ i) × (i < to) × HasPlace masks i r

pub record AreJoined (points : ℕ) (masks : List ℕ) : Type 0 where
  pub room : points + points < 2 ^ 64
  pub long : length masks ≡ points + points
  pub each : (i r : ℕ) → 0 < i → i < points → HasPlace masks i r ↔ HasBelow masks i r

-- the same, but that a register is missing at a place
abbrev pub AreJoinedBut : ℕ → ℕ → List ℕ → ℕ → Type 0
AreJoinedBut place missing masks points = (i r : ℕ) → 0 < i → i < points → (HasPlace masks i r ⊎ ((i ≡ place) × (r ≡ missing))) ↔ HasBelow masks i r

-- ---- of points

abbrev pub AreSets : PointSets → Type 0
AreSets v = AreJoined v.points v.masks.items

abbrev pub HasAt : PointSets → ℕ → ℕ → Type 0
HasAt v p r = HasPlace v.masks.items (v.points + p) r

-- one of the points from one up to another has a register
abbrev pub HasWithin : PointSets → ℕ → ℕ → ℕ → Type 0
HasWithin v from to r = (p : ℕ) × (from ≤ p) × (p < to) × HasAt v p r
