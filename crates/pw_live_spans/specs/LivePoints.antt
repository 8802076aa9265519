-- The points of a function by number, block by block, and where a temporary is live.
use Rattle.std.specs.Prelude.{ℕ, zero, suc, ◌≡◌, ◌≢◌, ◌+◌, ◌≤◌, ◌⊎◌, ◌↔◌, true, Some, List, [], ◌∷◌, length, drop, slice_get, Contains}
use Rattle.pw_flow.specs.Outline.{Act, Stretch, Outline}
use Rattle.pw_live.specs.Liveness.{is_live, is_live_in}
use Rattle.pw_live_spans.specs.Walking.{Marked, IsOpen}
use Rattle.pw_live_spans.specs.declared.walk.Walk.{Walk}

-- how many points stand before a block: each block has one for each operation and one for its end
abbrev pub points_before : List Stretch → ℕ → ℕ
points_before [] b = 0
points_before (s ∷ rest) zero = 0
points_before (s ∷ rest) (suc b) = length s.acts + 1 + points_before rest b

-- a point of a block, from an operation of it on, where the temporary is live
pub record LivesIn (f : Outline) (b : ℕ) (s : Stretch) (from t q : ℕ) : Type 0 where
  pub inside : ℕ
  pub low : from ≤ inside
  pub high : inside ≤ length s.acts
  pub is : q ≡ points_before f.blocks b + inside
  pub live : is_live f t (drop inside s.acts) s.uses s.next ≡ true

-- one of a block from some block on
pub record LivesFrom (f : Outline) (least t q : ℕ) : Type 0 where
  pub block : ℕ
  pub stretch : Stretch
  pub at : slice_get f.blocks block ≡ Some stretch
  pub low : least ≤ block
  pub in_block : LivesIn f block stretch 0 t q

-- a walk has come to the front of a block, and no span is open
pub record StandsBefore (f : Outline) (b : ℕ) (w : Walk) : Type 0 where
  pub place : w.place ≡ points_before f.blocks b
  pub marked : (t q : ℕ) → Marked w t q ↔ LivesFrom f b t q
  pub shut : (t : ℕ) → ¬ IsOpen w t

-- it has come to an operation of a block, or to its end
pub record StandsInside (f : Outline) (b : ℕ) (s : Stretch) (inside : ℕ) (w : Walk) : Type 0 where
  pub place : w.place ≡ points_before f.blocks b + inside
  pub marked : (t q : ℕ) → Marked w t q ↔ (LivesFrom f (b + 1) t q ⊎ LivesIn f b s inside t q)
  pub opens : (t : ℕ) → IsOpen w t ↔ (is_live f t (drop inside s.acts) s.uses s.next ≡ true)

-- it is live at the front of one of the blocks
abbrev pub IsLiveAtOne : Outline → ℕ → List ℕ → Type 0
IsLiveAtOne f t next = (b : ℕ) × Contains next b × (is_live_in f t b ≡ true)

-- it is live before an operation, where it is told what is live behind it
abbrev pub IsLiveBefore : Act → (ℕ → Type 0) → ℕ → Type 0
IsLiveBefore a Behind t = Contains a.uses t ⊎ (Behind t × (a.defines ≢ Some t))
