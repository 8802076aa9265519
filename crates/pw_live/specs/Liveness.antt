-- Liveness: where a temporary is needed. It is live at a point where some path leads from there to a use of it with no
-- definition of it before. A point is what is left of a block: operations, what the end of the block uses, and the
-- blocks at which it may go on.
use Rattle.std.specs.Prelude.{ℕ, zero, suc, ◌≡◌, ◌≢◌, ◌==◌, ◌&&◌, ◌||◌, not, Bool, false, Option, None, Some, List, [], ◌∷◌, length, slice_get, Contains}
use Rattle.std.specs.List.{list_any}
use Rattle.pw_flow.specs.Outline.{Act, Stretch, Outline}

-- ---- by paths of any length

pub data Live (f : Outline) (t : ℕ) : List Act → List ℕ → List ℕ → Type 0 where
  used : (a : Act) (acts : List Act) (uses next : List ℕ) → Contains a.uses t → Live f t (a ∷ acts) uses next
  past : (a : Act) (acts : List Act) (uses next : List ℕ) → a.defines ≢ Some t → Live f t acts uses next → Live f t (a ∷ acts) uses next
  at_end : (uses next : List ℕ) → Contains uses t → Live f t [] uses next
  on : (uses next : List ℕ) (b : ℕ) (block : Stretch) → Contains next b → slice_get f.blocks b ≡ Some block
      → Live f t block.acts block.uses block.next → Live f t [] uses next

-- ---- by paths through no more blocks than there are

-- whether a number is one of a list, and whether it is the one that there may be
abbrev pub has : ℕ → List ℕ → Bool
has t ts = list_any (λ u. u == t) ts

abbrev pub is_that : Option ℕ → ℕ → Bool
is_that None t = false
is_that (Some d) t = d == t

-- whether the temporary is needed at a point, where it is known whether it is at the front of each block
abbrev pub needs : (ℕ → Bool) → ℕ → List Act → List ℕ → List ℕ → Bool
needs front t [] uses next = has t uses || list_any front next
needs front t (a ∷ acts) uses next = has t a.uses || (not (is_that a.defines t) && needs front t acts uses next)

abbrev pub needs_block : (ℕ → Bool) → ℕ → Option Stretch → Bool
needs_block front t None = false
needs_block front t (Some s) = needs front t s.acts s.uses s.next

-- whether some path from the front of a block, through at most so many blocks, leads to a use of the temporary with no
-- definition of it before
abbrev pub at_front : ℕ → Outline → ℕ → ℕ → Bool
at_front zero f t b = false
at_front (suc more) f t b = needs_block (at_front more f t) t (slice_get f.blocks b)

-- whether it is live at the front of a block, and at a point
abbrev pub is_live_in : Outline → ℕ → ℕ → Bool
is_live_in f t b = at_front (length f.blocks) f t b

abbrev pub is_live : Outline → ℕ → List Act → List ℕ → List ℕ → Bool
is_live f t acts uses next = needs (is_live_in f t) t acts uses next
