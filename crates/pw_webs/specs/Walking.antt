-- Steps along rows of places, and what is found by them.
use Rattle.std.specs.Prelude.{ℕ, ◌≡◌, ◌<◌, ◌≤◌, ◌+◌, ◌-◌, ◌⊎◌, ◌↔◌, Some, List, length, Contains, slice_get}
use Rattle.pw_fix.specs.Row.{Holds, member_count}
use Rattle.pw_fix.specs.declared.bit_row.BitRow.{BitRow}
use Rattle.pw_fix.specs.Table.{HoldsAt}
use Rattle.pw_graph.specs.declared.graph.CallGraph.{CallGraph}
use Rattle.pw_graph.specs.declared.graph.RefSets.{RefSets}
use Rattle.pw_graph.specs.CallGraph.{Calls, Path}
use Rattle.pw_webs.specs.declared.neighbours.Neighbours.{Neighbours}

-- the row of a has b
pub record Leads (rows : List (List ℕ)) (a b : ℕ) : Type 0 where
  pub row : List ℕ
  pub at : slice_get rows a ≡ Some row
  pub stands : Contains row b

-- each row leads to rows
abbrev pub AreSteps : List (List ℕ) → Type 0
AreSteps rows = (a b : ℕ) → Leads rows a b → b < length rows

-- at least one step leads from a to b
pub data Trail (rows : List (List ℕ)) : ℕ → ℕ → Type 0 where
  first : (a b : ℕ) → Leads rows a b → Trail rows a b
  next : (a b c : ℕ) → Trail rows a b → Leads rows b c → Trail rows a c

-- steps within a set lead from one of these to a
pub data Chain (rows : List (List ℕ)) (within from : BitRow) : ℕ → Type 0 where
  start : (a : ℕ) → Holds from a → Chain rows within from a
  step : (a b : ℕ) → Chain rows within from a → Leads rows a b → Holds within b → Chain rows within from b

-- the sets of references say that f refers to v, or stands between two that do
abbrev pub IsMarked : RefSets → ℕ → ℕ → Type 0
IsMarked sets f v = HoldsAt sets.l_ref f v ⊎ (HoldsAt sets.p_ref f v × HoldsAt sets.c_ref f v)

-- one of a set leads to f, by one step and by at least one
pub record IsNext (rows : List (List ℕ)) (from : BitRow) (f : ℕ) : Type 0 where
  pub place : ℕ
  pub is : Holds from place
  pub leads : Leads rows place f

pub record IsReached (rows : List (List ℕ)) (from : BitRow) (f : ℕ) : Type 0 where
  pub place : ℕ
  pub is : Holds from place
  pub trail : Trail rows place f

-- f is a caller of one of a set that has a caller in it
pub record IsOutside (callers : List (List ℕ)) (set : BitRow) (f : ℕ) : Type 0 where
  pub member : ℕ
  pub caller : ℕ
  pub is : Holds set member
  pub within : Holds set caller
  pub called : Leads callers member caller
  pub leads : Leads callers member f

-- the callees and the callers of each function, and both
pub record AreNeighbours (g : CallGraph) (beside : Neighbours) : Type 0 where
  pub callees : beside.callees.now ≡ g.calls
  pub callers : (a b : ℕ) → Leads beside.callers.items a b ↔ Calls g b a
  pub both : (a b : ℕ) → Leads beside.both.items a b ↔ (Calls g a b ⊎ Calls g b a)
  pub count_callers : length beside.callers.items ≡ length g.functions
  pub count_both : length beside.both.items ≡ length g.functions

-- f stands between two of a set
pub record IsBetween (g : CallGraph) (set : BitRow) (f : ℕ) : Type 0 where
  pub above : ℕ
  pub below : ℕ
  pub is_above : Holds set above
  pub is_below : Holds set below
  pub down : Path g above f
  pub up : Path g f below

-- steps within a set lead from one of it to a
pub data Part (rows : List (List ℕ)) (within : BitRow) (root : ℕ) : ℕ → Type 0 where
  alone : Holds within root → Part rows within root root
  beside : (a b : ℕ) → Part rows within root a → Leads rows a b → Holds within b → Part rows within root b

-- those of some members that have no caller in a set; each other one has a caller there
pub record AreEntries (callers : List (List ℕ)) (set : BitRow) (members : List ℕ) (entries : BitRow) : Type 0 where
  pub within : (f : ℕ) → Holds entries f → Contains members f
  pub entry : (f b : ℕ) → Holds entries f → Leads callers f b → ¬ Holds set b
  pub others : (f : ℕ) → Contains members f → Holds entries f ⊎ ((b : ℕ) × Leads callers f b × Holds set b)

-- ---- one row of a walk

-- what of a row stands within a set is found now, and waits where it was not; no more waits and is not found yet
-- than before
pub record IsVisit (row : List ℕ) (within old new : BitRow) (before after : List ℕ) : Type 0 where
  pub same : new.len ≡ old.len
  pub found : (b : ℕ) → Holds new b ↔ (Holds old b ⊎ (Contains row b × Holds within b))
  pub waits : (b : ℕ) → Holds new b → Holds old b ⊎ Contains after b
  pub kept : (b : ℕ) → Contains before b → Contains after b
  pub known : (b : ℕ) → Contains after b → Contains before b ⊎ Holds new b
  pub left : length after + (new.len - member_count new) ≤ length before + (old.len - member_count old)
