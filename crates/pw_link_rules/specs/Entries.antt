-- What the tests look at: the names of all modules in one list, sorted, and two places of it.
use Rattle.std.specs.Prelude.{ℕ, ◌≡◌, ◌≢◌, ◌<◌, ◌≤◌, Bool, false, Some, List, length, slice_get}
use Rattle.std.specs.Ordering.{nat_cmp, is_lt, ordering_then}
use Rattle.std.specs.Cmp.Lexicographic.{slice_cmp}
use Rattle.pw_value.specs.ProgramNames.{IsOrdinary}
use Rattle.pw_value.specs.Shapes.{Agree}
use Rattle.pw_link_rules.specs.declared.names.Defined.{Defined}
use Rattle.pw_link_rules.specs.declared.names.Declared.{Declared}

-- a name with its module, and with its shape there
abbrev pub definition : Defined → List ℕ × List ℕ
definition d = (d.name.now, d.module.now)

abbrev pub declaration : Declared → List ℕ × List ℕ × List ℕ
declaration d = (d.name.now, d.module.now, d.shape.now)

-- one stands before another: its name does, or the names are one and its module does
abbrev pub stands_before : List ℕ × List ℕ → List ℕ × List ℕ → Bool
stands_before a b = is_lt (ordering_then (slice_cmp nat_cmp a.0 b.0) (slice_cmp nat_cmp a.1 b.1))

abbrev pub key : List ℕ × List ℕ × List ℕ → List ℕ × List ℕ
key d = (d.0, d.1)

-- ---- what is wrong with two of them

abbrev pub IsAgain : List ℕ × List ℕ → List ℕ × List ℕ → Type 0
IsAgain a b = IsOrdinary a.0 × (a.0 ≡ b.0)

abbrev pub Clash : List ℕ × List ℕ × List ℕ → List ℕ × List ℕ × List ℕ → Type 0
Clash a b = IsOrdinary a.0 × (a.0 ≡ b.0) × (¬ Agree a.2 b.2)

-- ---- two places, the earlier one first, with what stands there

pub record Two {X : Type 0} (Wrong : X → X → Type 0) (xs : List X) (i j : ℕ) : Type 0 where
  pub low : X
  pub high : X
  pub rise : i < j
  pub at_low : slice_get xs i ≡ Some low
  pub at_high : slice_get xs j ≡ Some high
  pub wrong : Wrong low high

-- something is wrong with the two, with none whose first stands before theirs, and with none whose first has
-- the name and the module of theirs and that end sooner
pub record AreFirst {X : Type 0} (pair : X → List ℕ × List ℕ) (Wrong : X → X → Type 0) (xs : List X) (i j : ℕ) : Type 0 where
  pub two : Two Wrong xs i j
  pub sooner : (a b : ℕ) (other : Two Wrong xs a b) → stands_before (pair other.low) (pair two.low) ≡ false
  pub ends : (a b : ℕ) (other : Two Wrong xs a b) → pair other.low ≡ pair two.low → j ≤ b

abbrev pub AreNone : {X : Type 0} → (X → X → Type 0) → List X → Type 0
AreNone Wrong xs = (i j : ℕ) → ¬ Two Wrong xs i j

-- something is wrong with the two, and with none that begin at the same place and end sooner
pub record IsNext {X : Type 0} (Wrong : X → X → Type 0) (xs : List X) (i j : ℕ) : Type 0 where
  pub two : Two Wrong xs i j
  pub next : (k : ℕ) → Two Wrong xs i k → j ≤ k

-- what stands from one place up to another has one name and one module, and what stands behind has not
pub record IsRun {X : Type 0} (pair : X → List ℕ × List ℕ) (xs : List X) (i stop : ℕ) : Type 0 where
  pub some : i < stop
  pub within : stop ≤ length xs
  pub same : (k : ℕ) (a b : X) → i ≤ k → k < stop → slice_get xs i ≡ Some a → slice_get xs k ≡ Some b → pair a ≡ pair b
  pub ends : (a b : X) → slice_get xs i ≡ Some a → slice_get xs stop ≡ Some b → pair a ≢ pair b

-- of the two that begin from i on, before k, and at the name and the module of what stands at i, these end first
pub record IsSoonest (ds : List (List ℕ × List ℕ × List ℕ)) (i k at best : ℕ) : Type 0 where
  pub first : List ℕ × List ℕ × List ℕ
  pub at_first : slice_get ds i ≡ Some first
  pub two : Two Clash ds at best
  pub same : key two.low ≡ key first
  pub least : (a b : ℕ) → i ≤ a → a < k → Two Clash ds a b → best ≤ b
