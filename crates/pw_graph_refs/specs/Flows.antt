-- What flows along the calls of a program.
use Rattle.std.specs.Prelude.{ℕ, suc, ◌≡◌, ◌<◌, ◌⊎◌, ◌↔◌, Some, List, [], ◌∷◌, ◌++◌, map, All, Contains, slice_get}
use Rattle.std.proofs.Common.{inl, inr}
use Rattle.pw_fix.specs.Row.{Holds, IsSubset}
use Rattle.pw_fix.specs.Solution.{HasEdge}
use Rattle.pw_fix.specs.Table.{HoldsAt}
use Rattle.pw_fix.specs.declared.bit_row.BitRow.{BitRow}
use Rattle.pw_fix.specs.declared.bit_rows.BitRows.{BitRows}

-- a row makes of what flows in the union with its own
abbrev pub IsHanded : (ℕ → Type 0) → BitRow → BitRow → Type 0
IsHanded Own x y = (i : ℕ) → Holds y i ↔ (Holds x i ⊎ Own i)

pub handing_monotone : (Own : ℕ → Type 0) (x y a b : BitRow) → IsSubset x y → IsHanded Own x a → IsHanded Own y b → IsSubset a b
handing_monotone Own x y a b sub ga gb i h = (gb i).1 (elim ((ga i).0 h) [ inl k ↦ inl (sub i k) | inr k ↦ inr k ])

-- at least one edge leads from m to n
pub data Walk (edges : List (ℕ × ℕ)) : ℕ → ℕ → Type 0 where
  edge : (m n : ℕ) → HasEdge edges m n → Walk edges m n
  further : (m n k : ℕ) → Walk edges m n → HasEdge edges n k → Walk edges m k

-- the edges of rows, which are counted from here on
abbrev pub edges_of : ℕ → List ℕ → List (ℕ × ℕ)
edges_of from row = map (λ to. (from, to)) row

abbrev pub edges_from : ℕ → List (List ℕ) → List (ℕ × ℕ)
edges_from n [] = []
edges_from n (row ∷ rows) = edges_of n row ++ edges_from (suc n) rows

abbrev pub turned : List (ℕ × ℕ) → List (ℕ × ℕ)
turned edges = map (λ e. (e.1, e.0)) edges

abbrev pub AreWithin : ℕ → List (ℕ × ℕ) → Type 0
AreWithin nodes edges = All (λ e. (e.0 < nodes) × (e.1 < nodes)) edges

-- one of the globals of a row that have a weight
pub record IsMarked (refs : List (ℕ × ℕ × ℕ)) (v : ℕ) : Type 0 where
  pub reads : ℕ
  pub writes : ℕ
  pub stands : Contains refs (v, reads, writes)
  pub some : (0 < reads) ⊎ (0 < writes)

-- a node from which an edge leads to n has v in its row
pub record IsDelivered (edges : List (ℕ × ℕ)) (values : List BitRow) (n v : ℕ) : Type 0 where
  pub from : ℕ
  pub row : BitRow
  pub edge : Contains edges (from, n)
  pub at : slice_get values from ≡ Some row
  pub has : Holds row v

-- a node from which at least one edge leads to n has v
pub record FlowsTo (edges : List (ℕ × ℕ)) (own : BitRows) (n v : ℕ) : Type 0 where
  pub from : ℕ
  pub walk : Walk edges from n
  pub has : HoldsAt own from v
