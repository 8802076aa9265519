-- What flows backward through a function: a node needs what it uses first, and what nodes behind it need and it does not
-- define.
use Rattle.std.specs.Prelude.{ℕ, ◌≡◌, ◌-◌, ◌⊎◌, ◌↔◌, List, Some, length, slice_get, Contains}
use Rattle.std.proofs.Common.{inl, inr}
use Rattle.pw_fix.specs.Row.{Holds, IsSubset}
use Rattle.pw_fix.specs.Solution.{HasEdge}
use Rattle.pw_fix.specs.declared.bit_row.BitRow.{BitRow}
use Rattle.pw_flow.specs.Outline.{Stretch, Outline}

-- what a row becomes at a node
abbrev pub IsNeededRow : (ℕ → Type 0) → (ℕ → Type 0) → BitRow → BitRow → Type 0
IsNeededRow Gen Kill x y = (i : ℕ) → Holds y i ↔ (Gen i ⊎ (Holds x i × ¬ Kill i))

pub needing_monotone : (Gen Kill : ℕ → Type 0) (x y a b : BitRow) → IsSubset x y → IsNeededRow Gen Kill x a → IsNeededRow Gen Kill y b → IsSubset a b
needing_monotone Gen Kill x y a b sub ga gb i h = (gb i).1 (elim ((ga i).0 h) [ inl k ↦ inl k | inr k ↦ inr (sub i k.0, k.1) ])

-- Where a number is needed. Edges go from the node behind to the node before.
pub data Needed (edges : List (ℕ × ℕ)) (Gen Kill : ℕ → ℕ → Type 0) (v : ℕ) : ℕ → Type 0 where
  itself : (n : ℕ) → Gen n v → Needed edges Gen Kill v n
  behind : (n m : ℕ) → HasEdge edges m n → ¬ Kill n v → Needed edges Gen Kill v m → Needed edges Gen Kill v n

-- ---- blocks as nodes

-- Nodes are numbered from the last block on, so that what flows backward comes first.
abbrev pub node_of : Outline → ℕ → ℕ
node_of f b = length f.blocks - 1 - b

-- one edge for each way on from one block to another
pub record IsEdge (f : Outline) (m n : ℕ) : Type 0 where
  pub before : ℕ
  pub after : ℕ
  pub block : Stretch
  pub at : slice_get f.blocks before ≡ Some block
  pub goes : Contains block.next after
  pub from : m ≡ node_of f after
  pub to : n ≡ node_of f before
