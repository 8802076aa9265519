-- Rewriting a function by what is known at each of its points: of each block its operations, each by what is known before
-- it, and its end. Blocks, temporaries and slots stay.
use Rattle.std.specs.Prelude.{◌≡◌, List, [], ◌∷◌}
use Rattle.pw_flow.specs.declared.flow.Op.{Op}
use Rattle.pw_flow.specs.declared.flow.End.{End}
use Rattle.pw_flow.specs.declared.flow.Block.{Block}
use Rattle.pw_flow.specs.declared.flow.FlowFn.{FlowFn}
use Rattle.pw_opt_rules.specs.declared.flat.Flat.{Flat}
use Rattle.pw_opt_rules.specs.Rows.{behind, IsLeastSolution}

-- what an operation makes of what is known before it, and what becomes of an operation and of an end by that
pub record Rewriting : Type 0 where
  pub transfer : List Flat → Op → List Flat
  pub op : List Flat → Op → Op
  pub end : List Flat → End → End

abbrev pub rewritten_ops : Rewriting → List Flat → List Op → List Op
rewritten_ops w row [] = []
rewritten_ops w row (o ∷ ops) = w.op row o ∷ rewritten_ops w (w.transfer row o) ops

abbrev pub rewritten_block : Rewriting → List Flat → Block → Block
rewritten_block w row b =
    record { depth = b.depth; ops = rewritten_ops w row b.ops; end = w.end (behind w.transfer row b.ops) b.end }

abbrev pub rewritten_blocks : Rewriting → List (List Flat) → List Block → List Block
rewritten_blocks w rows [] = []
rewritten_blocks w [] (b ∷ blocks) = rewritten_block w [] b ∷ rewritten_blocks w [] blocks
rewritten_blocks w (row ∷ rows) (b ∷ blocks) = rewritten_block w row b ∷ rewritten_blocks w rows blocks

abbrev pub with_blocks : FlowFn → List Block → FlowFn
with_blocks f blocks = record f { blocks = blocks }

-- g is f rewritten by the least solution
pub record IsRewritten (w : Rewriting) (f g : FlowFn) : Type 0 where
  pub rows : List (List Flat)
  pub known : IsLeastSolution w.transfer f rows
  pub is : g ≡ with_blocks f (rewritten_blocks w rows f.blocks)
