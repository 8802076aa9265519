-- What stays of the code of a function while more of it is made.
use Rattle.std.specs.Prelude.{◌≡◌, ◌≤◌, ◌⊎◌, List, ◌∷◌, ◌++◌}
use Rattle.pw_flow.specs.declared.flow.Op.{Op}
use Rattle.pw_flow.specs.declared.flow.End.{End}
use Rattle.pw_lower.specs.declared.code.Code.{Code}
use Rattle.pw_lower.specs.declared.code.Numbered.{Numbered}

-- the block that was filled is still filled, behind the operations that it had
pub record IsStillFilled (c d : Code) : Type 0 where
  pub more : List Op
  pub ops : d.ops ≡ c.ops ++ more
  pub closed : d.closed ≡ c.closed
  pub cur : d.cur ≡ c.cur
  pub depth : d.depth ≡ c.depth

-- the block that was filled is the next that was closed, and begins with the operations that it had
pub record IsClosedNext (c d : Code) : Type 0 where
  pub more : List Op
  pub end : End
  pub rest : List Numbered
  pub closed : d.closed ≡ c.closed ++ record { number = c.cur; block = record { depth = c.depth; ops = c.ops ++ more; end = end } } ∷ rest

-- The later code d has what the code c has: the blocks that are closed, and the operations of the block that is
-- filled, in their places.
pub record Keeps (c d : Code) : Type 0 where
  pub filled : IsStillFilled c d ⊎ IsClosedNext c d
  pub blocks : c.blocks ≤ d.blocks
  pub temps : c.temps ≤ d.temps
