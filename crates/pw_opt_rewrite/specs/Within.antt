-- A function rewritten by what is known in it, by rows in which each temporary has no one thing but what it may have.
use Rattle.std.specs.Prelude.{ℕ, ◌≡◌, Bool, List, All}
use Rattle.pw_flow.specs.declared.flow.FlowFn.{FlowFn}
use Rattle.pw_opt_rules.specs.declared.flat.Flat.{Flat}
use Rattle.pw_opt_rules.specs.Rewriting.{Rewriting, IsRewritten, rewritten_blocks, with_blocks}
use Rattle.pw_opt_rows.specs.Joins.{HasWhatMay}

pub record IsRewrittenWithin (w : Rewriting) (may : ℕ → ℕ → Bool) (f g : FlowFn) : Type 0 where
  pub rewritten : IsRewritten w f g
  pub rows : List (List Flat)
  pub own : All (HasWhatMay may) rows
  pub is : g ≡ with_blocks f (rewritten_blocks w rows f.blocks)
