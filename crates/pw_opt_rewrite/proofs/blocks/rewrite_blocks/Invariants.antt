use Rattle.std.proofs.Common.{◌≡◌, ℕ, ◌≤◌, [], get_or, take}
use Rattle.pw_flow.specs.declared.flow.Block.{Block}
use Rattle.pw_opt_rules.specs.Rewriting.{rewritten_blocks}
use Rattle.pw_opt_rows.specs.Outflows.{all_rested}
use Rattle.pw_opt_rewrite.proofs.blocks.rewrite_blocks.Given as goal

abbrev pub invariant-loop-place : goal.invariant-loop-place
invariant-loop-place g l = record {
  blocks : take l.place l.blocks ≡ rewritten_blocks (g.R.Rewriting.rewriting l.rewriting) (all_rested l.places l.fn.fronts) (take l.place l.fn.blocks);
  rest : (j : ℕ) → l.place ≤ j → get_or l.fronts j ([], []) ≡ get_or l.fn.fronts j ([], []);
  others : (j : ℕ) (d : Block) → l.place ≤ j → get_or l.blocks j d ≡ get_or l.fn.blocks j d;
}
