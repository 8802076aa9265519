use Rattle.std.proofs.Common.{◌≡◌, ℕ, ◌≤◌, get_or, take}
use Rattle.pw_flow.specs.declared.flow.Op.{Op}
use Rattle.pw_opt_rules.specs.Rows.{behind}
use Rattle.pw_opt_rules.specs.Rewriting.{rewritten_ops}
use Rattle.pw_opt_rows.specs.Joins.{HasWhatMay}
use Rattle.pw_opt_rows.specs.Seeing.{IsRowOf, seen_by}
use Rattle.pw_opt_rewrite.proofs.blocks.rewrite_ops.Given as goal

abbrev pub invariant-loop-place : goal.invariant-loop-place
invariant-loop-place g l = let w = g.R.Rewriting.rewriting l.rewriting in record {
  ops : take l.place l.ops ≡ rewritten_ops w (seen_by l.view l.fn.row) (take l.place l.fn.ops);
  rest : (j : ℕ) (d : Op) → l.place ≤ j → get_or l.ops j d ≡ get_or l.fn.ops j d;
  behind : seen_by l.view l.row ≡ behind w.transfer (seen_by l.view l.fn.row) (take l.place l.fn.ops);
  row : IsRowOf l.view.places.now l.row;
  may : HasWhatMay (g.R.Rewriting.may l.rewriting) (seen_by l.view l.row);
}
