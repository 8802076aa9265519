use Rattle.std.proofs.Common.{◌≡◌, take}
use Rattle.pw_opt_rules.specs.Rows.{behind}
use Rattle.pw_opt_rows.specs.Joins.{HasWhatMay}
use Rattle.pw_opt_rows.specs.Seeing.{IsRowOf, seen_by}
use Rattle.pw_opt_rows.proofs.fronts.follow_all.Given as goal

abbrev pub invariant-loop-op : goal.invariant-loop-op
invariant-loop-op g l = record {
  behind : seen_by l.view l.row ≡ behind (g.R.Rewriting.rewriting l.rewriting).transfer (seen_by l.view l.fn.row) (take l.op-index l.ops);
  row : IsRowOf l.view.places.now l.row;
  may : HasWhatMay (g.R.Rewriting.may l.rewriting) (seen_by l.view l.row);
}
