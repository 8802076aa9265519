use Rattle.pw_opt_rows.specs.Seeing.{seen_by}
use Rattle.pw_opt_rewrite.proofs.blocks.rewrite_op.Goals as goal

pub returns-clause-op : goal.returns-clause-op
returns-clause-op g c = c.put.ensures ((g.R.Rewriting.rewriting c.args.rewriting.now).op (seen_by c.args.view.now c.args.row.now) c.args.op.now) c.in_ok-new.ensures
