use Rattle.std.proofs.Common.{◌≡◌, ◌∙◌, true, sym, ap, subst}
use Rattle.pw_opt_places.specs.Places.{DefinesAtHome}
use Rattle.pw_opt_rows.specs.Joins.{HasWhatMay}
use Rattle.pw_opt_rows.specs.Seeing.{seen_by}
use Rattle.pw_opt_rows.proofs.Steps.{behind_more}
use Rattle.pw_opt_rows.proofs.fronts.follow_all.Goals as goal

pub follow-requires-clause-home : goal.follow-requires-clause-home
follow-requires-clause-home g c =
    let v = c.args.view.now in
    let o = c.op-item.result in
    subst (DefinesAtHome v.places.now.places.items v.block) (sym c.op-item.is) (c.requires.home c.loop-op.op-index o c.loop-op-test.true)

pub loop-op-preserved : goal.loop-op-preserved
loop-op-preserved g c =
    let r = c.args.rewriting.now in
    let v = c.args.view.now in
    let w = g.R.Rewriting.rewriting r in
    let o = c.op-item.result in
    let inv = c.loop-op.invariant in
    let about : g.R.Rewriting.is_about r o ≡ true = subst (λ x. g.R.Rewriting.is_about r x ≡ true) (sym c.op-item.is) (c.requires.about c.loop-op.op-index o c.loop-op-test.true) in
    record {
      behind = c.follow.ensures.seen ∙ ap (λ row. w.transfer row o) inv.behind
          ∙ sym (behind_more w.transfer (seen_by v c.args.row.now) c.args.ops.now c.loop-op.op-index o c.loop-op-test.true (sym c.op-item.is));
      row = c.follow.ensures.row;
      may = subst (HasWhatMay (g.R.Rewriting.may r)) (sym c.follow.ensures.seen) (g.met.R.Rewriting.keeps r (seen_by v c.loop-op.row) o about inv.may);
    }
