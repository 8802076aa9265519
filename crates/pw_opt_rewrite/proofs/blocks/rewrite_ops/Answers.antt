use Rattle.std.proofs.Common.{◌≡◌, ◌∙◌, ◌<◌, ◌+◌, true, List, length, get_or, take, set, sym, ap, subst, arith}
use Rattle.std.proofs.lemmas.List.{take_all, get_or_default}
use Rattle.pw_flow.specs.declared.flow.Op.{Op}
use Rattle.pw_opt_rules.specs.Rows.{behind}
use Rattle.pw_opt_rules.specs.Rewriting.{rewritten_ops}
use Rattle.pw_opt_places.specs.Places.{DefinesAtHome}
use Rattle.pw_opt_rows.specs.Joins.{HasWhatMay}
use Rattle.pw_opt_rows.specs.Seeing.{seen_by}
use Rattle.pw_opt_rewrite.proofs.Steps.{behind_now, ops_now, rest_now, take_set}
use Rattle.pw_opt_rewrite.proofs.blocks.rewrite_ops.Goals as goal

pub rewrite_op-requires-clause-about : goal.rewrite_op-requires-clause-about
rewrite_op-requires-clause-about g c =
    let i = c.loop-place.place in
    let x = c.index-ops-place.result in
    let o = get_or c.loop-place.ops i x in
    let is : o ≡ get_or c.args.ops.now i o = c.loop-place.invariant.rest i x (omega arith) ∙ get_or_default c.args.ops.now i x o c.loop-place-test.true in
    subst (λ x. g.R.Rewriting.is_about c.args.rewriting.now x ≡ true) (sym is) (c.requires.about i o c.loop-place-test.true)

pub rewrite_op-requires-clause-home : goal.rewrite_op-requires-clause-home
rewrite_op-requires-clause-home g c =
    let v = c.args.view.now in
    let i = c.loop-place.place in
    let x = c.index-ops-place.result in
    let o = get_or c.loop-place.ops i x in
    let is : o ≡ get_or c.args.ops.now i o = c.loop-place.invariant.rest i x (omega arith) ∙ get_or_default c.args.ops.now i x o c.loop-place-test.true in
    subst (DefinesAtHome v.places.now.places.items v.block) (sym is) (c.requires.home i o c.loop-place-test.true)

pub loop-place-preserved : goal.loop-place-preserved
loop-place-preserved g c =
    let r = c.args.rewriting.now in
    let v = c.args.view.now in
    let w = g.R.Rewriting.rewriting r in
    let i = c.loop-place.place in
    let ops = c.args.ops.now in
    let now = c.loop-place.ops in
    let x = c.index-ops-place.result in
    let o = get_or now i x in
    let made = c.rewrite_op.new.op in
    let row = seen_by v c.loop-place.row in
    let inv = c.loop-place.invariant in
    let lt = c.loop-place-test.true in
    let low : i < length now = let long = c.loop-place.auto.ops in omega (arith, lt, long) in
    let is : o ≡ get_or ops i o = inv.rest i x (omega arith) ∙ get_or_default ops i x o lt in
    let about : g.R.Rewriting.is_about r o ≡ true = subst (λ x. g.R.Rewriting.is_about r x ≡ true) (sym is) (c.requires.about i o lt) in
    let before = seen_by v c.args.row.now in
    let seen = c.in_ok-rewrite_op.ensures.behind in
    record {
      ops = ops_now w before ops i o lt is row made (take i now) (take (i + 1) (set now i made)) inv.behind c.in_ok-rewrite_op.ensures.op inv.ops (take_set now i made low);
      rest = λ j d. rest_now d ops now i made (λ k. inv.rest k d) j;
      behind = behind_now w.transfer before ops i o lt is row (seen_by v c.rewrite_op.new.row) inv.behind seen;
      row = c.in_ok-rewrite_op.ensures.row;
      may = subst (HasWhatMay (g.R.Rewriting.may r)) (sym seen) (g.met.R.Rewriting.keeps r row o about inv.may);
    }

pub returns-clause-ops : goal.returns-clause-ops
returns-clause-ops g c =
    let w = g.R.Rewriting.rewriting c.args.rewriting.now in
    let ops = c.args.ops.now in
    let now = c.loop-place.ops in
    let i = c.loop-place.place in
    let done = c.loop-place-test.false in
    sym (take_all i now (let long = c.loop-place.auto.ops in omega (arith, done, long))) ∙ c.loop-place.invariant.ops
    ∙ ap (λ (xs : List Op). rewritten_ops w (seen_by c.args.view.now c.args.row.now) xs) (take_all i ops done)

pub returns-clause-behind : goal.returns-clause-behind
returns-clause-behind g c =
    let w = g.R.Rewriting.rewriting c.args.rewriting.now in
    c.loop-place.invariant.behind ∙ ap (λ (xs : List Op). behind w.transfer (seen_by c.args.view.now c.args.row.now) xs) (take_all c.loop-place.place c.args.ops.now c.loop-place-test.false)
