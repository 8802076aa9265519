use Rattle.std.proofs.Common.{◌≡◌, ◌<◌, ◌≤◌, ◌+◌, ◌∙◌, length, get_or, refl, sym, ap, subst, arith}
use Rattle.std.specs.Bool.{OnTrue, OnFalse}
use Rattle.std.proofs.lemmas.List.{get_or_default}
use Rattle.pw_fix.proofs.Choices.{OnTrue-then}
use Rattle.pw_opt_rules.specs.declared.flat.Flat.TheVariants.{Bottom, Many}
use Rattle.pw_opt_rules.specs.Rows.{known}
use Rattle.pw_opt_rows.specs.Joins.{joined, flat_rank}
use Rattle.pw_opt_rows.proofs.Joining.{IsJoinedBelow, HasRisen, joined_none, joined_set, joined_stay, joined_stays, risen_set, joined_all, joined_rises}
use Rattle.pw_opt_rows.proofs.row.join_rows.Goals as goal
use Rattle.pw_opt_rows.proofs.row.join_rows.Goals.{then-before-after, else-before-after}

pub loop-t-init : goal.loop-t-init
loop-t-init c = record { joined = joined_none c.args.into.now c.args.from.now; risen = tt; stays = refl }

pub loop-t-preserved : goal.loop-t-preserved
loop-t-preserved c =
    let xs = c.args.into.now in
    let ys = c.args.from.now in
    let zs = c.loop-t.into in
    let t = c.loop-t.t in
    let new = c.join_flats-new.result in
    let inv = c.loop-t.invariant in
    let long : length zs ≡ length xs = c.loop-t.auto.into in
    let lt : t < length zs = let low : t < length xs = c.loop-t-test.true in omega (arith, low, long) in
    let here : get_or zs t Bottom ≡ known zs t = get_or_default zs t Bottom Many lt in
    let there : get_or ys t Bottom ≡ known ys t = get_or_default ys t Bottom Many (let same = c.requires in omega (arith, lt, long, same)) in
    let is : new ≡ joined (known zs t) (known ys t) = c.join_flats-new.ensures ∙ ap (λ x. joined x (get_or ys t Bottom)) here ∙ ap (joined (known zs t)) there in
    let before : c.rank_of-before.result ≡ flat_rank (known zs t) = c.rank_of-before.ensures ∙ ap flat_rank here in
    let after = c.rank_of-after.ensures in
    elim c.if-before-after.branch [
      | then-before-after w ↦
          let up : flat_rank (known zs t) < flat_rank new = let up = w.if-before-after.true in omega (arith, up, before, after) in
          record {
            joined = subst (λ row. IsJoinedBelow xs ys row (t + 1)) (sym w.into-is) (joined_set xs ys zs t new lt inv.joined is);
            risen = subst (λ b. OnTrue b (HasRisen xs c.if-before-after.into)) (sym w.risen-is) (subst (HasRisen xs) (sym w.into-is) (risen_set xs ys zs t new lt inv.joined up));
            stays = subst (λ b. OnFalse b (c.if-before-after.into ≡ xs)) (sym w.risen-is) tt;
          }
      | else-before-after w ↦
          let down : flat_rank new ≤ flat_rank (known zs t) = let le = w.if-before-after.false in omega (arith, le, before, after) in
          let stay = joined_stays (known zs t) (known ys t) (subst (λ x. flat_rank x ≤ flat_rank (known zs t)) is down) in
          record {
            joined = subst (λ row. IsJoinedBelow xs ys row (t + 1)) (sym w.into-is) (joined_stay xs ys zs t inv.joined stay);
            risen = rw (w.risen-is, w.into-is) inv.risen;
            stays = rw (w.risen-is, w.into-is) inv.stays;
          }
    ]

pub returns-clause-joins : goal.returns-clause-joins
returns-clause-joins c = joined_all c.args.into.now c.args.from.now c.loop-t.into c.loop-t.t (omega arith) (omega arith) (omega arith) c.loop-t.invariant.joined

pub returns-clause-risen : goal.returns-clause-risen
returns-clause-risen c =
    OnTrue-then c.loop-t.risen c.loop-t.invariant.risen (λ up. joined_rises c.args.into.now c.args.from.now c.loop-t.into up.place c.loop-t.auto.into
    (joined_all c.args.into.now c.args.from.now c.loop-t.into c.loop-t.t (omega arith) (omega arith) (omega arith) c.loop-t.invariant.joined) up.higher)
