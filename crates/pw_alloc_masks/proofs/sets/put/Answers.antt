use Rattle.std.proofs.Common.{◌+◌, ◌/◌, ◌∙◌, arith, refl, inl, inr}
use Rattle.pw_alloc_masks.proofs.Joining.{joined_but, joined_up}
use Rattle.pw_alloc_masks.proofs.sets.put.Goals as goal

pub put_at-requires-clause-place : goal.put_at-requires-clause-place
put_at-requires-clause-place c = let lt = c.requires.point in let long = c.requires.sets.long in omega (arith, lt, long)

pub put_above-requires : goal.put_above-requires
put_above-requires c =
    let points = c.args.points in
    let p = c.args.p in
    let lt = c.requires.point in
    record {
      place = omega (arith, lt);
      register = c.requires.register;
      long = c.put_at.ensures.length ∙ c.requires.sets.long;
      missing = joined_up c.args.masks.now c.put_at.new.masks points (points + p) ((points + p) / 2) c.args.r refl c.put_at.ensures.each (joined_but points c.args.masks.now (points + p) c.args.r c.requires.sets (omega arith));
    }

pub returns-clause-sets : goal.returns-clause-sets
returns-clause-sets c = record { room = c.requires.sets.room; long = c.put_above.ensures.long; each = c.put_above.ensures.each }

pub returns-clause-each : goal.returns-clause-each
returns-clause-each c = λ q k.
    let points = c.args.points in
    let above = c.put_above.ensures.points (points + q) k (omega arith) in
    let there = c.put_at.ensures.each (points + q) k in (
      λ h. elim (there.0 (above.0 h)) [ inl old ↦ inl old | inr e ↦ let same = e.0 in inr (omega (arith, same), e.1) ],
      λ h. above.1 (there.1 (elim h [ inl old ↦ inl old | inr e ↦ let same = e.0 in inr (omega (arith, same), e.1) ])),
    )
