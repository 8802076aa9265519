use Rattle.std.proofs.Common.{ℕ, ◌≡◌, ◌+◌, ◌≤◌, ◌⊎◌, ◌∙◌, sym, subst, map, take, arith, length}
use Rattle.std.specs.Prelude.{Contains, ◌↔◌}
use Rattle.std.proofs.lemmas.List.{length-map}
use Rattle.pw_fix.specs.Row.{Holds}
use Rattle.pw_fix.specs.declared.bit_row.BitRow.{BitRow}
use Rattle.pw_graph.specs.Making.{target, place_if, of_shape}
use Rattle.pw_graph.proofs.Steps.{set_put, set_skip, at_end, mapped_item, place_fits}
use Rattle.pw_graph.proofs.calls.add_shape.Goals.{in-Some, in-None}
use Rattle.pw_graph.proofs.calls.add_shape.Goals as goal

pub insert-requires : goal.insert-requires
insert-requires c =
    let ts = map target c.args.targets.now in
    let m = mapped_item target c.args.targets.now c.loop-target.target-index c.target-item.result c.loop-target-test.true c.target-item.is in
    let fits = place_fits ts c.args.row.now.len c.loop-target.target-index (target c.target-item.result) c.args.shape.now c.in-Some.place c.requires m.0 m.1 (sym c.place_if.ensures ∙ c.in-Some.is) in
    let same = c.loop-target.invariant.same in
    omega (arith, fits, same)

pub loop-target-preserved : goal.loop-target-preserved
loop-target-preserved c =
    let ts = map target c.args.targets.now in
    let i = c.loop-target.target-index in
    let before = c.loop-target.invariant in
    let m = mapped_item target c.args.targets.now i c.target-item.result c.loop-target-test.true c.target-item.is in
    elim c.match-place_if.branch [
      | in-Some w ↦ record {
        same = subst (λ (r : BitRow). r.len ≡ c.args.row.now.len) (sym w.row-is) (w.insert.ensures.length ∙ before.same);
        holds = subst (λ (r : BitRow). (b : ℕ) → Holds r b ↔ (Holds c.args.row.now b ⊎ Contains (of_shape (take (i + 1) ts) c.args.shape.now) b)) (sym w.row-is)
            (set_put (place_if c.args.shape.now) ts i (target c.target-item.result) w.in-Some.place c.args.row.now c.loop-target.row w.insert.new.self m.0 m.1 (sym c.place_if.ensures ∙ w.in-Some.is) before.holds w.insert.ensures.holds);
      }
      | in-None w ↦ record {
        same = subst (λ (r : BitRow). r.len ≡ c.args.row.now.len) (sym w.row-is) before.same;
        holds = subst (λ (r : BitRow). (b : ℕ) → Holds r b ↔ (Holds c.args.row.now b ⊎ Contains (of_shape (take (i + 1) ts) c.args.shape.now) b)) (sym w.row-is)
            (set_skip (place_if c.args.shape.now) ts i (target c.target-item.result) c.args.row.now c.loop-target.row m.0 m.1 (sym c.place_if.ensures ∙ w.in-None.is) before.holds);
      }
    ]

pub returns-clause-holds : goal.returns-clause-holds
returns-clause-holds c =
    let le : length (map target c.args.targets.now) ≤ c.loop-target.target-index = omega (arith, length-map c.args.targets.now target, c.loop-target-test.false) in
    at_end (place_if c.args.shape.now) (map target c.args.targets.now) c.loop-target.target-index c.args.row.now c.loop-target.row le c.loop-target.invariant.holds
