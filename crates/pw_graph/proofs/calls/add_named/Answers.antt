use Rattle.std.proofs.Common.{ℕ, ◌≡◌, ◌+◌, ◌⊎◌, ◌∙◌, sym, subst, take}
use Rattle.std.specs.Prelude.{Contains, ◌↔◌}
use Rattle.std.specs.List.{filter_map}
use Rattle.pw_fix.specs.Row.{Holds}
use Rattle.pw_fix.specs.declared.bit_row.BitRow.{BitRow}
use Rattle.pw_graph.specs.Making.{place_in}
use Rattle.pw_graph.proofs.Steps.{set_put, set_skip, at_end}
use Rattle.pw_graph.proofs.calls.add_named.Goals.{in-Some, in-None}
use Rattle.pw_graph.proofs.calls.add_named.Goals as goal

pub loop-name-preserved : goal.loop-name-preserved
loop-name-preserved c =
    let calls = c.args.calls.now in
    let i = c.loop-name.name-index in
    let before = c.loop-name.invariant in
    elim c.match-place_of.branch [
      | in-Some w ↦ record {
        same = subst (λ (r : BitRow). r.len ≡ c.args.row.now.len) (sym w.row-is) (w.insert.ensures.length ∙ before.same);
        holds = subst (λ (r : BitRow). (b : ℕ) → Holds r b ↔ (Holds c.args.row.now b ⊎ Contains (filter_map (place_in c.args.names.now) (take (i + 1) calls)) b)) (sym w.row-is)
            (set_put (place_in c.args.names.now) calls i c.name-item.result w.in-Some.place c.args.row.now c.loop-name.row w.insert.new.self c.loop-name-test.true c.name-item.is (sym c.place_of.ensures ∙ w.in-Some.is) before.holds w.insert.ensures.holds);
      }
      | in-None w ↦ record {
        same = subst (λ (r : BitRow). r.len ≡ c.args.row.now.len) (sym w.row-is) before.same;
        holds = subst (λ (r : BitRow). (b : ℕ) → Holds r b ↔ (Holds c.args.row.now b ⊎ Contains (filter_map (place_in c.args.names.now) (take (i + 1) calls)) b)) (sym w.row-is)
            (set_skip (place_in c.args.names.now) calls i c.name-item.result c.args.row.now c.loop-name.row c.loop-name-test.true c.name-item.is (sym c.place_of.ensures ∙ w.in-None.is) before.holds);
      }
    ]

pub returns-clause-holds : goal.returns-clause-holds
returns-clause-holds c = at_end (place_in c.args.names.now) c.args.calls.now c.loop-name.name-index c.args.row.now c.loop-name.row c.loop-name-test.false c.loop-name.invariant.holds
