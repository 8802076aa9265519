use Rattle.std.proofs.Common.{◌∙◌, ℕ, sym, ap}
use Rattle.std.specs.Prelude.{Option, option_map}
use Rattle.pw_graph.specs.Making.{placed, with_weights}
use Rattle.pw_graph.proofs.Steps.{kept_add, kept_same}
use Rattle.pw_graph.proofs.references.placed.Goals as goal
use Rattle.pw_graph.proofs.references.placed.Goals.{in-Some+in_ok-push-in-Some, in-None}

pub loop-name-preserved : goal.loop-name-preserved
loop-name-preserved c =
    let h = placed c.args.globals.now in
    let x = c.loop-name-item.result in
    elim c.match-place_of.branch [
      | in-Some+in_ok-push-in-Some w ↦
          rw w.row-is (kept_add h c.loop-name.row w.push.new.self (w.in-Some.place, x.1, x.2) c.args.refs.now c.loop-name.name-index x c.loop-name-test.true c.loop-name-item.is
          (ap (λ (o : Option ℕ). option_map (with_weights x) o) (sym c.place_of.ensures ∙ w.in-Some.is)) w.in_ok-push-in-Some.ensures c.loop-name.invariant)
      | in-None w ↦
          rw w.row-is (kept_same h c.loop-name.row c.args.refs.now c.loop-name.name-index x c.loop-name-test.true c.loop-name-item.is
          (ap (λ (o : Option ℕ). option_map (with_weights x) o) (sym c.place_of.ensures ∙ w.in-None.is)) c.loop-name.invariant)
    ]
