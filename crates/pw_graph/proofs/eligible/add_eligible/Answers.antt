use Rattle.std.proofs.Common.{◌∙◌, sym, ap, map}
use Rattle.std.specs.Prelude.{option_map}
use Rattle.pw_graph.specs.Making.{scalar, eligible_one}
use Rattle.pw_graph.proofs.Steps.{kept_push, kept_skip}
use Rattle.pw_graph.proofs.eligible.add_eligible.Goals as goal
use Rattle.pw_graph.proofs.eligible.add_eligible.Goals.{in-Some+in_ok-push-in-Some, in-None}

pub loop-global-preserved : goal.loop-global-preserved
loop-global-preserved c =
    let before = map scalar c.args.found.now.items in
    let h = eligible_one c.args.taken.now c.args.escaped.now in
    elim c.match-if_eligible.branch [
      | in-Some+in_ok-push-in-Some w ↦
          rw w.found-is (kept_push scalar h c.loop-global.found.items w.push.new.self.items w.in-Some.eligible before c.args.globals.now c.loop-global.global-index c.global-item.result c.loop-global-test.true c.global-item.is
          (sym c.if_eligible.ensures ∙ ap (option_map scalar) w.in-Some.is) w.in_ok-push-in-Some.ensures.items c.loop-global.invariant)
      | in-None w ↦
          rw w.found-is (kept_skip h (map scalar c.loop-global.found.items) before c.args.globals.now c.loop-global.global-index c.global-item.result c.loop-global-test.true c.global-item.is
          (sym c.if_eligible.ensures ∙ ap (option_map scalar) w.in-None.is) c.loop-global.invariant)
    ]
