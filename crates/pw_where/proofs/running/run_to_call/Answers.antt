use Rattle.std.proofs.Common.{ℕ, None, subst, ◌∙◌, refl, arith}
use Rattle.pw_machine.specs.Stops.{ReadCount}
use Rattle.pw_where.proofs.Steps.{begins_over, further_over, reached_over, spent_over, spent_unwritten, stops_over, unwritten}
use Rattle.pw_where.proofs.running.run_to_call.Goals as goal

pub loop-step-init : goal.loop-step-init
loop-step-init g c = record {
  going = c.requires.going;
  some_left = c.requires.first;
  follows = λ entries tells. begins_over entries c.args.call c.args.machine.now.core (g.I.Source.rest c.args.input.now) c.requires.going;
  read = refl;
}

pub returns-then-behind-eq0-clause-reaches : goal.returns-then-behind-eq0-clause-reaches
returns-then-behind-eq0-clause-reaches g c = λ entries tells.
    let rest = g.I.Source.rest c.loop-step.input in
    reached_over entries (g.I.Source.rest c.args.input.now) c.args.machine.now.core c.args.call c.loop-step.left c.left_behind-behind.result c.loop-step._step c.args.budget c.loop-step.machine.core c.loop-step.machine.core rest rest None None 0
    (c.loop-step.invariant.follows entries tells) c.loop-step.invariant.some_left (c.left_behind-behind.ensures entries tells) c.if-behind-eq0.true c.loop-step-test.true

pub loop-step-preserved : goal.loop-step-preserved
loop-step-preserved g c = record {
  going = c.in-Spent.ensures.stopped;
  some_left = omega (arith, c.if-behind-eq0.false);
  follows = λ entries tells.
      further_over entries (g.I.Source.rest c.args.input.now) c.args.machine.now.core c.args.call c.loop-step.left c.left_behind-behind.result c.loop-step._step c.args.budget c.loop-step.machine.core c.run.new.self.core
      (g.I.Source.rest c.loop-step.input) (g.I.Source.rest c.run.new.input) None None c.in-Spent.ensures.run.steps
      (c.loop-step.invariant.follows entries tells) c.loop-step.invariant.going c.loop-step.invariant.some_left (c.left_behind-behind.ensures entries tells) c.in-Spent.ensures.run.over;
  read = c.in-Spent.ensures.read ∙ c.loop-step.invariant.read;
}

pub returns-clause-reaches : goal.returns-clause-reaches
returns-clause-reaches g c = λ entries tells.
    spent_over entries (g.I.Source.rest c.args.input.now) c.args.machine.now.core c.args.call c.loop-step.left c.loop-step._step c.args.budget c.loop-step.machine.core (g.I.Source.rest c.loop-step.input)
    (c.loop-step.invariant.follows entries tells) c.loop-step.invariant.some_left (omega (arith, c.loop-step-test.false, c.loop-step.auto._step-end))

pub returns-clause-unwritten : goal.returns-clause-unwritten
returns-clause-unwritten g c = spent_unwritten

pub returns-in_default : goal.returns-in_default
returns-in_default g c = record {
  reaches = λ entries tells.
      stops_over entries (g.I.Source.rest c.args.input.now) c.args.machine.now.core c.args.call c.loop-step.left c.left_behind-behind.result c.loop-step._step c.args.budget c.loop-step.machine.core c.run.new.self.core
      (g.I.Source.rest c.loop-step.input) (g.I.Source.rest c.run.new.input) None None c.run.ensures.run.steps c.run.result c.in_default.not-Spent (unwritten c.run.result c.run.ensures.write)
      (c.loop-step.invariant.follows entries tells) c.loop-step.invariant.going c.loop-step.invariant.some_left (c.left_behind-behind.ensures entries tells) c.if-behind-eq0.false c.loop-step-test.true c.run.ensures.run.over;
  unwritten = unwritten c.run.result c.run.ensures.write;
  read = subst (λ (n : ℕ). ReadCount n (g.I.Source.faults c.run.new.input) c.run.result) c.loop-step.invariant.read c.run.ensures.read;
}
