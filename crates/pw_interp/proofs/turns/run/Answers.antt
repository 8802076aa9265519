use Rattle.std.proofs.Common.{◌≡◌, Err, None, Ok, Option, refl, rules, subst, ◌∙◌}
use Rattle.pw_interp_calls.specs.declared.ending.Ending.{Ending}
use Rattle.pw_interp_calls.specs.Functions.{callable_of}
use Rattle.pw_interp_state.specs.Shown.{view_state}
use Rattle.pw_interp.specs.Streaming.{TurnLeaves}
use Rattle.pw_interp.proofs.StreamLaws.{read_of, read_since, write_of, write_since}
use Rattle.pw_interp.proofs.TurnLaws.{none_left, still, stopped_up}
use Rattle.pw_interp.proofs.turns.run.Goals as goal

pub loop-init : goal.loop-init
loop-init g c = record { goes = λ world end bytes taken at. at; read = refl; write = refl }

pub loop-preserved : goal.loop-preserved
loop-preserved g c =
    let before = c.loop.invariant in
    let none : c.in_ok-ended.ended ≡ None = none_left c.in_ok-ended.ended c.in_default.not-Some in
    record {
      goes = λ world end bytes taken at.
          subst (λ (o : Option Ending). TurnLeaves (callable_of c.args.main).body (Ok o) c.turn.new.machine (view_state c.turn.new.state) world end bytes taken (g.I.Source.rest c.turn.new.input) (g.O.Sink.taken c.turn.new.out)) none
          (c.in_ok-ended.ensures.turns world end bytes taken (before.goes world end bytes taken at));
      read = c.in_ok-ended.ensures.read ∙ before.read;
      write = c.in_ok-ended.ensures.write ∙ before.write;
    }

pub returns-in_err-ended-clause-read : goal.returns-in_err-ended-clause-read
returns-in_err-ended-clause-read g c =
    let is : c.from_residual.result ≡ Err c.in_err-ended.field-0.0 = first_of (search (rules, c.from_residual.ensures), cc (c.from_residual.ensures)) in
    read_since c.from_residual.result (g.I.Source.faults c.args.input.now) (g.I.Source.faults c.loop.input) (g.I.Source.faults c.turn.new.input) c.loop.invariant.read
    (read_of c.from_residual.result c.in_err-ended.field-0.0 _ _ is c.in_err-ended.ensures.read)

pub returns-in_err-ended-clause-write : goal.returns-in_err-ended-clause-write
returns-in_err-ended-clause-write g c =
    let is : c.from_residual.result ≡ Err c.in_err-ended.field-0.0 = first_of (search (rules, c.from_residual.ensures), cc (c.from_residual.ensures)) in
    write_since c.from_residual.result (g.O.Sink.faults c.args.out.now) (g.O.Sink.faults c.loop.out) (g.O.Sink.faults c.turn.new.out) c.loop.invariant.write
    (write_of c.from_residual.result c.in_err-ended.field-0.0 _ _ is c.in_err-ended.ensures.write)

pub returns-in-Some-clause-stops : goal.returns-in-Some-clause-stops
returns-in-Some-clause-stops g c world end bytes taken at =
    subst (λ (o : Option Ending). TurnLeaves (callable_of c.args.main).body (Ok o) c.turn.new.machine (view_state c.turn.new.state) world end bytes taken (g.I.Source.rest c.turn.new.input) (g.O.Sink.taken c.turn.new.out)) c.in-Some.is
    (c.in_ok-ended.ensures.turns world end bytes taken (c.loop.invariant.goes world end bytes taken at))

pub returns-in-Some-clause-read : goal.returns-in-Some-clause-read
returns-in-Some-clause-read g c = c.in_ok-ended.ensures.read ∙ c.loop.invariant.read

pub returns-in-Some-clause-write : goal.returns-in-Some-clause-write
returns-in-Some-clause-write g c = c.in_ok-ended.ensures.write ∙ c.loop.invariant.write

pub returns-in_err-ended-clause-stops : goal.returns-in_err-ended-clause-stops
returns-in_err-ended-clause-stops g c world end bytes taken at =
    let is : c.from_residual.result ≡ Err c.in_err-ended.field-0.0 = first_of (search (rules, c.from_residual.ensures), cc (c.from_residual.ensures)) in
    stopped_up c.from_residual.result c.in_err-ended.field-0.0 (view_state c.turn.new.state) world end bytes taken (g.I.Source.rest c.turn.new.input) (g.O.Sink.taken c.turn.new.out) is
    (c.in_err-ended.ensures.turns world end bytes taken (c.loop.invariant.goes world end bytes taken at))

pub returns-clause-stops : goal.returns-clause-stops
returns-clause-stops g c world end bytes taken at =
    still c.runs_go_on.ensures.machines (callable_of c.args.main).body c.loop.machine (view_state c.loop.state) world end bytes taken _ _ (c.loop.invariant.goes world end bytes taken at)
