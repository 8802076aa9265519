use Rattle.std.proofs.Common.{◌≡◌, Some, None, ℕ, sym, ap, ◌∙◌, rules}
use Rattle.pw_machine.specs.Core.{Core, advanced}
use Rattle.pw_machine.specs.Effect.{effect_of, Goes}
use Rattle.pw_machine.specs.Run.{answered, input_word}
use Rattle.pw_machine.proofs.Keeping.{goes-keeps, with_register-stopped}
use Rattle.pw_machine.proofs.Turns.{turns_none, turns_stopped, turn_goes, turn_reads, turn_writes, turn_stops}
use Rattle.pw_machine.proofs.run.run.Goals as goal
use Rattle.pw_machine.proofs.run.run.Goals.{in-Goes, in-Reads+in-Ok, in-Writes+in-Ok-put}

pub returns-in-Some-clause-over : goal.returns-in-Some-clause-over
returns-in-Some-clause-over g c =
    turns_stopped _ _ _ c.args.budget c.stop_of.result c.in-Some.end (sym c.in-Some.ensures) c.stop_of.ensures

pub loop-steps-init : goal.loop-steps-init
loop-steps-init g c =
    let going : c.args.p.now.stopped ≡ None = search rules in
    record { over = turns_none _ _ _ going; going = going; was_going = going; read = search rules; write = search rules }

pub returns-in-Stops-clause-over : goal.returns-in-Stops-clause-over
returns-in-Stops-clause-over g c =
    let end = c.in-Stops.end in
    let new : c.stop.new.self ≡ record c.loop-steps.p { stopped = Some end } =
    c.stop.ensures ∙ ap (λ (p : Core). record p { stopped = Some end }) c.in-Stops.ensures.1 in
    rw new (turn_stops _ _ _ _ _ _ _ _ _ _ c.loop-steps.invariant.over c.in-Stops.ensures.0 c.stop_of-in-Stops.ensures c.loop-steps-test.true)

pub loop-steps-preserved : goal.loop-steps-preserved
loop-steps-preserved g c =
    let old = c.loop-steps.p in
    let before = c.loop-steps.invariant in
    elim c.match-step.branch [
      | in-Goes w ↦
          let is : effect_of old ≡ Goes c.match-step.p = w.in-Goes.ensures ∙ ap Goes (sym w.p-is) in
          record {
            over = rw (w.input-is, w.out-is) (turn_goes _ _ _ _ _ _ _ _ before.over is);
            going = goes-keeps _ _ is ∙ before.going;
            was_going = before.was_going;
            read = ap g.I.Source.faults w.input-is ∙ before.read;
            write = ap g.O.Sink.faults w.out-is ∙ before.write;
          }
      | in-Reads+in-Ok w ↦
          let word = input_word w.in-Ok.byte in
          let new : c.match-step.p ≡ answered old word =
          w.p-is ∙ w.answer.ensures ∙ ap (λ (p : Core). answered p w.input_word.result) w.in-Reads.ensures.1
          ∙ ap (λ (n : ℕ). answered old n) w.input_word.ensures in
          record {
            over = rw (new, w.input-is, w.out-is) (turn_reads _ _ _ _ _ _ _ _ w.in-Ok.byte before.over w.in-Reads.ensures.0 w.in-Ok.ensures.rest);
            going = ap (λ (p : Core). p.stopped) new ∙ with_register-stopped (advanced old) 28 word ∙ before.going;
            was_going = before.was_going;
            read = ap g.I.Source.faults w.input-is ∙ w.in-Ok.ensures.cause ∙ before.read;
            write = ap g.O.Sink.faults w.out-is ∙ before.write;
          }
      | in-Writes+in-Ok-put w ↦
          let byte = w.in-Writes.byte in
          let new : c.match-step.p ≡ answered old byte =
          w.p-is ∙ w.answer-in-Ok-put.ensures ∙ ap (λ (p : Core). answered p w.into.result) w.in-Writes.ensures.1
          ∙ ap (λ (n : ℕ). answered old n) (search rules) in
          record {
            over = rw (new, w.input-is, w.out-is) (turn_writes _ _ _ _ _ _ _ _ byte before.over w.in-Writes.ensures.0 w.in-Ok-put.ensures.ok);
            going = ap (λ (p : Core). p.stopped) new ∙ with_register-stopped (advanced old) 28 byte ∙ before.going;
            was_going = before.was_going;
            read = ap g.I.Source.faults w.input-is ∙ before.read;
            write = ap g.O.Sink.faults w.out-is ∙ w.in-Ok-put.ensures.cause ∙ before.write;
          }
    ]
