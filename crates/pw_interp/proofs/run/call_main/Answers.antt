use Rattle.std.proofs.Common.{◌≡◌, sym, subst, []}
use Rattle.std.specs.Prelude.{IfErr}
use Rattle.pw_cmean.specs.Evaluation.{call}
use Rattle.pw_cmean.specs.SourceRun.{calls}
use Rattle.pw_interp_state.specs.Shown.{view_state}
use Rattle.pw_interp_world.specs.declared.program.Body.TheVariants as B
use Rattle.pw_interp_calls.specs.Functions.{callable_of}
use Rattle.pw_interp_calls.specs.WorldViews.{view_world}
use Rattle.pw_interp_machine.specs.Orders.{then_finished}
use Rattle.pw_interp.specs.declared.ends.InterpFault.TheVariants.{NoMemory}
use Rattle.pw_interp.specs.Streaming.{unread}
use Rattle.pw_interp.proofs.RunLaws.{stops_over}
use Rattle.pw_interp.proofs.StreamLaws.{carried_first, if_some, no_read_fault, no_write_fault}
use Rattle.pw_interp.proofs.TurnLaws.{only_memory}
use Rattle.pw_interp.proofs.run.call_main.Goals as goal

pub returns-in-Ok-clause-over : goal.returns-in-Ok-clause-over
returns-in-Ok-clause-over g c =
    let world = view_world c.args.world.now in
    let f = callable_of (B.Defined c.args.home c.args.f) in
    let rest = g.I.Source.rest c.args.input.now in
    let taken = g.O.Sink.taken c.args.out.now in
    if_some rest (λ bytes told s e.
    c.run.ensures.stops world (then_finished (call world (calls world c.args.bound) f []) f.body s) bytes taken
    (record { streams = unread bytes; carried = carried_first bytes taken rest told; stands = c.in-Ok.ensures.starts (unread bytes) s e }))

pub returns-in-Err-clause-over : goal.returns-in-Err-clause-over
returns-in-Err-clause-over g c =
    let world = view_world c.args.world.now in
    let f = callable_of (B.Defined c.args.home c.args.f) in
    stops_over world (then_finished (call world (calls world c.args.bound) f []) f.body) (view_state c.args.state.now) (view_state c.start.new.state) (g.I.Source.rest c.args.input.now) (g.O.Sink.taken c.args.out.now) c.in-Err.stop c.ending_of.result c.ending_of.ensures c.in-Err.ensures.stopped
    (λ s. c.runs_go_on.ensures.starts world c.args.bound f [] f.body s)

pub returns-in-Err-clause-read : goal.returns-in-Err-clause-read
returns-in-Err-clause-read g c =
    no_read_fault c.ending_of.result (subst (λ r. IfErr r (λ fault. fault ≡ NoMemory)) (sym c.ending_of.ensures) (only_memory c.in-Err.stop)) (g.I.Source.faults c.args.input.now)

pub returns-in-Err-clause-write : goal.returns-in-Err-clause-write
returns-in-Err-clause-write g c =
    no_write_fault c.ending_of.result (subst (λ r. IfErr r (λ fault. fault ≡ NoMemory)) (sym c.ending_of.ensures) (only_memory c.in-Err.stop)) (g.O.Sink.faults c.args.out.now)
