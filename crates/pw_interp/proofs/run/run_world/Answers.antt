use Rattle.std.proofs.Common.{◌≡◌, Err, rules, sym, ap, subst}
use Rattle.std.proofs.lemmas.Option.{IfSome_then}
use Rattle.std.proofs.lemmas.Result.{err_from_is_err_and}
use Rattle.pw_cmean.specs.SourceRun.{run_main, seen, start_state}
use Rattle.pw_interp_state.specs.Shown.{Shown, Streams}
use Rattle.pw_interp_calls.specs.WorldViews.{view_world}
use Rattle.pw_interp.specs.Streaming.{ReadCount, WriteCount, unread}
use Rattle.pw_interp.proofs.RunLaws.{left_up, not_begun, owned_over, still_given_up}
use Rattle.pw_interp.proofs.StreamLaws.{memory_read, memory_write, no_read_fault, no_write_fault, read_of, write_of}
use Rattle.pw_interp.proofs.run.run_world.Goals as goal

pub returns-in_err-state-clause-over : goal.returns-in_err-state-clause-over
returns-in_err-state-clause-over g c =
    let p = err_from_is_err_and c.from_residual.result c.from_residual.ensures.1 in
    not_begun (λ bytes. seen (run_main (view_world c.args.world.now) c.args.bound (start_state (view_world c.args.world.now).program bytes))) (g.I.Source.rest c.args.input.now) (g.O.Sink.taken c.args.out.now) c.from_residual.result p.0 p.1

pub returns-in_err-state-clause-read : goal.returns-in_err-state-clause-read
returns-in_err-state-clause-read g c =
    let p = err_from_is_err_and c.from_residual.result c.from_residual.ensures.1 in
    memory_read c.from_residual.result p.0 p.1 p.2 (g.I.Source.faults c.args.input.now)

pub returns-in_err-state-clause-write : goal.returns-in_err-state-clause-write
returns-in_err-state-clause-write g c =
    let p = err_from_is_err_and c.from_residual.result c.from_residual.ensures.1 in
    memory_write c.from_residual.result p.0 p.1 p.2 (g.O.Sink.faults c.args.out.now)

pub returns-in_err-ending-clause-over : goal.returns-in_err-ending-clause-over
returns-in_err-ending-clause-over g c =
    let world = view_world c.args.world.now in
    let taken = g.O.Sink.taken c.args.out.now in
    let is : c.from_residual-in_err-ending.result ≡ Err c.in_err-ending.field-0.0 = first_of (search (rules, c.from_residual-in_err-ending.ensures), cc (c.from_residual-in_err-ending.ensures)) in
    IfSome_then (g.I.Source.rest c.args.input.now) c.in_err-ending.ensures.over (λ bytes still.
    left_up (seen (run_main world c.args.bound (start_state world.program bytes))) bytes taken (g.I.Source.rest c.run_main.new.input) (g.O.Sink.taken c.run_main.new.out) c.from_residual-in_err-ending.result c.in_err-ending.field-0.0 is
    (still_given_up (run_main world c.args.bound (start_state world.program bytes)) bytes taken (g.I.Source.rest c.run_main.new.input) (g.O.Sink.taken c.run_main.new.out)
    (still (start_state world.program bytes) (ap {B = Shown × Streams} (λ x. (x, unread bytes)) (sym c.in_ok-state.ensures)))))

pub returns-in_err-ending-clause-read : goal.returns-in_err-ending-clause-read
returns-in_err-ending-clause-read g c =
    let is : c.from_residual-in_err-ending.result ≡ Err c.in_err-ending.field-0.0 = first_of (search (rules, c.from_residual-in_err-ending.ensures), cc (c.from_residual-in_err-ending.ensures)) in
    read_of c.from_residual-in_err-ending.result c.in_err-ending.field-0.0 _ _ is c.in_err-ending.ensures.read

pub returns-in_err-ending-clause-write : goal.returns-in_err-ending-clause-write
returns-in_err-ending-clause-write g c =
    let is : c.from_residual-in_err-ending.result ≡ Err c.in_err-ending.field-0.0 = first_of (search (rules, c.from_residual-in_err-ending.ensures), cc (c.from_residual-in_err-ending.ensures)) in
    write_of c.from_residual-in_err-ending.result c.in_err-ending.field-0.0 _ _ is c.in_err-ending.ensures.write

pub returns-clause-over : goal.returns-clause-over
returns-clause-over g c =
    let program = (view_world c.args.world.now).program in
    IfSome_then (g.I.Source.rest c.args.input.now) c.in_ok-ending.ensures.over (λ bytes ended.
    owned_over c.in_ok-ending.ending c.owned.result bytes (g.O.Sink.taken c.args.out.now) (g.I.Source.rest c.run_main.new.input) (g.O.Sink.taken c.run_main.new.out) c.owned.ensures.end
    (ended (start_state program bytes) (ap {B = Shown × Streams} (λ x. (x, unread bytes)) (sym c.in_ok-state.ensures))))

pub returns-clause-read : goal.returns-clause-read
returns-clause-read g c =
    let before = g.I.Source.faults c.args.input.now in
    subst (λ n. ReadCount before n c.owned.result) (sym c.in_ok-ending.ensures.read) (no_read_fault c.owned.result c.owned.ensures.fault before)

pub returns-clause-write : goal.returns-clause-write
returns-clause-write g c =
    let before = g.O.Sink.faults c.args.out.now in
    subst (λ n. WriteCount before n c.owned.result) (sym c.in_ok-ending.ensures.write) (no_write_fault c.owned.result c.owned.ensures.fault before)
