use Rattle.std.proofs.Common.{[], ◌∷◌}
use Rattle.std.specs.Prelude.{codes}
use Rattle.pw_io.specs.Files.{after_put}
use Rattle.pw_session.specs.Changes.{Puts}
use Rattle.pw_session.proofs.GenuineLemmas.{change_keeps, put_error_keeps}
use Rattle.pw_session.proofs.LineLemmas.{does_all, error_count, error_is, error_made, error_write, made_so, put_error}
use Rattle.pw_session.proofs.TurnLemmas.{say_is_line, say_store}
use Rattle.pw_session.proofs.lines.put_text.Goals as goal

pub returns-in-Ok-clause-does : goal.returns-in-Ok-clause-does
returns-in-Ok-clause-does g c =
    does_all (codes "ok\n") (Puts (c.args.file.now, c.args.text.now) ∷ []) c.print.result (g.S.Store.told c.args.store.now) (g.S.Store.told c.put.new.self) (g.O.Sink.taken c.args.out.now) (g.O.Sink.taken c.print.new.out) c.in-Ok.ensures.ok c.print.ensures.output

pub returns-in-Ok-clause-genuine : goal.returns-in-Ok-clause-genuine
returns-in-Ok-clause-genuine g c =
    change_keeps c.texts_are_no_objects.ensures c.args.file.now (g.S.Store.told c.args.store.now) (g.S.Store.told c.put.new.self) (λ told. after_put told c.args.file.now c.args.text.now) c.requires
    (λ told other ne. c.other_files.ensures.insertion told.files c.args.file.now c.args.text.now other ne) c.in-Ok.ensures.ok

pub returns-in-Ok-clause-store : goal.returns-in-Ok-clause-store
returns-in-Ok-clause-store g c = say_store c.print.result (g.S.Store.faults c.args.store.now) (g.S.Store.faults c.put.new.self) c.print.ensures.answer c.in-Ok.ensures.cause

pub returns-in-Ok-clause-answer : goal.returns-in-Ok-clause-answer
returns-in-Ok-clause-answer g c = say_is_line c.print.result c.print.ensures.answer

pub returns-in-Err-clause-does : goal.returns-in-Err-clause-does
returns-in-Err-clause-does g c =
    put_error (codes "ok\n") c.args.file.now c.args.text.now c.in-Err.error c.from.result (g.S.Store.told c.args.store.now) (g.S.Store.told c.put.new.self) (g.O.Sink.taken c.args.out.now) c.from.ensures c.in-Err.ensures.failed c.in-Err.ensures.no_memory

pub returns-in-Err-clause-genuine : goal.returns-in-Err-clause-genuine
returns-in-Err-clause-genuine g c =
    put_error_keeps c.texts_are_no_objects.ensures c.args.file.now c.args.text.now c.in-Err.error (g.S.Store.told c.args.store.now) (g.S.Store.told c.put.new.self) c.requires c.other_files.ensures.failure c.in-Err.ensures.failed c.in-Err.ensures.no_memory

pub returns-in-Err-clause-store : goal.returns-in-Err-clause-store
returns-in-Err-clause-store g c = error_count c.in-Err.error c.from.result (g.S.Store.faults c.args.store.now) (g.S.Store.faults c.put.new.self) c.from.ensures c.in-Err.ensures.cause

pub returns-in-Err-clause-write : goal.returns-in-Err-clause-write
returns-in-Err-clause-write g c = error_write c.in-Err.error c.from.result (g.O.Sink.faults c.args.out.now) c.from.ensures

pub returns-in-Err-clause-answer : goal.returns-in-Err-clause-answer
returns-in-Err-clause-answer g c = error_is c.in-Err.error c.from.result c.from.ensures

pub returns-in-Ok-clause-made : goal.returns-in-Ok-clause-made
returns-in-Ok-clause-made g c = made_so c.print.result (Puts (c.args.file.now, c.args.text.now) ∷ []) (g.S.Store.told c.args.store.now) (g.S.Store.told c.put.new.self) c.in-Ok.ensures.ok

pub returns-in-Err-clause-made : goal.returns-in-Err-clause-made
returns-in-Err-clause-made g c = error_made c.in-Err.error c.from.result (Puts (c.args.file.now, c.args.text.now) ∷ []) (g.S.Store.told c.args.store.now) (g.S.Store.told c.put.new.self) c.from.ensures
