use Rattle.std.proofs.Common.{ℕ, List, refl, sym, ap, ◌∙◌}
use Rattle.std.specs.Prelude.{codes, string_bytes}
use Rattle.pw_session_script.specs.Reading.{line_view}
use Rattle.pw_session_script.specs.Script.{RemoveText}
use Rattle.pw_session.specs.Outcomes.{image_view}
use Rattle.pw_session.specs.Removals.{IsRemovedBy}
use Rattle.pw_session.proofs.LineLemmas.{line_put_so, line_removed_so, line_run_so, put_some, removed_some, same_some}
use Rattle.pw_session.proofs.TurnLemmas.{genuine_same, say_is_line, say_store}
use Rattle.pw_session.proofs.lines.obey_line.Goals as goal

pub returns-in-Put-clause-does : goal.returns-in-Put-clause-does
returns-in-Put-clause-does g c =
    rw c.in-Put.is
    (line_put_so c.args.opts.now (image_view c.args.image.now) (string_bytes c.in-Put.file) c.in-Put.text.items c.as_str.result.now c.deref.result.now (g.S.Store.told c.args.store.now) (g.S.Store.told c.put_text.new.store) c.put_text.result (g.O.Sink.taken c.args.out.now)
    (g.O.Sink.taken c.put_text.new.out) (image_view c.args.image.now) c.as_str.ensures.value c.deref.ensures.value c.put_text.ensures.does c.put_text.ensures.made refl)

pub returns-in-Put-clause-some : goal.returns-in-Put-clause-some
returns-in-Put-clause-some g c =
    put_some (IsRemovedBy (line_view c.args.line.now)) (codes "ok\n") c.as_str.result.now c.deref.result.now (g.S.Store.told c.args.store.now) (g.S.Store.told c.put_text.new.store) c.put_text.result (g.O.Sink.taken c.args.out.now) (g.O.Sink.taken c.put_text.new.out)
    (rw c.as_str.ensures.value (rw c.in-Put.is at c.requires.named)) c.put_text.ensures.does

pub returns-in-Remove-clause-does : goal.returns-in-Remove-clause-does
returns-in-Remove-clause-does g c =
    rw c.in-Remove.is
    (line_removed_so c.args.opts.now (image_view c.args.image.now) (string_bytes c.in-Remove.file) c.as_str-in-Remove.result.now (g.S.Store.told c.args.store.now) (g.S.Store.told c.remove_text.new.store) c.remove_text.result (g.O.Sink.taken c.args.out.now)
    (g.O.Sink.taken c.remove_text.new.out) (image_view c.args.image.now) c.as_str-in-Remove.ensures.value c.remove_text.ensures.does c.remove_text.ensures.made refl)

pub returns-in-Remove-clause-some : goal.returns-in-Remove-clause-some
returns-in-Remove-clause-some g c =
    removed_some (IsRemovedBy (line_view c.args.line.now)) (codes "ok\n") c.as_str-in-Remove.result.now (g.S.Store.told c.args.store.now) (g.S.Store.told c.remove_text.new.store) c.remove_text.result (g.O.Sink.taken c.args.out.now) (g.O.Sink.taken c.remove_text.new.out)
    (rw c.as_str-in-Remove.ensures.value (rw c.in-Remove.is at c.requires.named), ap line_view c.in-Remove.is ∙ ap (λ (file : List ℕ). RemoveText file) (sym c.as_str-in-Remove.ensures.value)) c.remove_text.ensures.does

pub returns-in-Run-clause-does : goal.returns-in-Run-clause-does
returns-in-Run-clause-does g c =
    rw c.in-Run.is
    (line_run_so c.args.opts.now (image_view c.args.image.now) _ c.in-Run.input.items c.deref-in-Run.result.now (g.S.Store.told c.args.store.now) c.run_image.result (g.O.Sink.taken c.args.out.now) (g.O.Sink.taken c.run_image.new.out) (image_view c.args.image.now) c.as_deref.ensures.value
    c.deref-in-Run.ensures.value c.run_image.ensures.run refl)

pub returns-in-Run-clause-some : goal.returns-in-Run-clause-some
returns-in-Run-clause-some g c = same_some (IsRemovedBy (line_view c.args.line.now)) (g.S.Store.told c.args.store.now) c.run_image.result

pub returns-in-Run-clause-genuine : goal.returns-in-Run-clause-genuine
returns-in-Run-clause-genuine g c = genuine_same (g.S.Store.told c.args.store.now)

pub returns-in-Run-clause-store : goal.returns-in-Run-clause-store
returns-in-Run-clause-store g c = say_store c.run_image.result (g.S.Store.faults c.args.store.now) (g.S.Store.faults c.args.store.now) c.run_image.ensures.answer refl

pub returns-in-Run-clause-answer : goal.returns-in-Run-clause-answer
returns-in-Run-clause-answer g c = say_is_line c.run_image.result c.run_image.ensures.answer

pub returns-in-Build-clause-some : goal.returns-in-Build-clause-some
returns-in-Build-clause-some g c = rw c.in-Build.is c.build_program.ensures.some
