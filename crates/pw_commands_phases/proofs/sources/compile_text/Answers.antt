use Rattle.pw_commands_phases.proofs.SourceLemmas.{obeys_output, obeys_plain}
use Rattle.pw_commands_phases.proofs.sources.compile_text.Goals as goal

pub returns-in-Ok-None-clause-obeys : goal.returns-in-Ok-None-clause-obeys
returns-in-Ok-None-clause-obeys g c =
    obeys_plain (g.S.Store.told c.args.store.now) (g.S.Store.told c.source_output.new.store) _ c.args.name.now c.args.optimise c.compile_plain.result.answer
    (rw c.in-Ok-None.field-0-is at c.in-Ok-None.ensures.came) c.source_output.ensures.same c.compile_plain.ensures.obeys

pub returns-in-Ok-Some-Ok-clause-obeys : goal.returns-in-Ok-Some-Ok-clause-obeys
returns-in-Ok-Some-Ok-clause-obeys g c =
    obeys_output c.a_source_has_one_output.ensures (g.S.Store.told c.args.store.now) (g.S.Store.told c.source_output.new.store) _ c.args.name.now c.args.optimise c.in-Ok-Some-Ok.text c.compile_output.result.answer
    (rw (c.in-Ok-Some-Ok.field-0-is, c.in-Ok-Some-Ok.field-0-0-is) at c.in-Ok-Some-Ok.ensures.came) c.source_output.ensures.same (rw c.deref.ensures.value at c.compile_output.ensures.obeys)
