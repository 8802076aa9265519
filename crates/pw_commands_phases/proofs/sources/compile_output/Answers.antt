use Rattle.pw_phase_one.specs.FirstPhase.{compiled}
use Rattle.pw_commands_phases.proofs.SourceLemmas.{source_obeys}
use Rattle.pw_commands_phases.proofs.sources.compile_output.Goals as goal

pub returns-clause-obeys : goal.returns-clause-obeys
returns-clause-obeys g c =
    source_obeys (g.S.Store.told c.args.store.now) _ c.args.name.now c.args.optimise (compiled c.args.name.now c.args.text.now) c.compile_bytes.result.answer c.of_source.result.answer
    c.of_source.ensures.answer c.compile_bytes.ensures.answer c.compile_bytes.ensures.obeys
