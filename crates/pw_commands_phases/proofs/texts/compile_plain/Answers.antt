use Rattle.std.proofs.Common.{None}
use Rattle.pw_commands_phases.specs.First.{phase_one_puts}
use Rattle.pw_commands.proofs.OthersLemmas.{kept_others, then_others}
use Rattle.pw_commands_phases.proofs.FirstLemmas.{file_stop_is, file_stop_line, line_of_text, obeys_stopped, obeys_text}
use Rattle.pw_commands_phases.proofs.texts.compile_plain.Goals as goal

pub returns-in-Ok-clause-obeys : goal.returns-in-Ok-clause-obeys
returns-in-Ok-clause-obeys g c =
    obeys_text (g.S.Store.told c.args.store.now) _ _ c.args.name.now c.args.optimise c.in-Ok.text.items c.compile_bytes.result.answer
    c.in-Ok.ensures.bytes c.module_bytes.ensures.same (rw c.deref.ensures.value at c.compile_bytes.ensures.obeys)

pub returns-in-Ok-clause-line : goal.returns-in-Ok-clause-line
returns-in-Ok-clause-line g c =
    line_of_text (g.S.Store.told c.args.store.now) c.args.name.now c.in-Ok.text.items c.compile_bytes.result.answer c.compile_bytes.result.line
    c.in-Ok.ensures.bytes (rw c.deref.ensures.value at c.compile_bytes.ensures.line)

pub returns-in-Err-clause-obeys : goal.returns-in-Err-clause-obeys
returns-in-Err-clause-obeys g c =
    obeys_stopped (g.S.Store.told c.args.store.now) _ c.args.name.now c.args.optimise c.in-Err.answer c.in-Err.ensures.bytes c.module_bytes.ensures.same c.in-Err.ensures.stop

pub returns-in-Err-clause-line : goal.returns-in-Err-clause-line
returns-in-Err-clause-line g c = file_stop_line (g.S.Store.told c.args.store.now) c.args.name.now c.in-Err.answer None c.in-Err.ensures.stop

pub returns-in-Err-clause-answer : goal.returns-in-Err-clause-answer
returns-in-Err-clause-answer g c = file_stop_is c.in-Err.answer c.in-Err.ensures.stop

pub returns-in-Ok-clause-others : goal.returns-in-Ok-clause-others
returns-in-Ok-clause-others g c = then_others (phase_one_puts c.args.name.now) c.compile_bytes.result.answer (g.S.Store.told c.args.store.now) _ _ c.module_bytes.ensures.same c.compile_bytes.ensures.others

pub returns-in-Err-clause-others : goal.returns-in-Err-clause-others
returns-in-Err-clause-others g c = kept_others (phase_one_puts c.args.name.now) c.in-Err.answer (g.S.Store.told c.args.store.now) _ c.module_bytes.ensures.same
