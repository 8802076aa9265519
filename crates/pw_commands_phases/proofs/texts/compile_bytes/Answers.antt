use Rattle.std.proofs.Common.{None}
use Rattle.pw_phase_one.specs.FirstPhase.{compiled}
use Rattle.pw_commands_phases.specs.First.{line_in}
use Rattle.pw_commands_phases.specs.First.{phase_one_puts, two_files}
use Rattle.pw_commands.proofs.OthersLemmas.{just_others, others_alone}
use Rattle.pw_commands_phases.proofs.FirstLemmas.{obeys_made, obeys_replied, put_is_phase, put_line, replies, reply_due, reply_kind, text_stop_count, text_stop_is}
use Rattle.pw_commands_phases.proofs.texts.compile_bytes.Goals as goal

pub returns-in-Ok-clause-obeys : goal.returns-in-Ok-clause-obeys
returns-in-Ok-clause-obeys g c =
    obeys_made (record { form = c.optimised_forms_are_one.ensures; flow_file = c.flow_graphs_and_files_are_one_to_one.ensures.one_file; summary = c.a_module_has_one_summary.ensures; summary_file = c.summaries_and_files_are_one_to_one.ensures.one_file })
    (g.S.Store.told c.args.store.now) _ c.args.name.now c.args.optimise c.args.text.now c.in-Ok.made.flow.items c.in-Ok.made.sum.items c.put_made.result
    c.in-Ok.ensures c.put_made.ensures.answer c.put_made.ensures.put

pub returns-in-Ok-clause-line : goal.returns-in-Ok-clause-line
returns-in-Ok-clause-line g c = put_line (line_in c.args.text.now (compiled c.args.name.now c.args.text.now)) c.put_made.result None c.put_made.ensures.answer

pub returns-in-Ok-clause-answer : goal.returns-in-Ok-clause-answer
returns-in-Ok-clause-answer g c = put_is_phase c.put_made.result c.put_made.ensures.answer

pub returns-in-Err-clause-obeys : goal.returns-in-Err-clause-obeys
returns-in-Err-clause-obeys g c =
    let name = c.args.name.now in
    let text = c.args.text.now in
    obeys_replied (g.S.Store.told c.args.store.now) name c.args.optimise text c.reply_of.result.answer c.reply_of.result.line
    (replies name text (compiled name text) c.in-Err.answer c.reply_of.result.answer c.reply_of.result.line c.in-Err.ensures c.reply_of.ensures)

pub returns-in-Err-clause-line : goal.returns-in-Err-clause-line
returns-in-Err-clause-line g c =
    let name = c.args.name.now in
    let text = c.args.text.now in
    reply_due name text (compiled name text) c.reply_of.result.answer c.reply_of.result.line
    (replies name text (compiled name text) c.in-Err.answer c.reply_of.result.answer c.reply_of.result.line c.in-Err.ensures c.reply_of.ensures)

pub returns-in-Err-clause-answer : goal.returns-in-Err-clause-answer
returns-in-Err-clause-answer g c =
    let name = c.args.name.now in
    let text = c.args.text.now in
    text_stop_is c.reply_of.result.answer
    (reply_kind c.no_refusal_is_want_of_memory.ensures name text c.reply_of.result.answer c.reply_of.result.line (replies name text (compiled name text) c.in-Err.answer c.reply_of.result.answer c.reply_of.result.line c.in-Err.ensures c.reply_of.ensures))

pub returns-in-Err-clause-count : goal.returns-in-Err-clause-count
returns-in-Err-clause-count g c =
    let name = c.args.name.now in
    let text = c.args.text.now in
    text_stop_count (g.S.Store.faults c.args.store.now) c.reply_of.result.answer
    (reply_kind c.no_refusal_is_want_of_memory.ensures name text c.reply_of.result.answer c.reply_of.result.line (replies name text (compiled name text) c.in-Err.answer c.reply_of.result.answer c.reply_of.result.line c.in-Err.ensures c.reply_of.ensures))

pub returns-in-Ok-clause-others : goal.returns-in-Ok-clause-others
returns-in-Ok-clause-others g c =
    just_others (g.S.Store.told c.args.store.now) _ (two_files c.args.name.now c.in-Ok.made.flow.items c.in-Ok.made.sum.items) c.put_made.result c.put_made.ensures.put

pub returns-in-Err-clause-others : goal.returns-in-Err-clause-others
returns-in-Err-clause-others g c = others_alone (phase_one_puts c.args.name.now) c.reply_of.result.answer (g.S.Store.told c.args.store.now)
