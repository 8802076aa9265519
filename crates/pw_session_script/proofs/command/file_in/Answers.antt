use Rattle.std.proofs.Common.{Some, ap, sym, ◌∙◌}
use Rattle.pw_session_script.proofs.CommandLemmas.{no_text_no_file, text_is_file}
use Rattle.pw_session_script.proofs.command.file_in.Goals as goal

pub returns-in-Ok-clause-file : goal.returns-in-Ok-clause-file
returns-in-Ok-clause-file c = ap Some c.in-Ok.ensures.cases.0 ∙ sym (text_is_file c.args.word.now (sym c.is_text_file.ensures ∙ c.if-not-is_text_file.false) c.in-Ok.ensures.cases.1)

pub returns-in-Err-clause-file : goal.returns-in-Err-clause-file
returns-in-Err-clause-file c = sym (no_text_no_file c.args.word.now c.in-Err.ensures.cases.0)
