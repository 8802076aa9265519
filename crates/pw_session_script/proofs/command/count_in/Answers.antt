use Rattle.std.proofs.Common.{sym}
use Rattle.pw_session_script.proofs.CommandLemmas.{no_text_no_number}
use Rattle.pw_session_script.proofs.command.count_in.Goals as goal

pub returns-in-Err-clause-read : goal.returns-in-Err-clause-read
returns-in-Err-clause-read c = sym (no_text_no_number c.args.most c.args.digits.now c.in-Err.ensures.cases.0)
