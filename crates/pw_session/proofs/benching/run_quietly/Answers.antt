use Rattle.pw_session.proofs.RunLemmas.{quiet_answer}
use Rattle.pw_session.proofs.benching.run_quietly.Goals as goal

pub returns-in-Ok : goal.returns-in-Ok
returns-in-Ok c = quiet_answer c.args.budget c.args.machine.now.core c.in-Ok.source c.run_machine.result c.in-Ok.ensures c.run_machine.ensures.answer
