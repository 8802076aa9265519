use Rattle.pw_commands_phases.proofs.FirstLemmas.{sum_made}
use Rattle.pw_commands_phases.proofs.texts.sum_file.Goals as goal

pub returns : goal.returns
returns c = sum_made c.args.flow.now c.in_ok-summary.summary c.write.result c.in_ok-summary.ensures.summarises c.write.ensures
