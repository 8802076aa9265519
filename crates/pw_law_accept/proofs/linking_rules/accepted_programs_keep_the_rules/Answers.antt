use Rattle.pw_law_source.specs.Lowering.{flow_program}
use Rattle.pw_law_accept.proofs.Rules.{keeps}
use Rattle.pw_law_accept.proofs.linking_rules.accepted_programs_keep_the_rules.Goals as goal

pub returns : goal.returns
returns c = λ p frame_of stack accepted few. keeps (flow_program p frame_of stack) accepted.program accepted.alike few
