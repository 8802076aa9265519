use Rattle.pw_interp_operands.proofs.NodeLaws.{no_answer_behind}
use Rattle.pw_interp_operands.proofs.answers.nothing.Goals as goal

pub returns : goal.returns
returns c e token ty form given w is bound = no_answer_behind token ty e bound given form w is
