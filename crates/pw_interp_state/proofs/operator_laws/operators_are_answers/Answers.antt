use Rattle.pw_interp_state.proofs.OperatorLaws.{truth_is, unary_is, binary_is, advance_is, convert_is}
use Rattle.pw_interp_state.proofs.operator_laws.operators_are_answers.Goals as goal

pub returns-clause-truth : goal.returns-clause-truth
returns-clause-truth c = truth_is

pub returns-clause-unary : goal.returns-clause-unary
returns-clause-unary c = unary_is

pub returns-clause-binary : goal.returns-clause-binary
returns-clause-binary c = binary_is

pub returns-clause-advance : goal.returns-clause-advance
returns-clause-advance c = advance_is

pub returns-clause-convert : goal.returns-clause-convert
returns-clause-convert c = convert_is
