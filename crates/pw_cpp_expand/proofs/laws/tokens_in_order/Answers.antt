use Rattle.pw_cpp_expand.proofs.Places.{tokens-in-order}
use Rattle.pw_cpp_expand.proofs.laws.tokens_in_order.Goals as goal

pub returns : goal.returns
returns c = λ source text macros pending out p q low first e h r. tokens-in-order source text macros pending out p q low first e h r
