use Rattle.pw_token.proofs.TokenBounds.{tokens_rise, tokens_within}
use Rattle.pw_token.proofs.laws.tokens_stand_in_order.Goals as goal

pub returns-clause-order : goal.returns-clause-order
returns-clause-order c = λ text tokens h. tokens_rise text tokens h

pub returns-clause-within : goal.returns-clause-within
returns-clause-within c = λ text tokens h. tokens_within text tokens h
