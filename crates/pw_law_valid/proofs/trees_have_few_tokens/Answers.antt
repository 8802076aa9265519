use Rattle.pw_law_valid.proofs.Tokens.{few_tokens}
use Rattle.pw_law_valid.proofs.trees_have_few_tokens.Goals as goal

pub returns : goal.returns
returns g = few_tokens
