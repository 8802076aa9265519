use Rattle.pw_cpp_directives.proofs.OneEffect.{one-word}
use Rattle.pw_cpp_directives.proofs.laws.one_effect.Goals as goal

pub returns : goal.returns
returns c = λ source digits s hash tokens word effect other h k. one-word c.one_outcome.ensures c.one_meaning.ensures source digits s hash tokens word effect other h k
