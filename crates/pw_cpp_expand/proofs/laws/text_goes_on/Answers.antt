use Rattle.pw_cpp_expand.proofs.Places.{text-goes-on}
use Rattle.pw_cpp_expand.proofs.ReadingOn.{reads-further}
use Rattle.pw_cpp_expand.specs.Lookahead.{Tokens}
use Rattle.pw_cpp_expand.proofs.laws.text_goes_on.Goals as goal

pub returns-clause-reads : goal.returns-clause-reads
returns-clause-reads c = λ text at p q tokens h. reads-further text at p (Tokens tokens q) h

pub returns-clause-expands : goal.returns-clause-expands
returns-clause-expands c = λ source text macros pending out p q e. text-goes-on c.lines_go_on.ensures.tokens source text macros pending out p q e
