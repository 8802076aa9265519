use Rattle.pw_cpp_expand.specs.Lookahead.{Tokens}
use Rattle.pw_cpp_expand.proofs.Places.{reads-first}
use Rattle.pw_cpp_expand.proofs.laws.line_in_order.Goals as goal

pub returns : goal.returns
returns c = λ text at p q tokens e h. reads-first text at p (Tokens tokens q) e h
