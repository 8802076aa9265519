use Rattle.std.proofs.Common.{arith}
use Rattle.std.proofs.lemmas.Grind.{common_steps}
use Rattle.pw_parse_grammar.specs.Declarations.{braced}
use Rattle.pw_parse_decl.proofs.decl.braced.Goals as goal

pub returns : goal.returns
unfolding braced
returns g c = grind (arith, common_steps, c.statements_show_their_lists.ensures.braces)
