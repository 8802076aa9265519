use Rattle.std.proofs.Common.{rules}
use Rattle.pw_cpp_directives.proofs.Judging.{decides-word}
use Rattle.pw_cpp_directives.proofs.condition.decided.Goals as goal

pub returns-in-Some : goal.returns-in-Some
returns-in-Some c = λ items means. decides-word items c.args.number c.in-Some.word _ means c.in-Some.is (search rules)
