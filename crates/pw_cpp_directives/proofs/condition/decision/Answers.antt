use Rattle.pw_cpp_directives.proofs.Judging.{decides-none, decides-number}
use Rattle.pw_cpp_directives.proofs.condition.decision.Goals as goal

pub returns-in-Some : goal.returns-in-Some
returns-in-Some c = λ items h. c.decided.ensures items (decides-number items c.args.value c.in-Some.number c.in-Some.is h)

pub returns-in-None : goal.returns-in-None
returns-in-None c = λ items h. decides-none items c.args.value c.in-None.is h
