use Rattle.std.proofs.Common.{ap, sym, ◌∙◌}
use Rattle.pw_interp_calls.specs.Functions.{callable_of}
use Rattle.pw_interp_machine.specs.Ends.{finished}
use Rattle.pw_interp_machine.proofs.results.finish.Goals as goal

pub returns-in-Some : goal.returns-in-Some
returns-in-Some c = c.ended_with.ensures ∙ sym (ap (finished (callable_of c.args.main).body) c.in-Some.is)

pub returns-in-None : goal.returns-in-None
returns-in-None c = c.unreturned.ensures ∙ sym (ap (finished (callable_of c.args.main).body) c.in-None.is)
