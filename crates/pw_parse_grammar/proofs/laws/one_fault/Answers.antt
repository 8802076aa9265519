use Rattle.pw_parse_grammar.proofs.OneFault.{one-fault}
use Rattle.pw_parse_grammar.proofs.laws.one_fault.Goals as goal

pub returns : goal.returns
returns c = one-fault
