use Rattle.pw_law_analysis.proofs.Naming.{named}
use Rattle.pw_law_analysis.proofs.analyser.named_graphs_say_the_same.Goals as goal

pub returns : goal.returns
returns c = named
