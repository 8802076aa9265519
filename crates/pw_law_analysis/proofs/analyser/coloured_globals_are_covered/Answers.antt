use Rattle.pw_law_analysis.specs.SummaryGraphs.{named_graph}
use Rattle.pw_law_analysis.proofs.Covering.{covers}
use Rattle.pw_law_analysis.proofs.analyser.coloured_globals_are_covered.Goals as goal

pub returns : goal.returns
returns c = λ ss colours db summaries i. covers ss colours db i (named_graph ss i.graph) (c.named_graphs_say_the_same.ensures ss i.graph i.graph_of)
