use Rattle.std.proofs.lemmas.List.Elements.{All-from_recursion}
use Rattle.pw_summary.specs.Summary.{IsSummary}
use Rattle.pw_law_analysis.specs.SummaryGraphs.{named_graph}
use Rattle.pw_law_analysis.proofs.Movable.{tells_movable}
use Rattle.pw_law_analysis.proofs.analyser.databases_are_sound_by_name.Goals as goal

pub returns : goal.returns
returns c =
    λ ss colours db summaries few i.
    c.databases_are_sound.ensures ss colours db i.graph (named_graph ss i.graph) few (All-from_recursion IsSummary ss summaries.each) i i.graph_of
    (c.named_graphs_say_the_same.ensures ss i.graph i.graph_of) (tells_movable ss i.graph i.graph_of)
