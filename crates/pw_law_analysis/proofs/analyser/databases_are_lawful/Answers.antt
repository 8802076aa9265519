use Rattle.std.proofs.lemmas.List.Elements.{All-from_recursion}
use Rattle.pw_summary.specs.Summary.{IsSummary}
use Rattle.pw_law_analysis.proofs.analyser.databases_are_lawful.Goals as goal

pub returns : goal.returns
returns c = λ ss colours db linked few i. c.databases_are_lawful.ensures ss colours db few (All-from_recursion IsSummary ss linked.each) i
