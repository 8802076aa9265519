use Rattle.std.proofs.Common.{arith}
use Rattle.pw_law_analysis.specs.SummaryGraphs.{named_graph}
use Rattle.pw_law_analysis.proofs.Savers.{saved_come_back}
use Rattle.pw_law_analysis.proofs.analyser.roots_keep_registers.Goals as goal

pub returns : goal.returns
returns c = λ ss colours db v input linked few i.
    saved_come_back (named_graph ss i.graph) db v input (c.databases_are_lawful.ensures ss colours db linked (omega (arith, few)) i) (c.databases_are_sound_by_name.ensures ss colours db linked few i)
