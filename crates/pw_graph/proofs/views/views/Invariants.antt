use Rattle.std.proofs.Common.{◌≡◌, map, take}
use Rattle.pw_graph.specs.Program.{interface_of}
use Rattle.pw_graph.proofs.views.views.Given as goal

abbrev pub invariant-loop-summary : goal.invariant-loop-summary
invariant-loop-summary l = l.modules.items ≡ map interface_of (take l.summary-index l.summaries)
