use Rattle.std.proofs.Common.{◌≡◌, drop}
use Rattle.pw_graph.specs.Program.{main_in}
use Rattle.pw_graph.proofs.views.main_of.Given as goal

abbrev pub invariant-loop-name : goal.invariant-loop-name
invariant-loop-name l = main_in l.functions ≡ main_in (drop l.name-index l.functions)
