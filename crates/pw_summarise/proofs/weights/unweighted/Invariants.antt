use Rattle.std.proofs.Common.{◌≡◌, map}
use Rattle.pw_summarise.specs.Tallies.{none_yet}
use Rattle.pw_summarise.proofs.weights.unweighted.Given as goal

abbrev pub invariant-loop-name : goal.invariant-loop-name
invariant-loop-name l = l.refs.items ≡ map none_yet l.yielded
