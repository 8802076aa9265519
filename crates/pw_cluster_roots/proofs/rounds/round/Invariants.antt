use Rattle.pw_cluster_roots.proofs.RoundLaws.{IsRound}
use Rattle.pw_cluster_roots.proofs.rounds.round.Given as goal

abbrev pub invariant-loop-place : goal.invariant-loop-place
invariant-loop-place l = IsRound l.graph l.inner l.fn.settled l.settled l.roots l.added l.place
