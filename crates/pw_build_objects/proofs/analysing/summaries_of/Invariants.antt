use Rattle.std.proofs.Common.{length}
use Rattle.std.specs.List.{AllByRecursion}
use Rattle.pw_flow.specs.ValidFlow.{IsValid}
use Rattle.pw_summary.specs.Summary.{IsSummary}
use Rattle.pw_build_objects.proofs.LoopLemmas.{SummarisesSoFar}
use Rattle.pw_build_objects.proofs.analysing.summaries_of.Given as goal

abbrev pub invariant-loop-rest : goal.invariant-loop-rest
invariant-loop-rest l = record {
  so_far : SummarisesSoFar l.flows l.rest l.summaries.items;
  left : AllByRecursion IsValid l.rest;
  lawful : AllByRecursion IsSummary l.summaries.items;
}

abbrev pub decreases-loop-rest : goal.decreases-loop-rest
decreases-loop-rest l = length l.rest
