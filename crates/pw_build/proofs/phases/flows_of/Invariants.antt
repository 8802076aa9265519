use Rattle.std.proofs.Common.{length, map}
use Rattle.std.specs.List.{AllByRecursion}
use Rattle.pw_flow.specs.ValidFlow.{IsValid}
use Rattle.pw_build_objects.specs.Programs.{DeclaresMain}
use Rattle.pw_store_modules.specs.Views.{source}
use Rattle.pw_build.proofs.PhaseLemmas.{FlowsSoFar, LineSoFar}
use Rattle.pw_build.proofs.phases.flows_of.Given as goal

abbrev pub invariant-loop-rest : goal.invariant-loop-rest
invariant-loop-rest l = record {
  so_far : FlowsSoFar (map source l.modules) (map source l.rest) l.flows.items;
  line : LineSoFar (map source l.modules) (map source l.rest);
  lawful : AllByRecursion IsValid l.flows.items;
  declares : AllByRecursion DeclaresMain l.flows.items;
}

abbrev pub decreases-loop-rest : goal.decreases-loop-rest
decreases-loop-rest l = length l.rest
