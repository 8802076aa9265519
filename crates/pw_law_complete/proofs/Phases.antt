-- What holds of each flow graph that the first phase makes holds of those of a build.
use Rattle.std.proofs.Common.{◌≡◌, ℕ, List, [], ◌∷◌, Option, None, Some, Result, Ok, Err, refl, subst}
use Rattle.std.specs.List.{AllByRecursion}
use Rattle.pw_value.specs.declared.fault.LinkFault.{LinkFault}
use Rattle.pw_flow.specs.declared.flow.FlowModule.{FlowModule}
use Rattle.pw_store_modules.specs.Modules.{Source}
use Rattle.pw_phase_one.specs.FirstPhase.{Phase, compiled}
use Rattle.pw_build_files.specs.FromBuild.BuildFault.{BuildFault}
use Rattle.pw_build_files.specs.FromBuild.BuildFault.TheVariants.{Refused, LinkRefused}
use Rattle.pw_build_files.specs.FromBuild.Builds.{before_others, first_phases, flows_of, limit_passed, within}

no_flows : (fault : BuildFault) (flows : List FlowModule) → ◌≡◌ {A = Result (List FlowModule) BuildFault} (Err fault) (Ok flows) → ⊥
no_flows fault flows e = absurd cc

same_flows : (a b : List FlowModule) → ◌≡◌ {A = Result (List FlowModule) BuildFault} (Ok a) (Ok b) → a ≡ b
same_flows a b e = cc

module _ (P : FlowModule → Type 0) (each : (name text : List ℕ) (flow : FlowModule) → compiled name text ≡ Ok flow → P flow) where
  each_by : (name text : List ℕ) (phase : Phase) (others : Result (List FlowModule) BuildFault) (flows : List FlowModule) → compiled name text ≡ phase
      → ((rest : List FlowModule) → others ≡ Ok rest → AllByRecursion P rest) → before_others name phase others ≡ Ok flows → AllByRecursion P flows
  each_by name text (Err refusal) others flows is later e = absurd (no_flows (Refused name refusal) flows e)
  each_by name text (Ok flow) (Err fault) flows is later e = absurd (no_flows fault flows e)
  each_by name text (Ok flow) (Ok rest) flows is later e = subst (AllByRecursion P) (same_flows (flow ∷ rest) flows e) (each name text flow is, later rest refl)

  all_each : (sources : List Source) (flows : List FlowModule) → flows_of sources ≡ Ok flows → AllByRecursion P flows
  all_each [] flows e = subst (AllByRecursion P) (same_flows [] flows e) tt
  all_each (source ∷ sources) flows e = each_by source.0 source.1 (compiled source.0 source.1) (flows_of sources) flows refl (all_each sources) e

  within_limit : (limit : Option LinkFault) (phases : Result (List FlowModule) BuildFault) (flows : List FlowModule) → within limit phases ≡ Ok flows → phases ≡ Ok flows
  within_limit (Some fault) phases flows e = absurd (no_flows (LinkRefused fault) flows e)
  within_limit None phases flows e = e

  pub phases_each : (sources : List Source) (flows : List FlowModule) → first_phases sources ≡ Ok flows → AllByRecursion P flows
  phases_each sources flows e = all_each sources flows (within_limit (limit_passed sources) (flows_of sources) flows e)
