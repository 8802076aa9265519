-- The flow graphs of which the objects of a full build were made are the forms of its program.
use Rattle.std.proofs.Common.{◌≡◌, ◌↔◌, ℕ, List, [], ◌∷◌, map, Option, Some, None, refl, sym, ap, subst, ◌∙◌}
use Rattle.std.specs.Prelude.{Result, Ok, Err}
use Rattle.std.specs.FinMap as finite
use Rattle.pw_value.specs.declared.fault.LinkFault.{LinkFault}
use Rattle.pw_flow.specs.declared.flow.FlowModule.{FlowModule}
use Rattle.pw_lower.specs.Modules.{lowered}
use Rattle.pw_store_modules.specs.Modules.{Source, Texts}
use Rattle.pw_build_opts.specs.declared.opts.Opts.{Opts}
use Rattle.pw_build_objects.specs.Programs.{AreObjectsFrom, Completes, Parts}
use Rattle.pw_build_objects.proofs.FormLaws.{OneForm, forms_one}
use Rattle.pw_build.specs.FromPhaseOne.FirstPhase.{Phase, Compiles, CompilesTo, compiled}
use Rattle.pw_build.specs.Builds.{Builds, BuildsBy, FullBuild, before_others, flows_of, limit_passed, within}
use Rattle.pw_build.specs.declared.fault.BuildFault.{BuildFault}
use Rattle.pw_build.specs.declared.fault.BuildFault.TheVariants.{LinkRefused}
use Rattle.pw_cmean.specs.Worlds.{Program, ProgramModule}
use Rattle.pw_law_whole.specs.Programs.{AreFormsOf, AreModulesOf, IsModuleOf, IsProgramOf, flow_of}

module _ (exact : (name text : List ℕ) (answer : Phase) → Compiles name text answer ↔ (answer ≡ compiled name text)) where
  flow_is : (source : Source) (m : ProgramModule) → IsModuleOf source m → compiled source.0 source.1 ≡ Ok (flow_of m)
  flow_is source m is =
      let comes : CompilesTo source.0 source.1 (flow_of m) = record {
        tree = is.tree;
        typed = m.tree;
        has_tree = is.has_tree;
        checks = is.checks;
        is = ap (λ (name : List ℕ). lowered name m.tree) is.name;
      } in
      sym ((exact source.0 source.1 (Ok (flow_of m))).0 comes)

  flows_are : (sources : List Source) (ms : List ProgramModule) → AreModulesOf sources ms → flows_of sources ≡ Ok (map flow_of ms)
  flows_are [] [] are = refl
  flows_are [] (m ∷ ms) are = absurd are
  flows_are (source ∷ sources) [] are = absurd are
  flows_are (source ∷ sources) (m ∷ ms) (is, more) =
      ap (λ (c : Phase). before_others source.0 c (flows_of sources)) (flow_is source m is)
      ∙ ap (λ (r : Result (List FlowModule) BuildFault). before_others source.0 (Ok (flow_of m)) r) (flows_are sources ms more)

  no_parts : (parts : Parts) (fault : BuildFault) → Ok parts ≡ Err fault → ⊥
  no_parts parts fault e = cc

  same_ok : {X E : Type 0} (r : Result X E) (x y : X) → Ok x ≡ r → Ok y ≡ r → x ≡ y
  same_ok r x y p q = cc

  flows_within : (o : Option LinkFault) (r : Result (List FlowModule) BuildFault) (opts : Opts) (parts : Parts) → BuildsBy (within o r) [] opts (Ok parts)
      → (flows : List FlowModule) × (r ≡ Ok flows) × Completes flows [] opts (Ok parts)
  flows_within (Some fault) r opts parts b = absurd (no_parts parts (LinkRefused fault) b)
  flows_within None (Err fault) opts parts b = absurd (no_parts parts fault b)
  flows_within None (Ok flows) opts parts b = (flows, refl, b)

  completes_with : (sources : List Source) (flows : List FlowModule) (opts : Opts) (parts : Parts) → flows_of sources ≡ Ok flows → Builds sources [] opts (Ok parts) → Completes flows [] opts (Ok parts)
  completes_with sources flows opts parts e b =
      let p = flows_within (limit_passed sources) (flows_of sources) opts parts b in
      subst (λ (fs : List FlowModule). Completes fs [] opts (Ok parts)) (same_ok (flows_of sources) p.0 flows (sym p.1) (sym e)) p.2

  pub made_of : OneForm → (texts : Texts) (opts : Opts) (parts : Parts) (p : Program) (forms : List FlowModule) → FullBuild texts opts (Ok parts) → IsProgramOf texts p → AreFormsOf opts.optimise p forms
      → AreObjectsFrom parts.database forms [] parts.objects parts.fresh
  made_of one texts opts parts p forms built of are =
      let flows = map flow_of p.modules in
      let done = completes_with (finite.entries texts) flows opts parts (flows_are (finite.entries texts) p.modules of) built in
      let same : done.0.forms ≡ forms = forms_one one opts.optimise flows done.0.forms forms done.0.of_flows are in
      subst (λ (ms : List FlowModule). AreObjectsFrom parts.database ms [] parts.objects parts.fresh) same done.0.objects
