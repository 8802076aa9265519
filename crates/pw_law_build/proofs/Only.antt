-- What is built can be built.
use Rattle.std.proofs.Common.{◌≡◌, ◌↔◌, ◌≤◌, List, [], Option, None, Some, Result, Ok, Err, map, refl, inr}
use Rattle.std.specs.Prelude.{IsOk}
use Rattle.std.specs.List.{AllByRecursion}
use Rattle.pw_io.specs.Files.{Files}
use Rattle.pw_value.specs.declared.fault.LinkFault.{LinkFault}
use Rattle.pw_flow.specs.declared.flow.FlowModule.{FlowModule}
use Rattle.pw_flow.specs.ValidFlow.{IsValid}
use Rattle.pw_summary.specs.declared.summary.Summary.{Summary}
use Rattle.pw_db.specs.Limits.{colour_limit}
use Rattle.pw_object.specs.declared.object.Object.{Object}
use Rattle.pw_link_interface.specs.Interface.{interface}
use Rattle.pw_link_rules.specs.Linking.{Links}
use Rattle.pw_graph.specs.Program.{AreLinked}
use Rattle.pw_link.specs.Linking.{size_fault, IsRefusal, too_large}
use Rattle.pw_store_modules.specs.Modules.{Source, module_map, modules_of}
use Rattle.pw_build_objects.specs.Programs.{AreParts, AreSummariesOf, Completes, Parts}
use Rattle.pw_build_objects.specs.Kept.{IsGenuineIfKept, all_fresh, anew}
use Rattle.pw_build_files.specs.FromBuild.BuildFault.{BuildFault}
use Rattle.pw_build_files.specs.FromBuild.Builds.{first_phases, Builds, BuildsBy}
use Rattle.pw_build_files.specs.Building.{BuildOutcome, Outcome}
use Rattle.pw_build_files.specs.Full.{BuildsImage, image_of}
use Rattle.pw_build_files.specs.Genuine.{KeepsGenuine}
use Rattle.pw_law_shown.specs.Alike.{shown, DeclaresMain}
use Rattle.pw_law_build.specs.Complete.{CanBeBuilt}
use Rattle.pw_build_opts.specs.declared.opts.Opts.{Opts}

-- the laws on which it stands
pub record Laws : Type 0 where
  pub declares : (sources : List Source) (flows : List FlowModule) → first_phases sources ≡ Ok flows → AllByRecursion DeclaresMain flows
  pub linked : (flows : List FlowModule) (ss : List Summary) → AllByRecursion IsValid flows → AreSummariesOf flows ss → Links (map shown flows) ↔ AreLinked ss
  pub links : (flows : List FlowModule) (opts : Opts) (parts : Parts) → AllByRecursion DeclaresMain flows → AreParts flows [] opts parts → Links (map interface parts.objects)
  pub one : (flows : List FlowModule) (kept : List (Option Object)) (opts : Opts) (a b : Result Parts LinkFault) → opts.colours ≤ colour_limit → Completes flows kept opts a → Completes flows kept opts b → a ≡ b
  pub nothing_changed : (flows : List FlowModule) (kept : List (Option Object)) (opts : Opts) (a : Result Parts LinkFault) → AllByRecursion IsGenuineIfKept kept → Completes flows kept opts a → Completes flows [] opts (anew a)

no_refusal : (parts : Parts) (fault : LinkFault) → ◌≡◌ {A = Result Parts LinkFault} (Ok parts) (Err fault) → ⊥
no_refusal parts fault e = cc

no_parts : (parts : Parts) (fault : BuildFault) → ◌≡◌ {A = Result Parts BuildFault} (Ok parts) (Err fault) → ⊥
no_parts parts fault e = cc

-- ---- modules

module _ (laws : Laws) where
  -- Where flow graphs come to parts that are linked, there is room for all parts that they come to.
  room_by : (flows : List FlowModule) (opts : Opts) (parts other : Parts) → opts.colours ≤ colour_limit → AllByRecursion DeclaresMain flows → Completes flows [] opts (Ok parts) → AreParts flows [] opts other
      → (size : Option LinkFault) → size_fault other.objects opts.stack ≡ size → size ≡ None
  room_by flows opts parts other few declares done are None e = refl
  room_by flows opts parts other few declares done are (Some fault) e =
      let refusal : IsRefusal other.objects opts.stack fault = too_large (laws.links flows opts other declares are) e in
      absurd (no_refusal parts fault (laws.one flows [] opts (Ok parts) (Err fault) few done (inr (other, are, refusal))))

  by_phases : (sources : List Source) (kept : List (Option Object)) (opts : Opts) (parts : Parts) → opts.colours ≤ colour_limit → AllByRecursion IsGenuineIfKept kept
      → (phases : Result (List FlowModule) BuildFault) → first_phases sources ≡ phases → BuildsBy phases kept opts (Ok parts) → CanBeBuilt sources opts
  by_phases sources kept opts parts few genuine (Err fault) is h = absurd (no_parts parts fault h)
  by_phases sources kept opts parts few genuine (Ok flows) is h =
      let done : Completes flows kept opts (Ok parts) = h in
      let declares = laws.declares sources flows is in
      let rules = done.0.rules in
      let full : Completes flows [] opts (Ok (all_fresh parts)) = laws.nothing_changed flows kept opts (Ok parts) genuine done in
      record {
        accepted = record { flows = flows; one_by_one = is; together = (laws.linked flows rules.summaries done.0.lawful rules.of_flows).1 rules.linked };
        room = λ other are. room_by flows opts (all_fresh parts) other few declares full are (size_fault other.objects opts.stack) refl;
      }

  pub can_be_built : (sources : List Source) (kept : List (Option Object)) (opts : Opts) (parts : Parts) → opts.colours ≤ colour_limit → AllByRecursion IsGenuineIfKept kept → Builds sources kept opts (Ok parts) → CanBeBuilt sources opts
  can_be_built sources kept opts parts few genuine h = by_phases sources kept opts parts few genuine (first_phases sources) refl h

-- ---- the files of a store

no_answer : (fault : BuildFault) → IsOk {T = Outcome} {E = BuildFault} (Err fault) → ⊥
no_answer fault e = cc

pub exactly : ((files : Files) (opts : Opts) (fault : BuildFault) → CanBeBuilt (modules_of files) opts → KeepsGenuine files → ¬ BuildOutcome files opts (Err fault))
    → ((files : Files) (opts : Opts) (comes : Result Outcome BuildFault) → KeepsGenuine files → BuildOutcome files opts comes → BuildsImage (module_map files) opts (image_of comes))
    → ((sources : List Source) (kept : List (Option Object)) (opts : Opts) (parts : Parts) → opts.colours ≤ colour_limit → AllByRecursion IsGenuineIfKept kept → Builds sources kept opts (Ok parts) → CanBeBuilt sources opts)
    → (files : Files) (opts : Opts) (comes : Result Outcome BuildFault) → opts.colours ≤ colour_limit → KeepsGenuine files → BuildOutcome files opts comes → IsOk comes ↔ CanBeBuilt (modules_of files) opts
exactly never full can files opts (Ok outcome) few genuine comes =
    let image : BuildsImage (module_map files) opts (Ok outcome.image) = full files opts (Ok outcome) genuine comes in
    ((λ done. can (modules_of files) [] opts image.0 few tt image.1), (λ able. refl))
exactly never full can files opts (Err fault) few genuine comes = ((λ done. absurd (no_answer fault done)), (λ able. absurd (never files opts fault able genuine comes)))
