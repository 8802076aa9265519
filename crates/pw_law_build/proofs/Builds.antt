-- What a build is refused for.
use Rattle.std.proofs.Common.{◌≡◌, ℕ, List, [], ◌∷◌, Option, None, Some, Result, Ok, Err, map, refl, sym, subst, ◌∙◌, inl, inr}
use Rattle.std.specs.Prelude.{◌↔◌}
use Rattle.std.specs.List.{AllByRecursion}
use Rattle.pw_value.specs.declared.fault.LinkFault.{LinkFault}
use Rattle.pw_flow.specs.declared.flow.FlowModule.{FlowModule}
use Rattle.pw_flow.specs.ValidFlow.{IsValid}
use Rattle.pw_summary.specs.declared.summary.Summary.{Summary}
use Rattle.pw_object.specs.declared.object.Object.{Object}
use Rattle.pw_link_rules.specs.declared.interface.Interface.{Interface}
use Rattle.pw_link_rules.specs.Linking.{Links, Refusal}
use Rattle.pw_graph.specs.Program.{AreRefused}
use Rattle.pw_link.specs.Linking.{size_fault, IsRefusal}
use Rattle.pw_build_files.specs.FromBuild.FirstPhase.{Phase, compiled}
use Rattle.pw_store_modules.specs.Modules.{Source}
use Rattle.pw_build_objects.specs.Programs.{AreParts, AreSummariesOf, Completes, Parts}
use Rattle.pw_build_objects.specs.Kept.{IsGenuineIfKept, anew}
use Rattle.pw_build_files.specs.FromBuild.BuildFault.{BuildFault}
use Rattle.pw_build_files.specs.FromBuild.BuildFault.TheVariants.{Refused, LinkRefused, StoreFault, NoMemory}
use Rattle.pw_build_files.specs.FromBuild.Builds.{limit_passed, before_others, flows_of, within, first_phases, CompletesAs, BuildsBy, Builds}
use Rattle.pw_law_shown.specs.Alike.{shown, DeclaresMain}
use Rattle.pw_law_build.specs.Complete.{HasRoom, CanBeBuilt}
use Rattle.pw_build_opts.specs.declared.opts.Opts.{Opts}

-- ---- the flow graphs of a build declare their `main`

no_flows : (fault : BuildFault) (flows : List FlowModule) → ◌≡◌ {A = Result (List FlowModule) BuildFault} (Err fault) (Ok flows) → ⊥
no_flows fault flows e = absurd cc

same_flows : (a b : List FlowModule) → ◌≡◌ {A = Result (List FlowModule) BuildFault} (Ok a) (Ok b) → a ≡ b
same_flows a b e = cc

module _ (declares : (name text : List ℕ) (flow : FlowModule) → compiled name text ≡ Ok flow → DeclaresMain flow) where
  declared_by : (name text : List ℕ) (phase : Phase) (others : Result (List FlowModule) BuildFault) (flows : List FlowModule) → compiled name text ≡ phase
      → ((rest : List FlowModule) → others ≡ Ok rest → AllByRecursion DeclaresMain rest) → before_others name phase others ≡ Ok flows → AllByRecursion DeclaresMain flows
  declared_by name text (Err refusal) others flows is later e = absurd (no_flows (Refused name refusal) flows e)
  declared_by name text (Ok flow) (Err fault) flows is later e = absurd (no_flows fault flows e)
  declared_by name text (Ok flow) (Ok rest) flows is later e = subst (AllByRecursion DeclaresMain) (same_flows (flow ∷ rest) flows e) (declares name text flow is, later rest refl)

  all_declare : (sources : List Source) (flows : List FlowModule) → flows_of sources ≡ Ok flows → AllByRecursion DeclaresMain flows
  all_declare [] flows e = subst (AllByRecursion DeclaresMain) (same_flows [] flows e) tt
  all_declare (source ∷ sources) flows e = declared_by source.0 source.1 (compiled source.0 source.1) (flows_of sources) flows refl (all_declare sources) e

  within_limit : (limit : Option LinkFault) (phases : Result (List FlowModule) BuildFault) (flows : List FlowModule) → within limit phases ≡ Ok flows → phases ≡ Ok flows
  within_limit (Some fault) phases flows e = absurd (no_flows (LinkRefused fault) flows e)
  within_limit None phases flows e = e

  pub phases_declare : (sources : List Source) (flows : List FlowModule) → first_phases sources ≡ Ok flows → AllByRecursion DeclaresMain flows
  phases_declare sources flows e = all_declare sources flows (within_limit (limit_passed sources) (flows_of sources) flows e)

-- ---- what flow graphs that keep the rules are refused for

module _ (not_both : (modules : List Interface) (fault : LinkFault) → Links modules → ¬ Refusal modules fault)
    (shown_alike : (flows : List FlowModule) (ss : List Summary) (fault : LinkFault) → AllByRecursion IsValid flows → AreSummariesOf flows ss → Refusal (map shown flows) fault ↔ AreRefused ss fault)
    (room_alone : (flows : List FlowModule) (opts : Opts) (parts : Parts) (fault : LinkFault) → AllByRecursion DeclaresMain flows → AreParts flows [] opts parts → IsRefusal parts.objects opts.stack fault → size_fault parts.objects opts.stack ≡ Some fault) where
  refused_for_room : (flows : List FlowModule) (opts : Opts) (fault : LinkFault) → AllByRecursion DeclaresMain flows → Links (map shown flows) → HasRoom flows opts → Completes flows [] opts (Err fault) → ⊥
  refused_for_room flows opts fault declares together room (inl h) =
      not_both (map shown flows) fault together ((shown_alike flows h.1.summaries fault h.0 h.1.of_flows).1 h.1.refused)
  refused_for_room flows opts fault declares together room (inr h) =
      let large = room_alone flows opts h.0 fault declares h.1 h.2 in
      let e : None ≡ Some fault = sym (room h.0 h.1) ∙ large in
      absurd cc

  -- ---- builds

  module _ (declares : (sources : List Source) (flows : List FlowModule) → first_phases sources ≡ Ok flows → AllByRecursion DeclaresMain flows)
      (nothing_changed : (flows : List FlowModule) (kept : List (Option Object)) (opts : Opts) (a : Result Parts LinkFault) → AllByRecursion IsGenuineIfKept kept → Completes flows kept opts a → Completes flows [] opts (anew a)) where
    by_fault : (sources : List Source) (kept : List (Option Object)) (opts : Opts) (fault : BuildFault) → (can : CanBeBuilt sources opts) → AllByRecursion IsGenuineIfKept kept
        → CompletesAs can.accepted.flows kept opts (Err fault) → ⊥
    by_fault sources kept opts (Refused name refusal) can genuine h = h
    by_fault sources kept opts StoreFault can genuine h = h
    by_fault sources kept opts NoMemory can genuine h = h
    by_fault sources kept opts (LinkRefused fault) can genuine h =
        let a = can.accepted in
        refused_for_room a.flows opts fault (declares sources a.flows a.one_by_one) a.together can.room
        (nothing_changed a.flows kept opts (Err fault) genuine h)

    pub never_refused : (sources : List Source) (kept : List (Option Object)) (opts : Opts) (fault : BuildFault) → CanBeBuilt sources opts → AllByRecursion IsGenuineIfKept kept → Builds sources kept opts (Err fault) → ⊥
    never_refused sources kept opts fault can genuine h =
        by_fault sources kept opts fault can genuine (subst (λ (phases : Result (List FlowModule) BuildFault). BuildsBy phases kept opts (Err fault)) can.accepted.one_by_one h)
