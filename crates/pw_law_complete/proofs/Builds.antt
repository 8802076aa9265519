-- What builds come to: accepted modules come to their parts, and all modules to an answer.
use Rattle.std.proofs.Common.{◌≡◌, ◌⊎◌, ◌≤◌, List, [], Option, None, Some, Result, Ok, Err, map, refl, sym, subst, inl, inr}
use Rattle.std.specs.List.{AllByRecursion}
use Rattle.pw_value.specs.declared.fault.LinkFault.{LinkFault}
use Rattle.pw_flow.specs.ValidFlow.{IsValid}
use Rattle.pw_flow.specs.declared.flow.FlowModule.{FlowModule}
use Rattle.pw_summary.specs.Summary.{IsSummary}
use Rattle.pw_summary.specs.declared.summary.Summary.{Summary}
use Rattle.pw_db.specs.Limits.{colour_limit}
use Rattle.pw_object.specs.declared.object.Object.{Object}
use Rattle.pw_graph.specs.Program.{AreLinked, AreRefused, interface_of}
use Rattle.pw_link.specs.Linking.{size_fault, too_large}
use Rattle.pw_link_interface.specs.Interface.{interface}
use Rattle.pw_link_rules.specs.Linking.{Links, Refusal}
use Rattle.pw_link_rules.specs.declared.interface.Interface.{Interface}
use Rattle.pw_store_modules.specs.Modules.{Source}
use Rattle.pw_build_objects.specs.Programs.{AreParts, AreSummariesOf, Parts}
use Rattle.pw_build_files.specs.FromBuild.BuildFault.{BuildFault}
use Rattle.pw_build_files.specs.FromBuild.BuildFault.TheVariants.{LinkRefused}
use Rattle.pw_build_files.specs.FromBuild.Builds.{Builds, BuildsBy, CompletesAs, first_phases}
use Rattle.pw_build_opts.specs.declared.opts.Opts.{Opts}
use Rattle.pw_law_complete.specs.Forms.{HaveFiles}
use Rattle.pw_law_shown.specs.Alike.{DeclaresMain, shown}
use Rattle.pw_law_build.specs.Complete.{CanBeBuilt}

-- the parts of modules that can be built, where nothing is kept, are linked, so they are what the build comes to
pub parts_build : ((sources : List Source) (flows : List FlowModule) → first_phases sources ≡ Ok flows → AllByRecursion DeclaresMain flows)
    → ((flows : List FlowModule) (opts : Opts) (parts : Parts) → AllByRecursion DeclaresMain flows → AreParts flows [] opts parts → Links (map interface parts.objects))
    → (sources : List Source) (opts : Opts) (parts : Parts) → (can : CanBeBuilt sources opts) → AreParts can.accepted.flows [] opts parts → Builds sources [] opts (Ok parts)
parts_build declares links sources opts parts can are =
    let a = can.accepted in
    subst (λ (phases : Result (List FlowModule) BuildFault). BuildsBy phases [] opts (Ok parts)) (sym a.one_by_one)
    (are, record { program = links a.flows opts parts (declares sources a.flows a.one_by_one) are; fits = can.room parts are })

-- ---- all modules

-- the laws on which it stands
pub record Laws : Type 0 where
  pub lawful : (sources : List Source) (flows : List FlowModule) → first_phases sources ≡ Ok flows → AllByRecursion IsValid flows
  pub declares : (sources : List Source) (flows : List FlowModule) → first_phases sources ≡ Ok flows → AllByRecursion DeclaresMain flows
  pub summaries : (flows : List FlowModule) → AllByRecursion IsValid flows → (ss : List Summary) × AreSummariesOf flows ss × AllByRecursion IsSummary ss
  pub alike : (flows : List FlowModule) (ss : List Summary) → AllByRecursion IsValid flows → AreSummariesOf flows ss → AreLinked ss → Links (map shown flows)
  pub link : (modules : List Interface) → Links modules ⊎ ((fault : LinkFault) × Refusal modules fault)
  pub links : (flows : List FlowModule) (opts : Opts) (parts : Parts) → AllByRecursion DeclaresMain flows → AreParts flows [] opts parts → Links (map interface parts.objects)
  pub parts : (flows : List FlowModule) (ss : List Summary) (kept : List (Option Object)) (opts : Opts) → opts.colours ≤ colour_limit → AllByRecursion IsValid flows → HaveFiles flows opts → AreSummariesOf flows ss → AllByRecursion IsSummary ss → AreLinked ss
      → (parts : Parts) × AreParts flows kept opts parts

-- files can hold them, where they keep the rules of linking
abbrev pub FilesHold : List FlowModule → Opts → Type 0
FilesHold flows opts = Links (map shown flows) → HaveFiles flows opts

-- flow graphs come to an answer
abbrev Answered : List FlowModule → Opts → Type 0
Answered flows opts = (answer : Result Parts BuildFault) × CompletesAs flows [] opts answer

module _ (laws : Laws) where
  -- parts that are linked, or for which text or memory is too small
  by_size : (flows : List FlowModule) (opts : Opts) (parts : Parts) → AllByRecursion DeclaresMain flows → AreParts flows [] opts parts → (size : Option LinkFault) → size_fault parts.objects opts.stack ≡ size → Answered flows opts
  by_size flows opts parts declares are None e = (Ok parts, (are, record { program = laws.links flows opts parts declares are; fits = e }))
  by_size flows opts parts declares are (Some fault) e = (Err (LinkRefused fault), inr (parts, are, too_large (laws.links flows opts parts declares are) e))

  by_rules : (flows : List FlowModule) (opts : Opts) → opts.colours ≤ colour_limit → AllByRecursion IsValid flows → AllByRecursion DeclaresMain flows → FilesHold flows opts → (ss : List Summary) → AreSummariesOf flows ss → AllByRecursion IsSummary ss
      → AreLinked ss ⊎ ((fault : LinkFault) × AreRefused ss fault) → Answered flows opts
  by_rules flows opts few valid declares files ss of lawful (inl linked) =
      let p = laws.parts flows ss [] opts few valid (files (laws.alike flows ss valid of linked)) of lawful linked in
      by_size flows opts p.0 declares p.1 (size_fault p.0.objects opts.stack) refl
  by_rules flows opts few valid declares files ss of lawful (inr refused) =
      (Err (LinkRefused refused.0), inl (valid, record { summaries = ss; of_flows = of; refused = refused.1 }))

  by_flows : (sources : List Source) (flows : List FlowModule) (opts : Opts) → opts.colours ≤ colour_limit → first_phases sources ≡ Ok flows → FilesHold flows opts → Answered flows opts
  by_flows sources flows opts few is files =
      let valid = laws.lawful sources flows is in
      let ss = laws.summaries flows valid in
      by_rules flows opts few valid (laws.declares sources flows is) files ss.0 ss.1 ss.2 (laws.link (map interface_of ss.0))

  by_phases : (sources : List Source) (opts : Opts) → opts.colours ≤ colour_limit → ((flows : List FlowModule) → first_phases sources ≡ Ok flows → FilesHold flows opts)
      → (phases : Result (List FlowModule) BuildFault) → first_phases sources ≡ phases → (answer : Result Parts BuildFault) × BuildsBy phases [] opts answer
  by_phases sources opts few files (Err fault) is = (Err fault, refl)
  by_phases sources opts few files (Ok flows) is = by_flows sources flows opts few is (files flows is)

  pub build_exists : (sources : List Source) (opts : Opts) → opts.colours ≤ colour_limit → ((flows : List FlowModule) → first_phases sources ≡ Ok flows → FilesHold flows opts) → (answer : Result Parts BuildFault) × Builds sources [] opts answer
  build_exists sources opts few files = by_phases sources opts few files (first_phases sources) refl
