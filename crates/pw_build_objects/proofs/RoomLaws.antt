-- What the objects of a program are refused for.
use Rattle.std.proofs.Common.{◌≡◌, ◌↔◌, ◌⊎◌, inl, inr, Bool, List, [], map, Some, Result, Err, sym, subst}
use Rattle.std.specs.List.{AllByRecursion}
use Rattle.std.specs.Prelude.{IfErr}
use Rattle.pw_value.specs.declared.fault.LinkFault.{LinkFault}
use Rattle.pw_value.specs.declared.fault.LinkFault.TheVariants as link
use Rattle.pw_flow.specs.declared.flow.FlowModule.{FlowModule}
use Rattle.pw_flow.specs.ValidFlow.{IsValid}
use Rattle.pw_summary.specs.declared.summary.Summary.{Summary}
use Rattle.pw_object.specs.declared.object.Object.{Object}
use Rattle.pw_graph.specs.Program as graph
use Rattle.pw_link_rules.specs.declared.interface.Interface.{Interface}
use Rattle.pw_link_rules.specs.Linking.{Links, Refusal}
use Rattle.pw_link_interface.specs.Interface.{interface}
use Rattle.pw_link.specs.Linking.{size_fault, IsRefusal, no_program, too_large}
use Rattle.pw_law_shown.specs.Alike.{AreObjectsIn, DeclaresMain}
use Rattle.pw_build_objects.specs.Programs.{AreForms, AreParts, AreSummariesOf, BreakRule, KeepRules, Parts}
use Rattle.pw_build_objects.proofs.Databases.{parts_in}
use Rattle.pw_build_opts.specs.declared.opts.Opts.{Opts}

-- the law on which it stands: summaries and objects are refused alike
abbrev pub LinkedAlike : Type 0
LinkedAlike = (flows : List FlowModule) (ss : List Summary) (objects : List Object)
    → AllByRecursion IsValid flows → AllByRecursion DeclaresMain flows → AreSummariesOf flows ss → AreObjectsIn flows flows objects → graph.AreLinked ss ↔ Links (map interface objects)

-- and forms have what their modules have
pub record Forms : Type 0 where
  pub lawful : (o : Bool) (flows forms : List FlowModule) → AreForms o flows forms → AllByRecursion IsValid flows → AllByRecursion IsValid forms
  pub declare : (o : Bool) (flows forms : List FlowModule) → AreForms o flows forms → AllByRecursion DeclaresMain flows → AllByRecursion DeclaresMain forms

pub parts_link : Forms → LinkedAlike → (flows : List FlowModule) (opts : Opts) (parts : Parts) → AllByRecursion DeclaresMain flows → AreParts flows [] opts parts → Links (map interface parts.objects)
parts_link keep alike flows opts parts declares are =
    let valid = keep.lawful opts.optimise flows are.forms are.of_flows are.lawful in
    (alike are.forms are.database.summaries parts.objects valid (keep.declare opts.optimise flows are.forms are.of_flows declares) are.database.of_flows
    (parts_in are.forms opts.colours parts valid are.database are.objects)).0 are.database.linked

pub room_alone : Forms → LinkedAlike → ((modules : List Interface) (fault : LinkFault) → Links modules → ¬ Refusal modules fault)
    → (flows : List FlowModule) (opts : Opts) (parts : Parts) (fault : LinkFault) → AllByRecursion DeclaresMain flows → AreParts flows [] opts parts → IsRefusal parts.objects opts.stack fault → size_fault parts.objects opts.stack ≡ Some fault
room_alone keep alike not_both flows opts parts fault declares are (no_program refusal) = absurd (not_both (map interface parts.objects) fault (parts_link keep alike flows opts parts declares are) refusal)
room_alone keep alike not_both flows opts parts fault declares are (too_large links large) = large

-- ---- forms of modules that keep the rules of linking

pub no_rule_broken : {V : Type 0} → ((modules : List Interface) (fault : LinkFault) → Links modules → ¬ Refusal modules fault)
    → ((o : Bool) (flows forms : List FlowModule) (ss : List Summary) → AreForms o flows forms → AllByRecursion IsValid flows → KeepRules flows → AreSummariesOf forms ss → graph.AreLinked ss)
    → (o : Bool) (flows forms : List FlowModule) (result : Result V LinkFault) (fault : LinkFault) → result ≡ Err fault → AreForms o flows forms → AllByRecursion IsValid flows → KeepRules flows
    → (fault ≡ link.NoMemory) ⊎ BreakRule forms fault → IfErr result (λ f. (f ≡ link.NoMemory) ⊎ BreakRule flows f)
no_rule_broken not_both linked o flows forms result fault e are valid rules h = subst (λ (r : Result _ LinkFault). IfErr r (λ f. (f ≡ link.NoMemory) ⊎ BreakRule flows f)) (sym e) (by_fault h)
  where
    by_fault : (fault ≡ link.NoMemory) ⊎ BreakRule forms fault → (fault ≡ link.NoMemory) ⊎ BreakRule flows fault
    by_fault (inl none) = inl none
    by_fault (inr broken) =
        absurd (not_both (map graph.interface_of broken.summaries) fault (linked o flows forms broken.summaries are valid rules broken.of_flows) broken.refused)
