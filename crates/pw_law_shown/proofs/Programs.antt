-- The modules of a program, by their flow graphs, their summaries and their objects.
use Rattle.std.proofs.Common.{ℕ, List, [], ◌∷◌, ◌++◌, map, sym, subst, inl, inr}
use Rattle.std.specs.List.{AllByRecursion, flat_map}
use Rattle.std.proofs.lemmas.List.Concat.{flat_map-cons}
use Rattle.pw_value.specs.declared.fault.LinkFault.{LinkFault}
use Rattle.pw_flow.specs.declared.flow.FlowModule.{FlowModule}
use Rattle.pw_flow.specs.FlowGraph.{global_names}
use Rattle.pw_flow.specs.ValidFlow.{IsValid}
use Rattle.pw_files.proofs.Standing.{Has, has_left, has_right, has_split}
use Rattle.pw_summary.specs.declared.summary.Summary.{Summary}
use Rattle.pw_object.specs.declared.object.Object.{Object}
use Rattle.pw_link_rules.specs.Linking.{library, names_in, Links, Refusal}
use Rattle.pw_link_interface.specs.Interface.{interface}
use Rattle.pw_graph.specs.Program.{interface_of}
use Rattle.pw_law_shown.specs.Alike.{shown, AreSummariesOf, DeclaresMain, globals_of, AreObjectsIn, ShowModules}
use Rattle.pw_law_shown.proofs.Modules.{alike, uses_alike, shows_module, globals_back, shown_alike, shown_uses}
use Rattle.pw_law_shown.proofs.Tests.{Alike, UsesAlike, Each, Same, same, turned, links, refused}

-- ---- flow graphs and summaries, module by module

all_shown : (flows : List FlowModule) (ss : List Summary) → AllByRecursion IsValid flows → AreSummariesOf flows ss → Each Alike (map shown flows) (map interface_of ss)
all_shown [] [] valid sums = tt
all_shown [] (s ∷ ss) valid sums = absurd sums
all_shown (m ∷ ms) [] valid sums = absurd sums
all_shown (m ∷ ms) (s ∷ ss) valid sums = (shown_alike m s valid.0 sums.0, all_shown ms ss valid.1 sums.1)

all_use_shown : (flows : List FlowModule) (ss : List Summary) → AllByRecursion IsValid flows → AreSummariesOf flows ss → Each (UsesAlike []) (map shown flows) (map interface_of ss)
all_use_shown [] [] valid sums = tt
all_use_shown [] (s ∷ ss) valid sums = absurd sums
all_use_shown (m ∷ ms) [] valid sums = absurd sums
all_use_shown (m ∷ ms) (s ∷ ss) valid sums = (shown_uses m s valid.0 sums.0, all_use_shown ms ss valid.1 sums.1)

same_shown : (flows : List FlowModule) (ss : List Summary) → AllByRecursion IsValid flows → AreSummariesOf flows ss → Same (map shown flows) (map interface_of ss)
same_shown flows ss valid sums = same [] (map shown flows) (map interface_of ss) (all_shown flows ss valid sums) (all_use_shown flows ss valid sums) (λ n h. absurd h)

pub shown_linked : (flows : List FlowModule) (ss : List Summary) → AllByRecursion IsValid flows → AreSummariesOf flows ss → (Links (map shown flows) → Links (map interface_of ss)) × (Links (map interface_of ss) → Links (map shown flows))
shown_linked flows ss valid sums =
    let is = map shown flows in
    let js = map interface_of ss in
    let both = same_shown flows ss valid sums in
    (λ l. links is js both l, λ l. links js is (turned is js both) l)

pub shown_refused : (flows : List FlowModule) (ss : List Summary) → AllByRecursion IsValid flows → AreSummariesOf flows ss → (fault : LinkFault)
    → (Refusal (map shown flows) fault → Refusal (map interface_of ss) fault) × (Refusal (map interface_of ss) fault → Refusal (map shown flows) fault)
shown_refused flows ss valid sums fault =
    let is = map shown flows in
    let js = map interface_of ss in
    let both = same_shown flows ss valid sums in
    (λ r. refused is js both fault r, λ r. refused js is (turned is js both) fault r)

-- ---- summaries and objects, module by module

-- objects that the second phase made show what their modules do
all_show : (program flows : List FlowModule) (ss : List Summary) (os : List Object) → AllByRecursion IsValid flows → AreSummariesOf flows ss → AreObjectsIn program flows os → ShowModules program flows ss os
all_show program [] [] [] valid sums objects = tt
all_show program [] [] (o ∷ os) valid sums objects = absurd objects
all_show program [] (s ∷ ss) os valid sums objects = absurd sums
all_show program (m ∷ ms) [] os valid sums objects = absurd sums
all_show program (m ∷ ms) (s ∷ ss) [] valid sums objects = absurd objects
all_show program (m ∷ ms) (s ∷ ss) (o ∷ os) valid sums objects = (shows_module m s valid.0 sums.0 program o objects.0, all_show program ms ss os valid.1 sums.1 objects.1)

all_alike : (program flows : List FlowModule) (ss : List Summary) (os : List Object) → AllByRecursion IsValid flows → AllByRecursion DeclaresMain flows → AreSummariesOf flows ss → ShowModules program flows ss os
    → Each Alike (map interface_of ss) (map interface os)
all_alike program [] [] [] valid declares sums told = tt
all_alike program [] [] (o ∷ os) valid declares sums told = absurd told
all_alike program [] (s ∷ ss) os valid declares sums told = absurd sums
all_alike program (m ∷ ms) [] os valid declares sums told = absurd sums
all_alike program (m ∷ ms) (s ∷ ss) [] valid declares sums told = absurd told
all_alike program (m ∷ ms) (s ∷ ss) (o ∷ os) valid declares sums told =
    (alike m s valid.0 sums.0 program declares.0 o told.0, all_alike program ms ss os valid.1 declares.1 sums.1 told.1)

all_use_alike : (program flows : List FlowModule) (ss : List Summary) (os : List Object) → AllByRecursion IsValid flows → AllByRecursion DeclaresMain flows → AreSummariesOf flows ss → ShowModules program flows ss os
    → Each (UsesAlike (globals_of program)) (map interface_of ss) (map interface os)
all_use_alike program [] [] [] valid declares sums told = tt
all_use_alike program [] [] (o ∷ os) valid declares sums told = absurd told
all_use_alike program [] (s ∷ ss) os valid declares sums told = absurd sums
all_use_alike program (m ∷ ms) [] os valid declares sums told = absurd sums
all_use_alike program (m ∷ ms) (s ∷ ss) [] valid declares sums told = absurd told
all_use_alike program (m ∷ ms) (s ∷ ss) (o ∷ os) valid declares sums told =
    (uses_alike m s valid.0 sums.0 program declares.0 o told.0, all_use_alike program ms ss os valid.1 declares.1 sums.1 told.1)

-- ---- the globals of the program are defined

globals_in : (flows : List FlowModule) (ss : List Summary) → AllByRecursion IsValid flows → AreSummariesOf flows ss → (n : List ℕ) → Has n (globals_of flows) → Has n (flat_map names_in (map interface_of ss))
globals_in [] [] valid sums n h = absurd h
globals_in [] (s ∷ ss) valid sums n h = absurd sums
globals_in (m ∷ ms) [] valid sums n h = absurd sums
globals_in (m ∷ ms) (s ∷ ss) valid sums n h =
    let own = names_in (interface_of s) in
    let rest = flat_map names_in (map interface_of ss) in
    let there : Has n (own ++ rest) = elim (has_split n (global_names m) (flat_map global_names ms) (subst (λ (ns : List (List ℕ)). Has n ns) (flat_map-cons global_names m ms) h)) [
      | inl k ↦ has_left n own rest (has_right n (map (λ f. f.0) s.functions) (map (λ g. g.0) s.globals) (globals_back m s valid.0 sums.0 n k))
      | inr k ↦ has_right n own rest (globals_in ms ss valid.1 sums.1 n k)
    ] in
    subst (λ (ns : List (List ℕ)). Has n ns) (sym (flat_map-cons names_in (interface_of s) (map interface_of ss))) there

-- ---- the tests

same_by : (flows : List FlowModule) (ss : List Summary) (os : List Object) → AllByRecursion IsValid flows → AllByRecursion DeclaresMain flows → AreSummariesOf flows ss → ShowModules flows flows ss os
    → Same (map interface_of ss) (map interface os)
same_by flows ss os valid declares sums told =
    same (globals_of flows) (map interface_of ss) (map interface os) (all_alike flows flows ss os valid declares sums told) (all_use_alike flows flows ss os valid declares sums told)
    (λ n h. has_right n (names_in library) (flat_map names_in (map interface_of ss)) (globals_in flows ss valid sums n h))

pub linked_by : (flows : List FlowModule) (ss : List Summary) (os : List Object) → AllByRecursion IsValid flows → AllByRecursion DeclaresMain flows → AreSummariesOf flows ss → ShowModules flows flows ss os
    → (Links (map interface_of ss) → Links (map interface os)) × (Links (map interface os) → Links (map interface_of ss))
linked_by flows ss os valid declares sums told =
    let is = map interface_of ss in
    let js = map interface os in
    let both = same_by flows ss os valid declares sums told in
    (λ l. links is js both l, λ l. links js is (turned is js both) l)

pub linked_alike : (flows : List FlowModule) (ss : List Summary) (os : List Object) → AllByRecursion IsValid flows → AllByRecursion DeclaresMain flows → AreSummariesOf flows ss → AreObjectsIn flows flows os
    → (Links (map interface_of ss) → Links (map interface os)) × (Links (map interface os) → Links (map interface_of ss))
linked_alike flows ss os valid declares sums objects = linked_by flows ss os valid declares sums (all_show flows flows ss os valid sums objects)

pub refused_alike : (flows : List FlowModule) (ss : List Summary) (os : List Object) → AllByRecursion IsValid flows → AllByRecursion DeclaresMain flows → AreSummariesOf flows ss → AreObjectsIn flows flows os → (fault : LinkFault)
    → (Refusal (map interface_of ss) fault → Refusal (map interface os) fault) × (Refusal (map interface os) fault → Refusal (map interface_of ss) fault)
refused_alike flows ss os valid declares sums objects fault =
    let is = map interface_of ss in
    let js = map interface os in
    let both = same_by flows ss os valid declares sums (all_show flows flows ss os valid sums objects) in
    (λ r. refused is js both fault r, λ r. refused js is (turned is js both) fault r)
