-- The functions that may be moved are the same by summaries and by flow graphs.
use Rattle.std.proofs.Common.{◌≡◌, ◌⊎◌, ℕ, Bool, true, false, List, map, length, refl, sym, ap, subst, ◌∙◌, inl, inr}
use Rattle.std.specs.List.{flat_map, list_any}
use Rattle.std.specs.Str.{bytes_eq}
use Rattle.std.proofs.lemmas.Bool.{or_cases, or_left, or_right}
use Rattle.std.proofs.lemmas.Slice.Eq.{bytes_eq-Decides}
use Rattle.pw_value.specs.ProgramNames.{library_functions}
use Rattle.pw_flow.specs.declared.flow.FlowFn.{FlowFn}
use Rattle.pw_flow.specs.declared.flow.FlowModule.{FlowModule}
use Rattle.pw_link_rules.specs.Linking.{library_declarations}
use Rattle.pw_run_languages.specs.Programs.{Program as FlowProgram, functions_of}
use Rattle.pw_files.proofs.Standing.{Has, has_by, contains_by, has_right, has_map, has_map_back, has_flat, has_flat_back}
use Rattle.pw_summary.specs.declared.summary.Summary.{Summary}
use Rattle.pw_summarise.specs.Summarises.{function_entry, function_entries}
use Rattle.pw_graph.specs.declared.graph.CallGraph.{CallGraph}
use Rattle.pw_graph.specs.Program.{IsTaken, IsEscaped, IsGraphOf}
use Rattle.pw_graph.specs.Program as summaries
use Rattle.pw_clusters.specs.Clusters.{IsDefined}
use Rattle.pw_clusters.specs.Naming.{TellsMovable}
use Rattle.pw_db_sound.specs.CallGraphs.{Node, IsMovable}
use Rattle.pw_run_languages.specs.LawfulPrograms.{IsProgram, has_name, taken_names, node_of, graph_of}
use Rattle.pw_law_analysis.specs.SummaryLaws.{HaveShapes}
use Rattle.pw_law_analysis.specs.SummaryGraphs.{AllSummarise, is_among, is_addressed_in, name_at, node_at, nodes_from, named_graph}
use Rattle.pw_law_analysis.proofs.Lists.{clash, any_has, has_any, named_has, has_named}
use Rattle.pw_law_analysis.proofs.Addresses.{taken_in, summary_of, module_of, taken_addressed, escaped_addressed, function_taken}
use Rattle.pw_law_analysis.proofs.Places.{node_back, name_of, place_of, there_at}
use Rattle.pw_law_analysis.proofs.Shapes.{function_listed}

-- ---- names among entries

not_so : (b : Bool) → (b ≡ true → ⊥) → b ≡ false
not_so true never = absurd (never refl)
not_so false never = refl

abbrev named : List (List ℕ × List ℕ) → List (List ℕ)
named entries = map (λ e. e.0) entries

among : (entries : List (List ℕ × List ℕ)) (name : List ℕ) → is_among entries name ≡ true → Has name (named entries)
among entries name e =
    let r = any_has (λ (x : List ℕ × List ℕ). bytes_eq x.0 name) entries e in
    subst (λ (n : List ℕ). Has n (named entries)) ((bytes_eq-Decides r.0.0 name).0 r.2) (has_map (λ (x : List ℕ × List ℕ). x.0) r.0 entries r.1)

to_among : (entries : List (List ℕ × List ℕ)) (name : List ℕ) → Has name (named entries) → is_among entries name ≡ true
to_among entries name h =
    let r = has_map_back (λ (x : List ℕ × List ℕ). x.0) name entries h in
    has_any (λ (x : List ℕ × List ℕ). bytes_eq x.0 name) entries r.0 r.1 ((bytes_eq-Decides r.0.0 name).1 r.2)

-- ---- what nodes say of summaries

abbrev is_defined : List Summary → List ℕ → Bool
is_defined ss name = list_any (λ s. is_among s.functions name) ss

abbrev is_addressed : List Summary → List ℕ → Bool
is_addressed ss name = list_any (λ s. is_addressed_in s name) ss

taken_seen : (ss : List Summary) (name : List ℕ) → IsTaken ss name → is_addressed ss name ≡ true
taken_seen ss name t =
    has_any (λ (s : Summary). is_addressed_in s name) ss t.summary (has_by t.summary ss t.stands)
    (or_left (is_among t.summary.taken name) (list_any (λ (e : List ℕ). bytes_eq e name) t.summary.escaped)
    (to_among t.summary.taken name (has_by name (named t.summary.taken) t.taken)))

escaped_seen : (ss : List Summary) (name : List ℕ) → IsEscaped ss name → is_addressed ss name ≡ true
escaped_seen ss name t =
    has_any (λ (s : Summary). is_addressed_in s name) ss t.summary (has_by t.summary ss t.stands)
    (or_right (is_among t.summary.taken name) (list_any (λ (e : List ℕ). bytes_eq e name) t.summary.escaped)
    (has_any (λ (e : List ℕ). bytes_eq e name) t.summary.escaped name (has_by name t.summary.escaped t.escaped) ((bytes_eq-Decides name name).1 refl)))

seen_addressed : (ss : List Summary) (name : List ℕ) → is_addressed ss name ≡ true → IsTaken ss name ⊎ IsEscaped ss name
seen_addressed ss name e =
    let s = any_has (λ (s : Summary). is_addressed_in s name) ss e in
    elim (or_cases (is_among s.0.taken name) (list_any (λ (e : List ℕ). bytes_eq e name) s.0.escaped) s.2) [
      | inl t ↦ inl (record { summary = s.0; stands = contains_by s.0 ss s.1; taken = contains_by name (named s.0.taken) (among s.0.taken name t) })
      | inr k ↦
          let r = any_has (λ (e : List ℕ). bytes_eq e name) s.0.escaped k in
          let own : Has name s.0.escaped = subst (λ (n : List ℕ). Has n s.0.escaped) ((bytes_eq-Decides r.0 name).0 r.2) r.1 in
          inr (record { summary = s.0; stands = contains_by s.0 ss s.1; escaped = contains_by name s.0.escaped own })
    ]

abbrev all_defined : List Summary → List (List ℕ × List ℕ)
all_defined ss = flat_map (λ s. s.functions) ss

seen_defined : (ss : List Summary) (name : List ℕ) → is_defined ss name ≡ true → Has name (named (all_defined ss))
seen_defined ss name e =
    let s = any_has (λ (s : Summary). is_among s.functions name) ss e in
    let h = has_map_back (λ (x : List ℕ × List ℕ). x.0) name s.0.functions (among s.0.functions name s.2) in
    subst (λ (n : List ℕ). Has n (named (all_defined ss))) h.2
    (has_map (λ (x : List ℕ × List ℕ). x.0) h.0 (all_defined ss) (has_flat (λ (s : Summary). s.functions) s.0 h.0 ss s.1 h.1))

defined_seen : (ss : List Summary) (name : List ℕ) → Has name (named (all_defined ss)) → is_defined ss name ≡ true
defined_seen ss name k =
    let h = has_map_back (λ (x : List ℕ × List ℕ). x.0) name (all_defined ss) k in
    let s = has_flat_back (λ (s : Summary). s.functions) h.0 ss h.1 in
    has_any (λ (s : Summary). is_among s.functions name) ss s.0 s.1
    (to_among s.0.functions name (subst (λ (n : List ℕ). Has n (named s.0.functions)) h.2 (has_map (λ (x : List ℕ × List ℕ). x.0) h.0 s.0.functions s.2)))

-- ---- the graph by names tells which functions may be moved as the summaries do

module _ (ss : List Summary) (g : CallGraph) (is : IsGraphOf ss g) where
  tells_to : (f : List ℕ) → IsMovable (named_graph ss g) f → IsDefined ss f × (¬ IsTaken ss f) × (¬ IsEscaped ss f)
  unfolding named_graph
  tells_to f m =
      let n = node_back ss g is 0 (length g.functions) m.node (has_by m.node (nodes_from ss g 0 (length g.functions)) m.there) in
      let name : name_at g n.0 ≡ f = ap (λ (x : Node). x.name) n.2 ∙ m.name in
      let defined : is_defined ss f ≡ true = subst (λ (k : List ℕ). is_defined ss k ≡ true) name (ap (λ (x : Node). x.defined) n.2 ∙ m.defined) in
      let untaken : is_addressed ss f ≡ false = subst (λ (k : List ℕ). is_addressed ss k ≡ false) name (ap (λ (x : Node). x.taken) n.2 ∙ m.taken) in (
        contains_by f (named (all_defined ss)) (seen_defined ss f defined),
        λ t. clash (is_addressed ss f) (taken_seen ss f t) untaken,
        λ t. clash (is_addressed ss f) (escaped_seen ss f t) untaken,
      )

  tells_from : (f : List ℕ) → IsDefined ss f × (¬ IsTaken ss f) × (¬ IsEscaped ss f) → IsMovable (named_graph ss g) f
  unfolding named_graph
  tells_from f t =
      let own = has_by f (named (all_defined ss)) t.0 in
      let h = has_map_back (λ (x : List ℕ × List ℕ). x.0) f (all_defined ss) own in
      let listed = subst (λ (n : List ℕ). Has n (named (summaries.functions_of ss))) h.2
      (has_map (λ (x : List ℕ × List ℕ). x.0) h.0 (summaries.functions_of ss) (has_right h.0 library_declarations (all_defined ss) h.1)) in
      let i = place_of ss g is f listed in
      let at : name_at g i.0 ≡ f = name_of ss g is i.0 f i.1 in
      record {
        node = node_at ss g i.0;
        there = there_at ss g is i.0 f i.1;
        name = at;
        defined = subst (λ (k : List ℕ). is_defined ss k ≡ true) (sym at) (defined_seen ss f own);
        taken = subst (λ (k : List ℕ). is_addressed ss k ≡ false) (sym at)
            (not_so (is_addressed ss f) (λ e. elim (seen_addressed ss f e) [ inl a ↦ t.1 a | inr a ↦ t.2 a ]));
      }

  pub tells_movable : TellsMovable ss (named_graph ss g)
  tells_movable f = (tells_to f, tells_from f)

-- ---- both ways

module _ (q : FlowProgram) (program : IsProgram q) (shapes : HaveShapes q) (ss : List Summary) (all : AllSummarise q.modules ss) where
  pub is_taken : (name : List ℕ) → IsTaken ss name → has_name (taken_names q) name ≡ true
  is_taken name t =
      let m = taken_addressed q.modules ss all name t in
      has_named (taken_names q) name (taken_in q m.0 name m.1 m.2)

  is_escaped : (name : List ℕ) → IsEscaped ss name → has_name (taken_names q) name ≡ true
  is_escaped name t =
      let m = escaped_addressed q.modules ss all name t in
      has_named (taken_names q) name (taken_in q m.0 name m.1 m.2)

  is_address : (name : List ℕ) → IsTaken ss name ⊎ IsEscaped ss name → has_name (taken_names q) name ≡ true
  is_address name (inl t) = is_taken name t
  is_address name (inr t) = is_escaped name t

  pub movable_to : (g : CallGraph) → IsGraphOf ss g → (f : List ℕ) → IsMovable (named_graph ss g) f → IsMovable (graph_of q) f
  unfolding named_graph graph_of
  movable_to g is f m =
      let n = node_back ss g is 0 (length g.functions) m.node (has_by m.node (nodes_from ss g 0 (length g.functions)) m.there) in
      let name : name_at g n.0 ≡ f = ap (λ (x : Node). x.name) n.2 ∙ m.name in
      let defined : is_defined ss f ≡ true = subst (λ (k : List ℕ). is_defined ss k ≡ true) name (ap (λ (x : Node). x.defined) n.2 ∙ m.defined) in
      let untaken : is_addressed ss f ≡ false = subst (λ (k : List ℕ). is_addressed ss k ≡ false) name (ap (λ (x : Node). x.taken) n.2 ∙ m.taken) in
      let s = any_has (λ (s : Summary). is_among s.functions f) ss defined in
      let h = has_map_back (λ (x : List ℕ × List ℕ). x.0) f s.0.functions (among s.0.functions f s.2) in
      let own = module_of q.modules ss all s.0 s.1 in
      let e = has_map_back function_entry h.0 own.0.functions (has_by h.0 (function_entries own.0) ((own.2.functions.of h.0).0 (contains_by h.0 s.0.functions h.1))) in
      let there : Has e.0 (functions_of q) = has_flat (λ (m : FlowModule). m.functions) own.0 e.0 q.modules own.1 e.1 in
      let same : e.0.name ≡ f = ap (λ (x : List ℕ × List ℕ). x.0) e.2 ∙ h.2 in
      let names = map (λ (f : FlowFn). f.name) (functions_of q) in
      let listed = has_right f library_functions names (subst (λ (n : List ℕ). Has n names) same (has_map (λ (f : FlowFn). f.name) e.0 (functions_of q) there)) in
      record {
        node = node_of q e.0;
        there = contains_by (node_of q e.0) (map (node_of q) (functions_of q)) (has_map (node_of q) e.0 (functions_of q) there);
        name = same;
        defined = refl;
        taken = not_so (has_name (taken_names q) e.0.name) (λ t.
            let addressed : has_name (taken_names q) f ≡ true = subst (λ (n : List ℕ). has_name (taken_names q) n ≡ true) same t in
            clash (is_addressed ss f) (taken_seen ss f (function_taken q shapes ss all f listed (named_has (taken_names q) f addressed))) untaken);
      }

  pub movable_from : (g : CallGraph) → IsGraphOf ss g → (f : List ℕ) → IsMovable (graph_of q) f → IsMovable (named_graph ss g) f
  unfolding named_graph graph_of
  movable_from g is f m =
      let x = has_map_back (node_of q) m.node (functions_of q) (has_by m.node (map (node_of q) (functions_of q)) m.there) in
      let name : x.0.name ≡ f = ap (λ (n : Node). n.name) x.2 ∙ m.name in
      let untaken : has_name (taken_names q) f ≡ false = subst (λ (k : List ℕ). has_name (taken_names q) k ≡ false) name (ap (λ (n : Node). n.taken) x.2 ∙ m.taken) in
      let home = has_flat_back (λ (m : FlowModule). m.functions) x.0 q.modules x.1 in
      let s = summary_of q.modules ss all home.0 home.1 in
      let own = has_by (function_entry x.0) s.0.functions ((s.2.functions.of (function_entry x.0)).1 (contains_by (function_entry x.0) (function_entries home.0) (has_map function_entry x.0 home.0.functions home.2))) in
      let entered : Has f (named s.0.functions) = subst (λ (n : List ℕ). Has n (named s.0.functions)) name (has_map (λ (e : List ℕ × List ℕ). e.0) (function_entry x.0) s.0.functions own) in
      let listed = subst (λ (n : List ℕ). Has n (named (summaries.functions_of ss))) name
      (has_map (λ (e : List ℕ × List ℕ). e.0) (function_entry x.0) (summaries.functions_of ss) (function_listed q program ss all x.0 x.1)) in
      let i = place_of ss g is f listed in
      let at : name_at g i.0 ≡ f = name_of ss g is i.0 f i.1 in
      record {
        node = node_at ss g i.0;
        there = there_at ss g is i.0 f i.1;
        name = at;
        defined = subst (λ (k : List ℕ). is_defined ss k ≡ true) (sym at) (has_any (λ (s : Summary). is_among s.functions f) ss s.0 s.1 (to_among s.0.functions f entered));
        taken = subst (λ (k : List ℕ). is_addressed ss k ≡ false) (sym at)
            (not_so (is_addressed ss f) (λ t. clash (has_name (taken_names q) f) (is_address f (seen_addressed ss f t)) untaken));
      }
