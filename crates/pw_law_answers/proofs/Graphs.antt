-- Modules that make a program have a call graph.
use Rattle.std.proofs.Common.{◌≡◌, ◌≢◌, ℕ, ◌≤◌, Bool, true, false, List, [], ◌∷◌, ◌++◌, length, map, sym, subst, arith, inl, inr, All}
use Rattle.std.specs.Prelude.{Option, Some}
use Rattle.std.specs.List.{AllByRecursion, AllZip, IsDistinct, flat_map}
use Rattle.std.specs.Str.{bytes_eq}
use Rattle.std.proofs.lemmas.Slice.Eq.{bytes_eq-Decides}
use Rattle.pw_value.specs.declared.value.Kind.{Kind}
use Rattle.pw_value.specs.Names.{IsNameLength}
use Rattle.pw_value.specs.ProgramNames.{library_functions}
use Rattle.pw_fields.specs.FieldNames.{IsTableOf}
use Rattle.pw_files.proofs.Standing.{Has, contains_by, has_by, has_each, has_map, has_map_back, has_split, has_flat_back}
use Rattle.pw_flow.specs.ValidFlow.{AreDistinct}
use Rattle.pw_summary.specs.declared.summary.Summary.{Summary}
use Rattle.pw_summary.specs.Summary.{IsSummary}
use Rattle.pw_link_rules.specs.Linking.{library_declarations}
use Rattle.pw_graph.specs.declared.graph.CallGraph.{CallGraph}
use Rattle.pw_graph.specs.CallGraph.{IsGraph}
use Rattle.pw_graph.specs.Program.{AreLinked, IsEligible, IsGraphOf, functions_of}
use Rattle.pw_graph.specs.Making.{all_homes, all_taken, all_escaped, all_eligible, targets_from, callees, IsCallRow, ref_row, need_of}
use Rattle.pw_graph.proofs.Counts.{few_homes, few_scalars}
use Rattle.pw_graph.proofs.Once.{homes_apart, globals_apart}
use Rattle.pw_graph.proofs.IsGraph.{Entry, functions_forth, eligible_forth}
use Rattle.pw_graph.proofs.Made.{is_graph, well_made}
use Rattle.pw_summarise.specs.Summarises.{IsOrdered}
use Rattle.pw_law_answers.specs.Held.{HasNames}
use Rattle.pw_law_answers.proofs.Ordering.{ordered, table_exists, increasing_numbers}
use Rattle.pw_law_answers.proofs.Summaries.{one_item}

-- ---- names

-- the names of several summaries
abbrev pub HaveNames : List Summary → Type 0
HaveNames ss = AllByRecursion HasNames ss

key_named : {X : Type 0} (key : X → List ℕ) (xs : List X) (n : List ℕ) → AllByRecursion (λ x. IsNameLength (length (key x))) xs → Has n (map key xs) → IsNameLength (length n)
key_named key xs n all h =
    let p = has_map_back key n xs h in subst (λ (m : List ℕ). IsNameLength (length m)) p.2 (has_each (λ x. IsNameLength (length (key x))) xs p.0 all p.1)

library_named : (n : List ℕ) → Has n library_functions → IsNameLength (length n)
library_named n (inl e) = subst (λ (m : List ℕ). IsNameLength (length m)) e (omega arith, omega arith)
library_named n (inr (inl e)) = subst (λ (m : List ℕ). IsNameLength (length m)) e (omega arith, omega arith)
library_named n (inr (inr (inl e))) = subst (λ (m : List ℕ). IsNameLength (length m)) e (omega arith, omega arith)
library_named n (inr (inr (inr h))) = absurd h

function_named : (ss : List Summary) → HaveNames ss → (f : List ℕ × List ℕ) → Has f (functions_of ss) → IsNameLength (length f.0)
function_named ss names f h = elim (has_split f library_declarations (flat_map (λ s. s.functions) ss) h) [
  | inl k ↦ library_named f.0 (has_map (λ (x : List ℕ × List ℕ). x.0) f library_declarations k)
  | inr k ↦
      let p = has_flat_back (λ (s : Summary). s.functions) f ss k in
      has_each (λ (x : List ℕ × List ℕ). IsNameLength (length x.0)) p.0.functions f (has_each HasNames ss p.0 names p.1).functions p.2
]

home_named : (ss : List Summary) → HaveNames ss → (e : Entry) → Has e (all_homes ss) → IsNameLength (length e.0)
home_named ss names e h = function_named ss names (e.0, e.1) (functions_forth ss e h)

-- names that are told apart differ
apart_all : (name : List ℕ) (names : List (List ℕ)) → AllByRecursion (λ other. bytes_eq name other ≡ false) names → AllByRecursion (λ other. other ≢ name) names
apart_all name [] all = tt
apart_all name (other ∷ names) all = (λ e. absurd (let on : bytes_eq name other ≡ true = (bytes_eq-Decides name other).1 (sym e) in let off = all.0 in cc), apart_all name names all.1)

are_distinct : (names : List (List ℕ)) → IsDistinct bytes_eq names → AreDistinct names
unfolding IsDistinct
are_distinct [] all = tt
are_distinct (name ∷ names) all = (apart_all name names all.0, are_distinct names all.1)

-- ---- rows

call_rows : (names : List (List ℕ)) (targets : List (List ℕ × ℕ)) (hs : List Entry) → (rows : List (List ℕ)) × AllZip (IsCallRow names targets) hs rows
call_rows names targets [] = ([], tt)
call_rows names targets (h ∷ hs) =
    let r = increasing_numbers (callees names targets h.2) in
    let rest = call_rows names targets hs in
    (r.0 ∷ rest.0, ((r.1, r.2), rest.1))

-- ---- the graph

module _ (ss : List Summary) (lawful : All IsSummary ss) (linked : AreLinked ss) (named : HaveNames ss) where
  homes_exist : (H : List Entry) × IsOrdered (λ (h : Entry). h.0) (all_homes ss) H × (length H ≤ length (all_homes ss))
  homes_exist = ordered (λ (h : Entry). h.0) (all_homes ss) (one_item (λ (h : Entry). h.0) (all_homes ss) (are_distinct (map (λ (h : Entry). h.0) (all_homes ss)) (homes_apart ss lawful linked)))

  names_exist : (H : List Entry) → IsOrdered (λ (h : Entry). h.0) (all_homes ss) H → (names : List (List ℕ)) × IsTableOf names (map (λ (h : Entry). h.0) H)
  names_exist H order = table_exists (map (λ (h : Entry). h.0) H) (λ n h.
      let p = has_map_back (λ (e : Entry). e.0) n H h in
      subst (λ (m : List ℕ). IsNameLength (length m)) p.2 (home_named ss named p.0 (has_by p.0 (all_homes ss) ((order.of p.0).0 (contains_by p.0 H p.1)))))

  taken_exist : (names : List (List ℕ)) × IsTableOf names (all_taken ss)
  taken_exist = table_exists (all_taken ss) (λ n h. let p = has_flat_back (λ (s : Summary). map (λ f. f.0) s.taken) n ss h in key_named (λ f. f.0) p.0.taken n (has_each HasNames ss p.0 named p.1).taken p.2)

  escaped_exist : (names : List (List ℕ)) × IsTableOf names (all_escaped ss)
  escaped_exist = table_exists (all_escaped ss) (λ n h. let p = has_flat_back (λ (s : Summary). s.escaped) n ss h in has_each (λ (m : List ℕ). IsNameLength (length m)) p.0.escaped n (has_each HasNames ss p.0 named p.1).escaped p.2)

  scalars_exist : (taken escaped : List (List ℕ)) → (G : List (List ℕ × Kind)) × IsOrdered (λ (v : List ℕ × Kind). v.0) (all_eligible taken escaped ss) G × (length G ≤ length (all_eligible taken escaped ss))
  scalars_exist taken escaped =
      ordered (λ (v : List ℕ × Kind). v.0) (all_eligible taken escaped ss)
      (one_item (λ (v : List ℕ × Kind). v.0) (all_eligible taken escaped ss) (are_distinct (map (λ (v : List ℕ × Kind). v.0) (all_eligible taken escaped ss)) (globals_apart taken escaped ss lawful linked)))

  eligible_named : (v : List ℕ) (kind : Kind) → IsEligible ss v kind → IsNameLength (length v)
  eligible_named v kind e =
      let whole : List ℕ × List ℕ × Option Kind × Bool = (v, e.shape, Some kind, false) in
      has_each (λ (g : List ℕ × List ℕ × Option Kind × Bool). IsNameLength (length g.0)) e.summary.globals whole (has_each HasNames ss e.summary named (has_by e.summary ss e.stands)).globals (has_by whole e.summary.globals e.defined)

  globals_exist : (taken escaped : List (List ℕ)) (G : List (List ℕ × Kind)) → IsTableOf taken (all_taken ss) → IsTableOf escaped (all_escaped ss) → IsOrdered (λ (v : List ℕ × Kind). v.0) (all_eligible taken escaped ss) G
      → (globals : List (List ℕ)) × IsTableOf globals (map (λ (v : List ℕ × Kind). v.0) G)
  globals_exist taken escaped G of_taken of_escaped order = table_exists (map (λ (v : List ℕ × Kind). v.0) G) (λ n h.
      let p = has_map_back (λ (v : List ℕ × Kind). v.0) n G h in
      subst (λ (m : List ℕ). IsNameLength (length m)) p.2
      (eligible_named p.0.0 p.0.1 (eligible_forth ss taken escaped of_taken of_escaped p.0.0 p.0.1 (has_by p.0 (all_eligible taken escaped ss) ((order.of p.0).0 (contains_by p.0 G p.1))))))

  graph_of : (H : List Entry) (names taken escaped : List (List ℕ)) (G : List (List ℕ × Kind)) (globals : List (List ℕ)) (rows : List (List ℕ))
      → IsOrdered (λ (h : Entry). h.0) (all_homes ss) H → length H ≤ length (all_homes ss) → IsTableOf names (map (λ (h : Entry). h.0) H) → IsTableOf taken (all_taken ss) → IsTableOf escaped (all_escaped ss)
      → IsOrdered (λ (v : List ℕ × Kind). v.0) (all_eligible taken escaped ss) G → length G ≤ length (all_eligible taken escaped ss) → IsTableOf globals (map (λ (v : List ℕ × Kind). v.0) G)
      → AllZip (IsCallRow names (targets_from taken 0 H)) H rows → (g : CallGraph) × IsGraphOf ss g × IsGraph g
  graph_of H names taken escaped G globals rows homes short of_names of_taken of_escaped scalars short_g of_globals are_rows =
      let few = few_homes ss linked in
      let few_g = few_scalars taken escaped ss linked in (
        record { functions = names; globals = G; calls = rows; refs = map (λ h. ref_row globals h.2) H; needs = map (λ h. need_of h.2) H },
        is_graph ss lawful H names taken escaped G globals (homes.rising, homes.of) of_names of_taken of_escaped (scalars.rising, scalars.of) of_globals rows are_rows,
        well_made ss lawful H names taken escaped G globals (homes.rising, homes.of) of_names of_taken of_escaped (scalars.rising, scalars.of) of_globals rows are_rows (omega (arith, few, short)) (omega (arith, few_g, short_g)),
      )

  pub graph_exists : (g : CallGraph) × IsGraphOf ss g × IsGraph g
  graph_exists =
      let homes = homes_exist in
      let names = names_exist homes.0 homes.1 in
      let taken = taken_exist in
      let escaped = escaped_exist in
      let scalars = scalars_exist taken.0 escaped.0 in
      let globals = globals_exist taken.0 escaped.0 scalars.0 taken.1 escaped.1 scalars.1 in
      let rows = call_rows names.0 (targets_from taken.0 0 homes.0) homes.0 in
      graph_of homes.0 names.0 taken.0 escaped.0 scalars.0 globals.0 rows.0 homes.1 homes.2 names.1 taken.1 escaped.1 scalars.1 scalars.2 globals.1 rows.1

  -- its names are as long as names may be
  pub graph_named : (g : CallGraph) → IsGraphOf ss g → (n : List ℕ) → Has n (g.functions ++ map (λ v. v.0) g.globals) → IsNameLength (length n)
  graph_named g of n h = elim (has_split n g.functions (map (λ v. v.0) g.globals) h) [
    | inl k ↦
        let all = map (λ (f : List ℕ × List ℕ). f.0) (functions_of ss) in
        let p = has_map_back (λ (f : List ℕ × List ℕ). f.0) n (functions_of ss) (has_by n all ((of.each_function n).0 (contains_by n g.functions k))) in
        subst (λ (m : List ℕ). IsNameLength (length m)) p.2 (function_named ss named p.0 p.1)
    | inr k ↦
        let p = has_map_back (λ (v : List ℕ × Kind). v.0) n g.globals k in
        subst (λ (m : List ℕ). IsNameLength (length m)) p.2 (eligible_named p.0.0 p.0.1 ((of.each_global p.0.0 p.0.1).0 (contains_by p.0 g.globals p.1)))
  ]
