-- The names of flow graphs that have files are as long as names may be, and so are those of their summaries.
use Rattle.std.proofs.Common.{◌≡◌, ℕ, Bool, List, [], ◌∷◌, ◌++◌, length, map, subst, ◌∙◌, inl, inr}
use Rattle.std.specs.Prelude.{Option, Some, None}
use Rattle.std.specs.List.{flat_map}
use Rattle.pw_value.specs.declared.value.Kind.{Kind}
use Rattle.pw_value.specs.Names.{IsNameLength}
use Rattle.pw_fields.specs.FieldNames.{IsRisingFrom}
use Rattle.pw_files.proofs.Standing.{Has, contains_by, has_by, each_by, has_left, has_right, has_split, has_map, has_map_back, has_flat, has_flat_back}
use Rattle.pw_files.proofs.Views.{seen}
use Rattle.pw_flow.specs.Addressed.{addressed}
use Rattle.pw_flow.specs.FlowGraph.{op_names, names_in_block, names_in_function, names_in_global, global_names, function_names, declared_names}
use Rattle.pw_flow.specs.declared.flow.Block.{Block}
use Rattle.pw_flow.specs.declared.flow.FlowFn.{FlowFn}
use Rattle.pw_flow.specs.declared.flow.FlowGlobal.{FlowGlobal}
use Rattle.pw_flow.specs.declared.flow.FlowModule.{FlowModule}
use Rattle.pw_flow.specs.declared.flow.Op.{Op}
use Rattle.pw_flow.specs.declared.flow.Op.TheVariants.{AddrGlobal, AddrFn}
use Rattle.pw_flowfile.specs.FlowFile.{all_in_global, all_in_function, names_of}
use Rattle.pw_summary.specs.declared.summary.Summary.{Summary}
use Rattle.pw_summarise.specs.Summarises.{in_function, in_module, function_shape, as_taken, as_escaped, taken_of, escaped_of, global_entry, function_entry, function_entries, Summarises}
use Rattle.pw_summarise.proofs.Orders.{keys_over}
use Rattle.pw_law_answers.specs.Held.{HasFile, HasNames}
use Rattle.pw_law_answers.proofs.Summaries.{taken_is}

-- ---- names of a file

long_in : (before : List ℕ) (names : List (List ℕ)) (n : List ℕ) → IsRisingFrom before names → Has n names → IsNameLength (length n)
long_in before [] n up h = absurd h
long_in before (name ∷ names) n up (inl e) = subst (λ (m : List ℕ). IsNameLength (length m)) e up.0
long_in before (name ∷ names) n up (inr h) = long_in name names n up.2 h

-- each name of the module is a name
abbrev AreNames : FlowModule → Type 0
AreNames m = (n : List ℕ) → Has n (names_of m) → IsNameLength (length n)

filed : (m : FlowModule) → HasFile m → AreNames m
filed m file n h =
    let table = file.1.1.fits.names in
    long_in [] file.1.0 n table.rising (has_by n file.1.0 ((table.of n).1 (contains_by n (names_of m) h)))

-- ---- names of a module

in_globals : (m : FlowModule) (n : List ℕ) → Has n (flat_map all_in_global m.globals) → Has n (names_of m)
in_globals m n h = inr (has_left n (flat_map all_in_global m.globals) (declared_names m ++ flat_map all_in_function m.functions) h)

in_functions : (m : FlowModule) (n : List ℕ) → Has n (flat_map all_in_function m.functions) → Has n (names_of m)
in_functions m n h =
    inr (has_right n (flat_map all_in_global m.globals) (declared_names m ++ flat_map all_in_function m.functions) (has_right n (declared_names m) (flat_map all_in_function m.functions) h))

function_there : (m : FlowModule) (n : List ℕ) → Has n (function_names m) → Has n (names_of m)
function_there m n h =
    let p = has_map_back (λ (f : FlowFn). f.name) n m.functions h in
    in_functions m n (has_flat all_in_function p.0 n m.functions p.1 (inl p.2))

global_there : (m : FlowModule) (n : List ℕ) → Has n (global_names m) → Has n (names_of m)
global_there m n h =
    let p = has_map_back (λ (g : FlowGlobal). g.name) n m.globals h in
    in_globals m n (has_flat all_in_global p.0 n m.globals p.1 (inl p.2))

addressed_there : (o : Op) (n : List ℕ) → Has n (addressed o) → Has n (op_names o)
addressed_there (AddrGlobal t g k) n h = h
addressed_there (AddrFn t f) n h = h
addressed_there _ n h = absurd h

in_function_there : (f : FlowFn) (n : List ℕ) → Has n (in_function addressed f) → Has n (names_in_function f)
in_function_there f n h =
    let p = has_flat_back (λ (b : Block). flat_map addressed b.ops) n f.blocks h in
    let q = has_flat_back addressed n p.0.ops p.2 in
    has_flat names_in_block p.0 n f.blocks p.1 (has_flat op_names q.0 n p.0.ops q.1 (addressed_there q.0 n q.2))

in_module_there : (m : FlowModule) (n : List ℕ) → Has n (in_module addressed m) → Has n (names_of m)
in_module_there m n h = elim (has_split n (flat_map names_in_global m.globals) (flat_map (in_function addressed) m.functions) h) [
  | inl k ↦
      let p = has_flat_back names_in_global n m.globals k in
      in_globals m n (has_flat all_in_global p.0 n m.globals p.1 (inr p.2))
  | inr k ↦
      let p = has_flat_back (in_function addressed) n m.functions k in
      in_functions m n (has_flat all_in_function p.0 n m.functions p.1 (inr (in_function_there p.0 n p.2)))
]

-- ---- names of a summary

escaped_is : (name : List ℕ) (o : Option (List ℕ)) (n : List ℕ) → Has n (as_escaped name o) → name ≡ n
escaped_is name None n (inl e) = e
escaped_is name None n (inr h) = absurd h
escaped_is name (Some shape) n h = absurd h

module _ (m : FlowModule) (s : Summary) (is : Summarises m s) where
  summary_function : (n : List ℕ) → Has n (map (λ f. f.0) s.functions) → Has n (names_of m)
  summary_function n h =
      let c = keys_over (λ (f : List ℕ × List ℕ). f.0) (function_entries m) s.functions is.functions n (contains_by n (map (λ f. f.0) s.functions) h) in
      function_there m n (subst (λ (ns : List (List ℕ)). Has n ns) (seen function_entry (λ f. f.0) m.functions) (has_by n (map (λ f. f.0) (function_entries m)) c))

  summary_global : (n : List ℕ) → Has n (map (λ g. g.0) s.globals) → Has n (names_of m)
  summary_global n h =
      let c = keys_over (λ g. g.0) (map global_entry m.globals) s.globals is.globals n (contains_by n (map (λ g. g.0) s.globals) h) in
      global_there m n (subst (λ (ns : List (List ℕ)). Has n ns) (seen global_entry (λ g. g.0) m.globals) (has_by n (map (λ g. g.0) (map global_entry m.globals)) c))

  summary_taken : (n : List ℕ) → Has n (map (λ f. f.0) s.taken) → Has n (names_of m)
  summary_taken n h =
      let names = in_module addressed m in
      let source = taken_of (function_entries m) m.declared names in
      let c = keys_over (λ (f : List ℕ × List ℕ). f.0) source s.taken is.taken n (contains_by n (map (λ f. f.0) s.taken) h) in
      let p = has_map_back (λ (f : List ℕ × List ℕ). f.0) n source (has_by n (map (λ f. f.0) source) c) in
      let q = has_flat_back (λ (name : List ℕ). as_taken name (function_shape (function_entries m) m.declared name)) p.0 names p.1 in
      let same = (taken_is q.0 (function_shape (function_entries m) m.declared q.0) p.0 q.2).0 ∙ p.2 in
      in_module_there m n (subst (λ (x : List ℕ). Has x names) same q.1)

  summary_escaped : (n : List ℕ) → Has n s.escaped → Has n (names_of m)
  summary_escaped n h =
      let names = in_module addressed m in
      let source = escaped_of (function_entries m) m.declared names in
      let q = has_flat_back (λ (name : List ℕ). as_escaped name (function_shape (function_entries m) m.declared name)) n names (has_by n source ((is.escaped.of n).0 (contains_by n s.escaped h))) in
      in_module_there m n (subst (λ (x : List ℕ). Has x names) (escaped_is q.0 (function_shape (function_entries m) m.declared q.0) n q.2) q.1)

pub summary_named : (m : FlowModule) (s : Summary) → HasFile m → Summarises m s → HasNames s
summary_named m s file is =
    let named : AreNames m = filed m file in
    record {
      functions = each_by (λ (f : List ℕ × List ℕ). IsNameLength (length f.0)) s.functions (λ f h. named f.0 (summary_function m s is f.0 (has_map (λ (x : List ℕ × List ℕ). x.0) f s.functions h)));
      globals = each_by (λ (g : List ℕ × List ℕ × Option Kind × Bool). IsNameLength (length g.0)) s.globals (λ g h. named g.0 (summary_global m s is g.0 (has_map (λ (x : List ℕ × List ℕ × Option Kind × Bool). x.0) g s.globals h)));
      taken = each_by (λ (f : List ℕ × List ℕ). IsNameLength (length f.0)) s.taken (λ f h. named f.0 (summary_taken m s is f.0 (has_map (λ (x : List ℕ × List ℕ). x.0) f s.taken h)));
      escaped = each_by (λ (n : List ℕ). IsNameLength (length n)) s.escaped (λ n h. named n (summary_escaped m s is n h));
    }
