-- The flow graphs of an accepted program keep the rules of linking.
use Rattle.std.proofs.Common.{◌≡◌, ℕ, ◌+◌, ◌≤◌, Bool, true, false, if◌then◌else◌, List, [], ◌∷◌, length, map, refl, sym, ap, subst, ◌∙◌, inl, inr}
use Rattle.std.specs.Prelude.{Some, codes}
use Rattle.std.specs.List.{find, sum_by}
use Rattle.std.specs.Str.{bytes_eq}
use Rattle.std.proofs.lemmas.List.{length-map}
use Rattle.std.proofs.lemmas.List.Sums.{sum_by-cons}
use Rattle.std.proofs.lemmas.Slice.Eq.{bytes_eq-Decides}
use Rattle.pw_value.specs.Limits.{function_limit, global_limit}
use Rattle.pw_value.specs.ProgramNames.{start_name, main_name}
use Rattle.pw_flow.specs.declared.flow.FlowFn.{FlowFn}
use Rattle.pw_flow.specs.declared.flow.FlowModule.{FlowModule}
use Rattle.pw_flow.specs.FlowGraph.{function_names, global_names}
use Rattle.pw_flow.specs.ValidFlow.{AreDistinct, IsValid}
use Rattle.pw_flow.proofs.Once.{distinct_right}
use Rattle.pw_files.proofs.Standing.{Has, has_by, contains_by, has_each, has_map, has_map_back, has_flat, has_flat_back}
use Rattle.pw_files.proofs.Views.{seen}
use Rattle.pw_summarise.specs.Summarises.{function_entry, function_entries}
use Rattle.pw_link_rules.specs.declared.interface.Interface.{Interface}
use Rattle.pw_link_rules.specs.Linking.{HasMain, Links, few_functions, few_globals, all_defined, defined_once, all_agree, has_main, Passes, Test}
use Rattle.pw_run_languages.specs.Programs.{Program, functions_of}
use Rattle.pw_run_languages.specs.LawfulPrograms.{IsProgram}
use Rattle.pw_law_source.specs.Lowering.{DeclareAlike}
use Rattle.pw_law_build.specs.Alike.{shown}
use Rattle.pw_law_build.proofs.Mains.{main_found}
use Rattle.pw_law_accept.specs.Few.{AreFew}
use Rattle.pw_law_accept.proofs.Declared.{no_conflict}
use Rattle.pw_law_accept.proofs.Defined.{no_duplicate, no_undefined}

-- ---- counts

counts : (count : Interface → ℕ) (own : FlowModule → ℕ) → ((m : FlowModule) → count (shown m) ≡ own m) → (flows : List FlowModule) → sum_by count (map shown flows) ≡ sum_by own flows
counts count own same [] = refl
counts count own same (m ∷ ms) =
    sum_by-cons count (shown m) (map shown ms) ∙ ap (λ (n : ℕ). n + sum_by count (map shown ms)) (same m) ∙ ap (λ (n : ℕ). own m + n) (counts count own same ms) ∙ sym (sum_by-cons own m ms)

-- ---- the function of a name

found_by : (b : Bool) (f : FlowFn) (fs : List FlowFn) (name : List ℕ) → bytes_eq f.name name ≡ b → (Has name (map (λ (f : FlowFn). f.name) fs) → (g : FlowFn) × Has g fs × (g.name ≡ name) × (find (λ f. bytes_eq f.name name) fs ≡ Some g))
    → Has name (f.name ∷ map (λ (f : FlowFn). f.name) fs) → (g : FlowFn) × Has g (f ∷ fs) × (g.name ≡ name) × ((if b then Some f else find (λ f. bytes_eq f.name name) fs) ≡ Some g)
found_by true f fs name e later h = (f, inl refl, (bytes_eq-Decides f.name name).0 e, refl)
found_by false f fs name e later (inl same) = let on : bytes_eq f.name name ≡ true = (bytes_eq-Decides f.name name).1 same in absurd cc
found_by false f fs name e later (inr h) = let r = later h in (r.0, inr r.1, r.2, r.3)

finds : (fs : List FlowFn) (name : List ℕ) → Has name (map (λ (f : FlowFn). f.name) fs) → (g : FlowFn) × Has g fs × (g.name ≡ name) × (find (λ f. bytes_eq f.name name) fs ≡ Some g)
finds [] name h = absurd h
finds (f ∷ fs) name h = found_by (bytes_eq f.name name) f fs name refl (finds fs name) h

-- ---- `main`

module _ (q : Program) (is : IsProgram q) (alike : DeclareAlike q) where
  valid_there : (m : FlowModule) → Has m q.modules → IsValid m
  valid_there m h = has_each IsValid q.modules m is.modules h

  -- `main` stands beside `$start`
  main_there : Has main_name (map (λ (f : FlowFn). f.name) (functions_of q))
  main_there =
      let f = has_map_back (λ (f : FlowFn). f.name) start_name (functions_of q) (has_by start_name (map (λ (f : FlowFn). f.name) (functions_of q)) is.start) in
      let m = has_flat_back (λ (m : FlowModule). m.functions) f.0 q.modules f.1 in
      let start : Has start_name (function_names m.0) = subst (λ (n : List ℕ). Has n (function_names m.0)) f.2 (has_map (λ (f : FlowFn). f.name) f.0 m.0.functions m.2) in
      let beside = (valid_there m.0 m.1).names.start.beside.0 (contains_by start_name (function_names m.0) start) in
      let g = has_map_back (λ (f : FlowFn). f.name) main_name m.0.functions (has_by main_name (function_names m.0) beside) in
      subst (λ (n : List ℕ). Has n (map (λ (f : FlowFn). f.name) (functions_of q))) g.2 (has_map (λ (f : FlowFn). f.name) g.0 (functions_of q) (has_flat (λ (m : FlowModule). m.functions) m.0 g.0 q.modules m.1 g.1))

  entries_once : (m : FlowModule) → Has m q.modules → AreDistinct (map (λ f. f.0) (function_entries m))
  entries_once m h =
      subst AreDistinct (sym (seen function_entry (λ (e : List ℕ × List ℕ). e.0) m.functions)) (distinct_right (global_names m) (function_names m) (valid_there m h).names.distinct.defined)

  main_shown : HasMain (map shown q.modules)
  main_shown =
      let f = finds (functions_of q) main_name main_there in
      let m = has_flat_back (λ (m : FlowModule). m.functions) f.0 q.modules f.1 in
      let shape : f.0.shape ≡ codes "fi" = alike.main f.0 f.3 in
      let entry : function_entry f.0 ≡ (main_name, codes "fi") = ap (λ (n : List ℕ). (n, f.0.shape)) f.2 ∙ ap (λ (s : List ℕ). (main_name, s)) shape in
      let listed : Has (main_name, codes "fi") (function_entries m.0) = subst (λ (d : List ℕ × List ℕ). Has d (function_entries m.0)) entry (has_map function_entry f.0 m.0.functions m.2) in
      record {
        where_it_is = shown m.0;
        stands = contains_by (shown m.0) (map shown q.modules) (has_map shown m.0 q.modules m.1);
        shape = main_found (function_entries m.0) (codes "fi") (entries_once m.0 m.1) listed;
      }

  -- ---- all tests

  passes : AreFew q.modules → (test : Test) → Passes test (map shown q.modules)
  passes few few_functions = subst (λ (n : ℕ). n ≤ function_limit) (sym (counts (λ (i : Interface). length i.functions) (λ (m : FlowModule). length m.functions) (λ m. length-map m.functions (λ f. f.name)) q.modules)) few.functions
  passes few few_globals = subst (λ (n : ℕ). n ≤ global_limit) (sym (counts (λ (i : Interface). length i.globals) (λ (m : FlowModule). length m.globals) (λ m. length-map m.globals (λ g. g.name)) q.modules)) few.globals
  passes few all_defined = no_undefined q is
  passes few defined_once = no_duplicate q is
  passes few all_agree = no_conflict q alike
  passes few has_main = main_shown

  pub keeps : AreFew q.modules → Links (map shown q.modules)
  keeps few = passes few
