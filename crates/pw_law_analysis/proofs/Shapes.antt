-- The functions of summaries with their shapes are those of the program.
use Rattle.std.proofs.Common.{◌≡◌, ℕ, true, false, List, [], ◌∷◌, map, refl, sym, ap, subst, ◌∙◌, inl, inr}
use Rattle.std.specs.Prelude.{Option, Some, option_map}
use Rattle.std.specs.List.{flat_map}
use Rattle.std.specs.Str.{bytes_eq}
use Rattle.std.proofs.lemmas.Slice.Eq.{bytes_eq-Decides}
use Rattle.pw_value.specs.ProgramNames.{exit_name, getchar_name, putchar_name, exit_shape, getchar_shape, putchar_shape, library_functions}
use Rattle.pw_flow.specs.declared.flow.FlowFn.{FlowFn}
use Rattle.pw_flow.specs.declared.flow.FlowGlobal.{FlowGlobal}
use Rattle.pw_flow.specs.declared.flow.FlowModule.{FlowModule}
use Rattle.pw_flow.specs.ValidFlow.{AreDistinct}
use Rattle.pw_run_languages.specs.Programs.{Program, functions_of, function_named, names_of, shape_of, globals_of}
use Rattle.pw_files.proofs.Standing.{Has, has_by, contains_by, has_left, has_right, has_split, has_map, has_map_back, has_flat, has_flat_back}
use Rattle.pw_files.proofs.ByteOrder.{differ}
use Rattle.pw_link_rules.specs.Linking.{library_declarations}
use Rattle.pw_summary.specs.declared.summary.Summary.{Summary}
use Rattle.pw_summarise.specs.Summarises.{function_entry, function_entries}
use Rattle.pw_flow.proofs.Once.{distinct_left, distinct_right}
use Rattle.pw_graph.specs.Program as summaries
use Rattle.pw_run_languages.specs.LawfulPrograms.{has_shape, IsProgram}
use Rattle.pw_law_analysis.specs.SummaryGraphs.{AllSummarise}
use Rattle.pw_law_analysis.proofs.Lists.{found, finds, across, one_named}
use Rattle.pw_law_analysis.proofs.Addresses.{summary_of, module_of}

-- ---- the library's

library_named : (f : List ℕ × List ℕ) → Has f library_declarations → Has f.0 library_functions
library_named f (inl e) = subst (λ (f : List ℕ × List ℕ). Has f.0 library_functions) e (inl refl)
library_named f (inr (inl e)) = subst (λ (f : List ℕ × List ℕ). Has f.0 library_functions) e (inr (inl refl))
library_named f (inr (inr (inl e))) = subst (λ (f : List ℕ × List ℕ). Has f.0 library_functions) e (inr (inr (inl refl)))
library_named f (inr (inr (inr k))) = absurd k

same_text : (own shape : List ℕ) → bytes_eq own shape ≡ true → own ≡ shape
same_text own shape e = (bytes_eq-Decides own shape).0 e

same_texts : (own shape : List ℕ) → own ≡ shape → bytes_eq own shape ≡ true
same_texts own shape e = (bytes_eq-Decides own shape).1 e

pair : (a b c d : List ℕ) → a ≡ b → c ≡ d → ◌≡◌ {A = List ℕ × List ℕ} (a, c) (b, d)
pair a b c d e f = ap (λ (x : List ℕ). (x, c)) e ∙ ap (λ (y : List ℕ). (b, y)) f

declared : (name : List ℕ) → Has name library_functions → (f : List ℕ × List ℕ) × Has f library_declarations × (f.0 ≡ name)
declared name (inl e) = (_, inl refl, e)
declared name (inr (inl e)) = (_, inr (inl refl), e)
declared name (inr (inr (inl e))) = (_, inr (inr (inl refl)), e)
declared name (inr (inr (inr k))) = absurd k

module _ (p : Program) where
  library_shaped : (f : List ℕ × List ℕ) → Has f library_declarations → has_shape (shape_of p f.0) f.1 ≡ true
  library_shaped f (inl e) = subst (λ (f : List ℕ × List ℕ). has_shape (shape_of p f.0) f.1 ≡ true) e refl
  library_shaped f (inr (inl e)) = subst (λ (f : List ℕ × List ℕ). has_shape (shape_of p f.0) f.1 ≡ true) e refl
  library_shaped f (inr (inr (inl e))) = subst (λ (f : List ℕ × List ℕ). has_shape (shape_of p f.0) f.1 ≡ true) e refl
  library_shaped f (inr (inr (inr k))) = absurd k

  library_back : (name shape : List ℕ) → Has name library_functions → has_shape (shape_of p name) shape ≡ true → Has (name, shape) library_declarations
  library_back name shape (inl e) s =
      let own : has_shape (shape_of p exit_name) shape ≡ true = subst (λ (n : List ℕ). has_shape (shape_of p n) shape ≡ true) (sym e) s in
      inl (pair exit_name name exit_shape shape e (same_text exit_shape shape own))
  library_back name shape (inr (inl e)) s =
      let own : has_shape (shape_of p getchar_name) shape ≡ true = subst (λ (n : List ℕ). has_shape (shape_of p n) shape ≡ true) (sym e) s in
      inr (inl (pair getchar_name name getchar_shape shape e (same_text getchar_shape shape own)))
  library_back name shape (inr (inr (inl e))) s =
      let own : has_shape (shape_of p putchar_name) shape ≡ true = subst (λ (n : List ℕ). has_shape (shape_of p n) shape ≡ true) (sym e) s in
      inr (inr (inl (pair putchar_name name putchar_shape shape e (same_text putchar_shape shape own))))
  library_back name shape (inr (inr (inr k))) s = absurd k

  -- ---- those of the modules

  own_shape : (name : List ℕ) (f : FlowFn) → (Has name library_functions → ⊥) → function_named p name ≡ Some f → shape_of p name ≡ Some f.shape
  own_shape name f none e =
      let one : bytes_eq name getchar_name ≡ false = differ name getchar_name (λ e. none (inr (inl (sym e)))) in
      let two : bytes_eq name putchar_name ≡ false = differ name putchar_name (λ e. none (inr (inr (inl (sym e))))) in
      let three : bytes_eq name exit_name ≡ false = differ name exit_name (λ e. none (inl (sym e))) in
      rw one (rw two (rw three (ap (option_map (λ (f : FlowFn). f.shape)) e)))

  module _ (lawful : IsProgram p) where
    pub functions_distinct : AreDistinct (map (λ (f : FlowFn). f.name) (functions_of p))
    functions_distinct = distinct_right library_functions (map (λ (f : FlowFn). f.name) (functions_of p)) (distinct_left (names_of p) (map (λ (g : FlowGlobal). g.name) (globals_of p)) lawful.names)

    no_library_name : (f : FlowFn) → Has f (functions_of p) → Has f.name library_functions → ⊥
    no_library_name f h k =
        across library_functions (map (λ (f : FlowFn). f.name) (functions_of p)) (distinct_left (names_of p) (map (λ (g : FlowGlobal). g.name) (globals_of p)) lawful.names) f.name k (has_map (λ (f : FlowFn). f.name) f (functions_of p) h)

    own_function : (f : FlowFn) → Has f (functions_of p) → shape_of p f.name ≡ Some f.shape
    own_function f h =
        let r = finds (λ (g : FlowFn). bytes_eq g.name f.name) (functions_of p) f h (same_texts f.name f.name refl) in
        let back = found (λ (g : FlowFn). bytes_eq g.name f.name) (functions_of p) r.0 r.1 in
        let same : r.0 ≡ f = one_named (λ (f : FlowFn). f.name) (functions_of p) functions_distinct r.0 f back.0 h (same_text r.0.name f.name back.1) in
        own_shape f.name r.0 (no_library_name f h) r.1 ∙ ap (λ (g : FlowFn). Some g.shape) same

    pub shape_forth : (ss : List Summary) → AllSummarise p.modules ss → (f : List ℕ × List ℕ) → Has f (summaries.functions_of ss) → Has f.0 (names_of p) × (has_shape (shape_of p f.0) f.1 ≡ true)
    shape_forth ss all f h =
        let names = map (λ (f : FlowFn). f.name) (functions_of p) in
        elim (has_split f library_declarations (flat_map (λ (s : Summary). s.functions) ss) h) [
          | inl k ↦ (has_left f.0 library_functions names (library_named f k), library_shaped f k)
          | inr k ↦
              let s = has_flat_back (λ (s : Summary). s.functions) f ss k in
              let m = module_of p.modules ss all s.0 s.1 in
              let e = has_map_back function_entry f m.0.functions (has_by f (function_entries m.0) ((m.2.functions.of f).0 (contains_by f s.0.functions s.2))) in
              let there : Has e.0 (functions_of p) = has_flat (λ (m : FlowModule). m.functions) m.0 e.0 p.modules m.1 e.1 in (
                has_right f.0 library_functions names (subst (λ (n : List ℕ). Has n names) (ap (λ (f : List ℕ × List ℕ). f.0) e.2) (has_map (λ (f : FlowFn). f.name) e.0 (functions_of p) there)),
                subst (λ (f : List ℕ × List ℕ). has_shape (shape_of p f.0) f.1 ≡ true) e.2
                    (subst (λ (o : Option (List ℕ)). has_shape o e.0.shape ≡ true) (sym (own_function e.0 there)) (same_texts e.0.shape e.0.shape refl)),
              )
        ]

    pub function_listed : (ss : List Summary) → AllSummarise p.modules ss → (f : FlowFn) → Has f (functions_of p) → Has (function_entry f) (summaries.functions_of ss)
    function_listed ss all f h =
        let m = has_flat_back (λ (m : FlowModule). m.functions) f p.modules h in
        let s = summary_of p.modules ss all m.0 m.1 in
        let own = has_by (function_entry f) s.0.functions ((s.2.functions.of (function_entry f)).1 (contains_by (function_entry f) (function_entries m.0) (has_map function_entry f m.0.functions m.2))) in
        has_right (function_entry f) library_declarations (flat_map (λ (s : Summary). s.functions) ss) (has_flat (λ (s : Summary). s.functions) s.0 (function_entry f) ss s.1 own)

    pub shape_back : (ss : List Summary) → AllSummarise p.modules ss → (name shape : List ℕ) → Has name (names_of p) → has_shape (shape_of p name) shape ≡ true → Has (name, shape) (summaries.functions_of ss)
    shape_back ss all name shape h s =
        elim (has_split name library_functions (map (λ (f : FlowFn). f.name) (functions_of p)) h) [
          | inl k ↦ has_left (name, shape) library_declarations (flat_map (λ (s : Summary). s.functions) ss) (library_back name shape k s)
          | inr k ↦
              let f = has_map_back (λ (f : FlowFn). f.name) name (functions_of p) k in
              let own : has_shape (shape_of p f.0.name) shape ≡ true = subst (λ (n : List ℕ). has_shape (shape_of p n) shape ≡ true) (sym f.2) s in
              let same : bytes_eq f.0.shape shape ≡ true = subst (λ (o : Option (List ℕ)). has_shape o shape ≡ true) (own_function f.0 f.1) own in
              subst (λ (e : List ℕ × List ℕ). Has e (summaries.functions_of ss)) (pair f.0.name name f.0.shape shape f.2 (same_text f.0.shape shape same)) (function_listed ss all f.0 f.1)
        ]

    -- every function's name is listed
    pub name_listed : (ss : List Summary) → AllSummarise p.modules ss → (name : List ℕ) → Has name (names_of p) → Has name (map (λ h. h.0) (summaries.functions_of ss))
    name_listed ss all name h =
        elim (has_split name library_functions (map (λ (f : FlowFn). f.name) (functions_of p)) h) [
          | inl k ↦ let f = declared name k in subst (λ (n : List ℕ). Has n (map (λ h. h.0) (summaries.functions_of ss))) f.2 (has_map (λ (h : List ℕ × List ℕ). h.0) f.0 (summaries.functions_of ss) (has_left f.0 library_declarations (flat_map (λ (s : Summary). s.functions) ss) f.1))
          | inr k ↦
              let f = has_map_back (λ (f : FlowFn). f.name) name (functions_of p) k in
              subst (λ (n : List ℕ). Has n (map (λ h. h.0) (summaries.functions_of ss))) f.2 (has_map (λ (h : List ℕ × List ℕ). h.0) (function_entry f.0) (summaries.functions_of ss) (function_listed ss all f.0 f.1))
        ]
