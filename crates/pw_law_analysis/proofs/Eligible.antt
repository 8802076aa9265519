-- The globals that summaries say are eligible are those of the program.
use Rattle.std.proofs.Common.{◌≡◌, ℕ, Bool, true, false, if◌then◌else◌, List, [], ◌∷◌, map, refl, sym, ap, subst, ◌∙◌, inl, inr}
use Rattle.std.specs.Prelude.{Option, Some, None}
use Rattle.pw_value.specs.declared.value.Kind.{Kind}
use Rattle.pw_flow.specs.declared.flow.FlowGlobal.{FlowGlobal}
use Rattle.pw_flow.specs.declared.flow.FlowModule.{FlowModule}
use Rattle.pw_run_languages.specs.Programs.{Program, globals_of}
use Rattle.pw_files.proofs.Standing.{Has, has_by, contains_by, has_map, has_map_back, has_flat, has_flat_back}
use Rattle.pw_summary.specs.declared.summary.Summary.{Summary}
use Rattle.pw_summarise.specs.Summarises.{global_entry}
use Rattle.pw_graph.specs.Program.{IsEligible, IsTaken, IsEscaped}
use Rattle.pw_run_languages.specs.LawfulPrograms.{has_name, taken_names, eligible_as, eligible_of, eligible_names}
use Rattle.pw_law_analysis.specs.SummaryGraphs.{AllSummarise}
use Rattle.pw_law_analysis.proofs.Lists.{clash, named_has, has_named}
use Rattle.pw_law_analysis.proofs.Addresses.{summary_of, module_of, taken_in, taken_of_module, taken_addressed, escaped_addressed, addressed_either}

off : (b : Bool) → (b ≡ true → ⊥) → b ≡ false
off true h = absurd (h refl)
off false h = refl

-- the global with this kind, volatile or not
abbrev as_kind : FlowGlobal → Option Kind × Bool → FlowGlobal
as_kind g x = record g { kind = x.0; volatile = x.1 }

both_are : (a b : Option Kind) (c d : Bool) → a ≡ b → c ≡ d → ◌≡◌ {A = Option Kind × Bool} (a, c) (b, d)
both_are a b c d e f = ap (λ (x : Option Kind). (x, c)) e ∙ ap (λ (y : Bool). (b, y)) f

as_is : (g : FlowGlobal) (k : Option Kind) (v : Bool) → g.kind ≡ k → g.volatile ≡ v → g ≡ as_kind g (k, v)
as_is g k v e f = ap (as_kind g) (both_are g.kind k g.volatile v e f)

two_tests : (a b : Bool) (x y : List ℕ × Kind) → Has y (if a then [] else if b then [] else x ∷ []) → (a ≡ false) × (b ≡ false) × (x ≡ y)
two_tests true b x y h = absurd h
two_tests false true x y h = absurd h
two_tests false false x y (inl e) = (refl, refl, e)
two_tests false false x y (inr h) = absurd h

module _ (p : Program) where
  one_has : (g : FlowGlobal) (k : Kind) (b : Bool) → has_name (taken_names p) g.name ≡ b → b ≡ false → Has {X = List ℕ × Kind} (g.name, k) (if b then [] else (g.name, k) ∷ [])
  one_has g k true e d = absurd cc
  one_has g k false e d = inl refl

  eligible_there : (g : FlowGlobal) (k : Kind) → g.kind ≡ Some k → g.volatile ≡ false → has_name (taken_names p) g.name ≡ false → Has (g.name, k) (eligible_as p g)
  eligible_there g k e f d =
      let h : Has (g.name, k) (eligible_as p (as_kind g (Some k, false))) = one_has g k (has_name (taken_names p) g.name) refl d in
      subst (λ (x : FlowGlobal). Has (g.name, k) (eligible_as p x)) (sym (as_is g (Some k) false e f)) h

  kind_by : (g : FlowGlobal) (o : Option Kind) (v : List ℕ × Kind) → Has v (eligible_as p (as_kind g (o, g.volatile))) → (o ≡ Some v.1) × (g.volatile ≡ false) × (has_name (taken_names p) g.name ≡ false) × (g.name ≡ v.0)
  kind_by g None v h = absurd h
  kind_by g (Some k) v h =
      let r = two_tests g.volatile (has_name (taken_names p) g.name) (g.name, k) v h in
      (ap (λ (x : List ℕ × Kind). Some x.1) r.2, r.0, r.1, ap (λ (x : List ℕ × Kind). x.0) r.2)

  pub eligible_where : (g : FlowGlobal) (v : List ℕ × Kind) → Has v (eligible_as p g) → (g.kind ≡ Some v.1) × (g.volatile ≡ false) × (has_name (taken_names p) g.name ≡ false) × (g.name ≡ v.0)
  eligible_where g v h = kind_by g g.kind v h

  module _ (ss : List Summary) (all : AllSummarise p.modules ss) where
    untaken : (name : List ℕ) → (IsEscaped ss name → ⊥) → (IsTaken ss name → ⊥) → has_name (taken_names p) name ≡ false
    untaken name kept no_function = off (has_name (taken_names p) name) (λ e.
        let m = taken_of_module p name (named_has (taken_names p) name e) in
        elim (addressed_either p.modules ss all m.0 name m.1 m.2) [ inl t ↦ no_function t | inr t ↦ kept t ])

    taken_name : (name : List ℕ) → IsTaken ss name → has_name (taken_names p) name ≡ true
    taken_name name t = let m = taken_addressed p.modules ss all name t in has_named (taken_names p) name (taken_in p m.0 name m.1 m.2)

    escaped_name : (name : List ℕ) → IsEscaped ss name → has_name (taken_names p) name ≡ true
    escaped_name name t = let m = escaped_addressed p.modules ss all name t in has_named (taken_names p) name (taken_in p m.0 name m.1 m.2)

    pub eligible_forth : (v : List ℕ) (k : Kind) → IsEligible ss v k → Has (v, k) (eligible_of p)
    eligible_forth v k is =
        let m = module_of p.modules ss all is.summary (has_by is.summary ss is.stands) in
        let entry : List ℕ × List ℕ × Option Kind × Bool = (v, is.shape, Some k, false) in
        let g = has_map_back global_entry entry m.0.globals (has_by entry (map global_entry m.0.globals) ((m.2.globals.of entry).0 is.defined)) in
        let name : g.0.name ≡ v = ap (λ (x : List ℕ × List ℕ × Option Kind × Bool). x.0) g.2 in
        let kind : g.0.kind ≡ Some k = ap (λ (x : List ℕ × List ℕ × Option Kind × Bool). x.2) g.2 in
        let still : g.0.volatile ≡ false = ap (λ (x : List ℕ × List ℕ × Option Kind × Bool). x.3) g.2 in
        let not_taken = subst (λ (n : List ℕ). has_name (taken_names p) n ≡ false) (sym name) (untaken v is.kept is.no_function) in
        let own = eligible_there g.0 k kind still not_taken in
        subst (λ (n : List ℕ). Has (n, k) (eligible_of p)) name
        (has_flat (eligible_as p) g.0 (g.0.name, k) (globals_of p) (has_flat (λ (m : FlowModule). m.globals) m.0 g.0 p.modules m.1 g.1) own)

    pub eligible_back : (v : List ℕ) (k : Kind) → Has (v, k) (eligible_of p) → IsEligible ss v k
    eligible_back v k h =
        let g = has_flat_back (eligible_as p) (v, k) (globals_of p) h in
        let m = has_flat_back (λ (m : FlowModule). m.globals) g.0 p.modules g.1 in
        let s = summary_of p.modules ss all m.0 m.1 in
        let r = eligible_where g.0 (v, k) g.2 in
        let entry : List ℕ × List ℕ × Option Kind × Bool = (v, g.0.shape, Some k, false) in
        let same : global_entry g.0 ≡ entry =
        ap (λ (x : List ℕ). (x, g.0.shape, g.0.kind, g.0.volatile)) r.3 ∙ ap (λ (x : Option Kind). (v, g.0.shape, x, g.0.volatile)) r.0 ∙ ap (λ (x : Bool). (v, g.0.shape, Some k, x)) r.1 in
        let own : Has entry (map global_entry m.0.globals) = subst (λ (x : List ℕ × List ℕ × Option Kind × Bool). Has x (map global_entry m.0.globals)) same (has_map global_entry g.0 m.0.globals m.2) in
        let free : has_name (taken_names p) v ≡ false = subst (λ (n : List ℕ). has_name (taken_names p) n ≡ false) r.3 r.2 in
        record {
          summary = s.0;
          stands = contains_by s.0 ss s.1;
          shape = g.0.shape;
          defined = (s.2.globals.of entry).1 (contains_by entry (map global_entry m.0.globals) own);
          kept = λ t. clash (has_name (taken_names p) v) (escaped_name v t) free;
          no_function = λ t. clash (has_name (taken_names p) v) (taken_name v t) free;
        }

    pub named_eligible : (v : List ℕ) (k : Kind) → IsEligible ss v k → Has v (eligible_names p)
    named_eligible v k is = has_map (λ (e : List ℕ × Kind). e.0) (v, k) (eligible_of p) (eligible_forth v k is)

    pub eligible_named : (v : List ℕ) → Has v (eligible_names p) → (k : Kind) × IsEligible ss v k
    eligible_named v h =
        let e = has_map_back (λ (e : List ℕ × Kind). e.0) v (eligible_of p) h in
        (e.0.1, subst (λ (n : List ℕ). IsEligible ss n e.0.1) e.2 (eligible_back e.0.0 e.0.1 e.1))
