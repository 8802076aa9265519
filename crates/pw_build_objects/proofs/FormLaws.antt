-- What the forms of modules have of the modules.
use Rattle.std.specs.Prelude.{ℕ, suc, ◌≡◌, ◌↔◌, ◌<◌, ◌+◌, Bool, true, false, List, [], ◌∷◌, ◌++◌, length, map, Contains}
use Rattle.std.specs.List.{AllByRecursion}
use Rattle.std.proofs.Common.{get_or, take, refl, sym, ap, ap₂, subst, ◌∙◌}
use Rattle.std.proofs.lemmas.List.{take_more}
use Rattle.pw_value.specs.ProgramNames.{main_name}
use Rattle.pw_flow.specs.declared.flow.FlowModule.{FlowModule}
use Rattle.pw_flow.specs.ValidFlow.{IsValid}
use Rattle.pw_files.proofs.Standing.{Has, has_by, contains_by, has_map, has_map_back}
use Rattle.pw_summary.specs.declared.summary.Summary.{Summary}
use Rattle.pw_graph.specs.Program as graph
use Rattle.pw_link_rules.specs.Linking.{Links}
use Rattle.pw_opt_rules.specs.Optimised.{IsOptimisedModule}
use Rattle.pw_law_opt.specs.Laws.{AreOptimisedModules, none, also, entry, ShowsNoMore, OptimisationKeepsLawful, OptimisationShowsNoMore}
use Rattle.pw_law_shown.specs.Alike.{AreSummariesOf, DeclaresMain, shown}
use Rattle.pw_build_objects.specs.Programs.{AreForms, KeepRules}

-- ---- modules one after the other

optimised_push : (ms ns : List FlowModule) (m n : FlowModule) → AreOptimisedModules ms ns → IsOptimisedModule m n → AreOptimisedModules (ms ++ m ∷ []) (ns ++ n ∷ [])
optimised_push ms ns m n none o = also m n [] [] o none
optimised_push ms ns m n (also x y xs ys first rest) o = also x y (xs ++ m ∷ []) (ys ++ n ∷ []) first (optimised_push xs ys m n rest o)

-- one module more
pub optimised_more : (ms : List FlowModule) (i : ℕ) (m n : FlowModule) (old new : List FlowModule) → i < length ms → m ≡ get_or ms i m → new ≡ old ++ n ∷ [] → IsOptimisedModule m n → AreOptimisedModules (take i ms) old
    → AreOptimisedModules (take (i + 1) ms) new
optimised_more ms i m n old new lt is pushed o before =
    subst (λ (xs : List FlowModule). AreOptimisedModules xs new) (sym (take_more ms i m lt))
    (subst (λ (x : FlowModule). AreOptimisedModules (take i ms ++ x ∷ []) new) is (subst (AreOptimisedModules (take i ms ++ m ∷ [])) (sym pushed) (optimised_push (take i ms) old m n before o)))

-- ---- as many

optimised_count : (ms ns : List FlowModule) → AreOptimisedModules ms ns → length ns ≡ length ms
optimised_count ms ns none = refl
optimised_count ms ns (also m n more others o rest) = ap suc (optimised_count more others rest)

pub forms_count : (o : Bool) (flows forms : List FlowModule) → AreForms o flows forms → length forms ≡ length flows
forms_count false flows forms e = ap (λ (ms : List FlowModule). length ms) e
forms_count true flows forms are = optimised_count flows forms are

-- ---- only one

abbrev pub OneForm : Type 0
OneForm = (m n o : FlowModule) → IsOptimisedModule m n → IsOptimisedModule m o → n ≡ o

optimised_one : OneForm → (ms ns os : List FlowModule) → AreOptimisedModules ms ns → AreOptimisedModules ms os → ns ≡ os
optimised_one one ms ns os none none = refl
optimised_one one ms ns os (also m n more others o rest) (also m' n' more' others' o' rest') =
    ap₂ (λ (x : FlowModule) (xs : List FlowModule). x ∷ xs) (one m n n' o o') (optimised_one one more others others' rest rest')

pub forms_one : OneForm → (o : Bool) (flows forms others : List FlowModule) → AreForms o flows forms → AreForms o flows others → forms ≡ others
forms_one one false flows forms others e f = e ∙ sym f
forms_one one true flows forms others are also_are = optimised_one one flows forms others are also_are

-- ---- lawful

optimised_lawful : OptimisationKeepsLawful → (ms ns : List FlowModule) → AreOptimisedModules ms ns → AllByRecursion IsValid ms → AllByRecursion IsValid ns
optimised_lawful keeps ms ns none all = tt
optimised_lawful keeps ms ns (also m n more others o rest) all = (keeps m n all.0 o, optimised_lawful keeps more others rest all.1)

pub forms_lawful : OptimisationKeepsLawful → (o : Bool) (flows forms : List FlowModule) → AreForms o flows forms → AllByRecursion IsValid flows → AllByRecursion IsValid forms
forms_lawful keeps false flows forms e all = subst (AllByRecursion IsValid) (sym e) all
forms_lawful keeps true flows forms are all = optimised_lawful keeps flows forms are all

-- ---- declaring `main`

declares_too : (m n : FlowModule) → IsOptimisedModule m n → ShowsNoMore m n → DeclaresMain m → DeclaresMain n
declares_too m n o s declares f there named =
    let own : Has (entry f) (map entry n.functions) = has_map entry f n.functions (has_by f n.functions there) in
    let g = has_map_back entry (entry f) m.functions (subst (λ (es : List (List ℕ × List ℕ)). Has (entry f) es) s.entries own) in
    let d = declares g.0 (contains_by g.0 m.functions g.1) (ap (λ (e : List ℕ × List ℕ). e.0) g.2 ∙ named) in
    subst (λ (ds : List (List ℕ × List ℕ)). Contains ds (main_name, f.shape)) (sym o.declared)
    (subst (λ (shape : List ℕ). Contains m.declared (main_name, shape)) (ap (λ (e : List ℕ × List ℕ). e.1) g.2) d)

optimised_declare : OptimisationShowsNoMore → (ms ns : List FlowModule) → AreOptimisedModules ms ns → AllByRecursion DeclaresMain ms → AllByRecursion DeclaresMain ns
optimised_declare shows ms ns none all = tt
optimised_declare shows ms ns (also m n more others o rest) all = (declares_too m n o (shows m n o) all.0, optimised_declare shows more others rest all.1)

pub forms_declare : OptimisationShowsNoMore → (o : Bool) (flows forms : List FlowModule) → AreForms o flows forms → AllByRecursion DeclaresMain flows → AllByRecursion DeclaresMain forms
forms_declare shows false flows forms e all = subst (AllByRecursion DeclaresMain) (sym e) all
forms_declare shows true flows forms are all = optimised_declare shows flows forms are all

-- ---- rules of linking

abbrev pub StayLinked : Type 0
StayLinked = (ms ns : List FlowModule) → AreOptimisedModules ms ns → Links (map shown ms) → Links (map shown ns)

abbrev pub ShownAlike : Type 0
ShownAlike = (flows : List FlowModule) (ss : List Summary) → AllByRecursion IsValid flows → AreSummariesOf flows ss → Links (map shown flows) ↔ graph.AreLinked ss

forms_show : StayLinked → (o : Bool) (flows forms : List FlowModule) → AreForms o flows forms → Links (map shown flows) → Links (map shown forms)
forms_show stay false flows forms e l = subst (λ (ms : List FlowModule). Links (map shown ms)) (sym e) l
forms_show stay true flows forms are l = stay flows forms are l

pub forms_link : ShownAlike → StayLinked → OptimisationKeepsLawful → (o : Bool) (flows forms : List FlowModule) (ss : List Summary) → AreForms o flows forms → AllByRecursion IsValid flows → KeepRules flows → AreSummariesOf forms ss
    → graph.AreLinked ss
forms_link alike stay keeps o flows forms ss are valid rules of =
    (alike forms ss (forms_lawful keeps o flows forms are valid) of).0
    (forms_show stay o flows forms are ((alike flows rules.summaries valid rules.of_flows).1 rules.linked))
