-- Modules that define the same, and declare and use no more, keep the rules of linking.
use Rattle.std.specs.Prelude.{ℕ, zero, suc, ◌≡◌, ◌+◌, ◌<◌, ◌≤◌, Some, List, [], ◌∷◌, ◌++◌, length, map, Contains, slice_get}
use Rattle.std.specs.List.{flat_map, sum_by}
use Rattle.std.proofs.Common.{refl, sym, ap, ap₂, subst, ◌∙◌, arith, inl, inr}
use Rattle.std.proofs.lemmas.List.Concat.{flat_map-cons}
use Rattle.std.proofs.lemmas.List.Elements.{Contains-append_left, Contains-append_right, Contains-append_cases}
use Rattle.std.proofs.lemmas.List.Sums.{sum_by-cons}
use Rattle.pw_value.specs.Limits.{function_limit, global_limit}
use Rattle.pw_value.specs.ProgramNames.{main_shape}
use Rattle.pw_files.proofs.Standing.{Has, has_by, contains_by, has_left, has_right, has_split, has_map, has_map_back}
use Rattle.pw_flow.specs.declared.flow.FlowGlobal.{FlowGlobal}
use Rattle.pw_flow.specs.declared.flow.FlowFn.{FlowFn}
use Rattle.pw_flow.specs.declared.flow.FlowModule.{FlowModule}
use Rattle.pw_graph.specs.Program.{main_in}
use Rattle.pw_opt_rules.specs.Optimised.{IsOptimisedModule}
use Rattle.pw_law_opt.specs.Laws.{AreOptimisedModules, none, also, entry, ShowsNoMore, OptimisationShowsNoMore}
use Rattle.pw_law_shown.specs.Alike.{shown}
use Rattle.pw_link_rules.specs.declared.interface.Interface.{Interface}
use Rattle.pw_law_opt_links.specs.Less.{ShowsLess, AllShowLess}
use Rattle.pw_link_rules.specs.Linking.{library, names_in, defined_in, declared_in, definitions, declarations, defined_names, used_names, function_count, global_count, few_functions, few_globals, all_defined, defined_once, all_agree, has_main, Links}

-- ---- one module beside another

sums_same : (size : Interface → ℕ) → ((i j : Interface) → ShowsLess i j → size j ≡ size i) → (is js : List Interface) → AllShowLess is js → sum_by size js ≡ sum_by size is
sums_same size same [] [] all = refl
sums_same size same [] (j ∷ js) all = absurd all
sums_same size same (i ∷ is) [] all = absurd all
sums_same size same (i ∷ is) (j ∷ js) all =
    sum_by-cons size j js ∙ ap₂ (λ (a b : ℕ). a + b) (same i j all.0) (sums_same size same is js all.1) ∙ sym (sum_by-cons size i is)

lists_same : {X : Type 0} (part : Interface → List X) → ((i j : Interface) → ShowsLess i j → part j ≡ part i) → (is js : List Interface) → AllShowLess is js → flat_map part js ≡ flat_map part is
lists_same part same [] [] all = refl
lists_same part same [] (j ∷ js) all = absurd all
lists_same part same (i ∷ is) [] all = absurd all
lists_same part same (i ∷ is) (j ∷ js) all =
    flat_map-cons part j js ∙ ap₂ (λ xs ys. xs ++ ys) (same i j all.0) (lists_same part same is js all.1) ∙ sym (flat_map-cons part i is)

fewer_used : (is js : List Interface) → AllShowLess is js → (name : List ℕ) → Contains (used_names js) name → Contains (used_names is) name
fewer_used [] [] all name there = there
fewer_used [] (j ∷ js) all name there = absurd all
fewer_used (i ∷ is) [] all name there = absurd all
fewer_used (i ∷ is) (j ∷ js) all name there =
    let used : Interface → List (List ℕ) = λ (x : Interface). x.used in
    subst (λ (names : List (List ℕ)). Contains names name) (sym (flat_map-cons used i is))
    (elim (Contains-append_cases j.used (used_names js) name (subst (λ (names : List (List ℕ)). Contains names name) (flat_map-cons used j js) there)) [
      | inl here ↦ Contains-append_left i.used (used_names is) name (all.0.used name here)
      | inr later ↦ Contains-append_right i.used (used_names is) name (fewer_used is js all.1 name later)
    ])

declared_less : (i j : Interface) → ShowsLess i j → (d : List ℕ × List ℕ × List ℕ) → Has d (declared_in j) → Has d (declared_in i)
declared_less i j less d h =
    let own = has_map_back (λ (d : List ℕ × List ℕ). (d.0, j.module, d.1)) d j.declared h in
    let there = has_by own.0 i.declared (less.declared own.0 (contains_by own.0 j.declared own.1)) in
    subst (λ (x : List ℕ × List ℕ × List ℕ). Has x (declared_in i)) (ap (λ (m : List ℕ). (own.0.0, m, own.0.1)) (sym less.named) ∙ own.2)
    (has_map (λ (d : List ℕ × List ℕ). (d.0, i.module, d.1)) own.0 i.declared there)

fewer_declared : (is js : List Interface) → AllShowLess is js → (d : List ℕ × List ℕ × List ℕ) → Has d (flat_map declared_in js) → Has d (flat_map declared_in is)
fewer_declared [] [] all d h = h
fewer_declared [] (j ∷ js) all d h = absurd all
fewer_declared (i ∷ is) [] all d h = absurd all
fewer_declared (i ∷ is) (j ∷ js) all d h =
    subst (λ (ds : List (List ℕ × List ℕ × List ℕ)). Has d ds) (sym (flat_map-cons declared_in i is))
    (elim (has_split d (declared_in j) (flat_map declared_in js) (subst (λ (ds : List (List ℕ × List ℕ × List ℕ)). Has d ds) (flat_map-cons declared_in j js) h)) [
      | inl here ↦ has_left d (declared_in i) (flat_map declared_in is) (declared_less i j all.0 d here)
      | inr later ↦ has_right d (declared_in i) (flat_map declared_in is) (fewer_declared is js all.1 d later)
    ])

-- all declarations, with the library's
all_declared : (is js : List Interface) → AllShowLess is js → (d : List ℕ × List ℕ × List ℕ) → Contains (declarations js) d → Contains (declarations is) d
all_declared is js all d there =
    contains_by d (declarations is) (elim (has_split d (declared_in library) (flat_map declared_in js) (has_by d (declarations js) there)) [
      | inl own ↦ has_left d (declared_in library) (flat_map declared_in is) own
      | inr later ↦ has_right d (declared_in library) (flat_map declared_in is) (fewer_declared is js all d later)
    ])

-- the module beside one of them
partner : (is js : List Interface) → AllShowLess is js → (i : Interface) → Contains is i → (j : Interface) × Contains js j × ShowsLess i j
partner [] js all i there = absurd (let lt : there.0 < 0 = there.1 in omega (arith, lt))
partner (x ∷ is) [] all i there = absurd all
partner (x ∷ is) (y ∷ js) all i (zero, lt, e) = (y, (zero, omega arith, refl), subst (λ (z : Interface). ShowsLess z y) e all.0)
partner (x ∷ is) (y ∷ js) all i (suc k, lt, e) = let p = partner is js all.1 i (k, omega (arith, lt), e) in (p.0, (suc p.1.0, (let low = p.1.1 in omega (arith, low)), p.1.2), p.2)

-- ---- the rules

module _ (is js : List Interface) (all : AllShowLess is js) where
  functions_counted : function_count js ≡ function_count is
  functions_counted = sums_same (λ (i : Interface). length i.functions) (λ i j n. ap (λ xs. length xs) n.functions) is js all

  globals_counted : global_count js ≡ global_count is
  globals_counted = sums_same (λ (i : Interface). length i.globals) (λ i j n. ap (λ xs. length xs) n.globals) is js all

  names_same : defined_names js ≡ defined_names is
  names_same = ap (λ names. names_in library ++ names) (lists_same names_in (λ i j n. ap₂ (λ (xs ys : List (List ℕ)). xs ++ ys) n.functions n.globals) is js all)

  definitions_same : definitions js ≡ definitions is
  definitions_same = ap (λ ds. defined_in library ++ ds) (lists_same defined_in
      (λ i j n.
      ap₂ (λ (fs gs : List (List ℕ)). map (λ name. (name, j.module)) fs ++ map (λ name. (name, j.module)) gs) n.functions n.globals
      ∙ ap (λ (m : List ℕ). map (λ name. (name, m)) i.functions ++ map (λ name. (name, m)) i.globals) n.named) is js all)

  pub still_linked : Links is → Links js
  still_linked l few_functions = subst (λ (n : ℕ). n ≤ function_limit) (sym functions_counted) (l few_functions)
  still_linked l few_globals = subst (λ (n : ℕ). n ≤ global_limit) (sym globals_counted) (l few_globals)
  still_linked l all_defined = λ name u. l all_defined name (record {
    ordinary = u.ordinary;
    used = fewer_used is js all name u.used;
    nowhere = λ there. u.nowhere (subst (λ (names : List (List ℕ)). Contains names name) (sym names_same) there);
  })
  still_linked l defined_once = λ name one other u. l defined_once name one other (record {
    ordinary = u.ordinary;
    place = u.place;
    again = u.again;
    apart = u.apart;
    at_place = subst (λ ds. slice_get ds u.place ≡ Some (name, one)) definitions_same u.at_place;
    at_again = subst (λ ds. slice_get ds u.again ≡ Some (name, other)) definitions_same u.at_again;
  })
  still_linked l all_agree = λ name one other u. l all_agree name one other (record {
    ordinary = u.ordinary;
    shape = u.shape;
    against = u.against;
    first = all_declared is js all (name, one, u.shape) u.first;
    second = all_declared is js all (name, other, u.against) u.second;
    disagree = u.disagree;
  })
  still_linked l has_main =
      let h = l has_main in
      let p = partner is js all h.where_it_is h.stands in
      record { where_it_is = p.0; stands = p.1; shape = p.2.main main_shape h.shape }

-- ---- optimised modules

firsts : (fs : List FlowFn) → map (λ (x : List ℕ × List ℕ). x.0) (map entry fs) ≡ map (λ (f : FlowFn). f.name) fs
firsts [] = refl
firsts (f ∷ fs) = ap (λ (names : List (List ℕ)). f.name ∷ names) (firsts fs)

shown_less : (m n : FlowModule) → IsOptimisedModule m n → ShowsNoMore m n → ShowsLess (shown m) (shown n)
shown_less m n o s = record {
  named = o.name;
  functions = sym (firsts n.functions) ∙ ap (map (λ (x : List ℕ × List ℕ). x.0)) s.entries ∙ firsts m.functions;
  globals = ap (λ (gs : List FlowGlobal). map (λ (g : FlowGlobal). g.name) gs) o.globals;
  declared = λ d there. subst (λ (ds : List (List ℕ × List ℕ)). Contains ds d) o.declared there;
  used = s.fewer;
  main = λ shape is. ap main_in s.entries ∙ is;
}

all_less : OptimisationShowsNoMore → (ms ns : List FlowModule) → AreOptimisedModules ms ns → AllShowLess (map shown ms) (map shown ns)
all_less shows ms ns none = tt
all_less shows ms ns (also m n more others o rest) = (shown_less m n o (shows m n o), all_less shows more others rest)

pub stay_linked : ((is js : List Interface) → AllShowLess is js → Links is → Links js) → OptimisationShowsNoMore → (ms ns : List FlowModule) → AreOptimisedModules ms ns → Links (map shown ms) → Links (map shown ns)
stay_linked still shows ms ns o l = still (map shown ms) (map shown ns) (all_less shows ms ns o) l
