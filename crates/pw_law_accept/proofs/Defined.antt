-- The names that the flow graphs of a program define stand once, and those that they use are among them.
use Rattle.std.proofs.Common.{◌≡◌, ◌⊎◌, ℕ, List, [], ◌∷◌, ◌++◌, map, refl, sym, ap, subst, ◌∙◌, inl, inr}
use Rattle.std.specs.List.{flat_map}
use Rattle.std.proofs.lemmas.List.{map-append}
use Rattle.std.proofs.lemmas.List.Concat.{flat_map-cons}
use Rattle.pw_value.specs.ProgramNames.{library_functions}
use Rattle.pw_flow.specs.declared.flow.FlowFn.{FlowFn}
use Rattle.pw_flow.specs.declared.flow.FlowGlobal.{FlowGlobal}
use Rattle.pw_flow.specs.declared.flow.FlowModule.{FlowModule}
use Rattle.pw_flow.specs.FlowGraph.{function_names, global_names, named_in}
use Rattle.pw_flow.specs.ValidFlow.{AreDistinct}
use Rattle.pw_flow.proofs.Once.{distinct_left, distinct_right}
use Rattle.pw_files.proofs.Standing.{Has, has_by, contains_by, has_left, has_right, has_split, has_map, has_map_back, has_flat, has_flat_back}
use Rattle.pw_link_rules.specs.declared.interface.Interface.{Interface}
use Rattle.pw_link_rules.specs.Linking.{library, names_in, defined_in, definitions, defined_names, used_names, IsUndefined, IsDefinedTwice}
use Rattle.pw_run_languages.specs.Programs.{Program, functions_of, globals_of, names_of}
use Rattle.pw_run_languages.specs.LawfulPrograms.{IsProgram}
use Rattle.pw_law_shown.specs.Alike.{shown}
use Rattle.pw_law_shown.proofs.Names.{both_distinct, across_distinct}
use Rattle.pw_law_shown.proofs.Twice.{Twice, twice_by, twice_split, beside, once_beside}
use Rattle.pw_law_shown.proofs.Tests.{beside_all}

-- ---- all names, function by function and module by module

abbrev pub all_functions : List FlowModule → List (List ℕ)
all_functions flows = flat_map function_names flows

abbrev pub all_globals : List FlowModule → List (List ℕ)
all_globals flows = flat_map global_names flows

functions_are : (flows : List FlowModule) → map (λ (f : FlowFn). f.name) (flat_map (λ (m : FlowModule). m.functions) flows) ≡ all_functions flows
functions_are [] = refl
functions_are (m ∷ ms) =
    ap (map (λ (f : FlowFn). f.name)) (flat_map-cons (λ (m : FlowModule). m.functions) m ms)
    ∙ map-append (λ (f : FlowFn). f.name) m.functions (flat_map (λ (m : FlowModule). m.functions) ms)
    ∙ ap (λ (ns : List (List ℕ)). function_names m ++ ns) (functions_are ms)
    ∙ sym (flat_map-cons function_names m ms)

globals_are : (flows : List FlowModule) → map (λ (g : FlowGlobal). g.name) (flat_map (λ (m : FlowModule). m.globals) flows) ≡ all_globals flows
globals_are [] = refl
globals_are (m ∷ ms) =
    ap (map (λ (g : FlowGlobal). g.name)) (flat_map-cons (λ (m : FlowModule). m.globals) m ms)
    ∙ map-append (λ (g : FlowGlobal). g.name) m.globals (flat_map (λ (m : FlowModule). m.globals) ms)
    ∙ ap (λ (ns : List (List ℕ)). global_names m ++ ns) (globals_are ms)
    ∙ sym (flat_map-cons global_names m ms)

-- ---- names of modules stand once

-- names of one module, and those of all behind it
parts_once : (m : FlowModule) (ms : List FlowModule) → AreDistinct (all_functions (m ∷ ms) ++ all_globals (m ∷ ms)) → AreDistinct ((function_names m ++ all_functions ms) ++ (global_names m ++ all_globals ms))
parts_once m ms all =
    subst (λ (fs : List (List ℕ)). AreDistinct (fs ++ (global_names m ++ all_globals ms))) (flat_map-cons function_names m ms)
    (subst (λ (gs : List (List ℕ)). AreDistinct (all_functions (m ∷ ms) ++ gs)) (flat_map-cons global_names m ms) all)

module _ (f fs g gs : List (List ℕ)) (all : AreDistinct ((f ++ fs) ++ (g ++ gs))) where
  functions_once : AreDistinct (f ++ fs)
  functions_once = distinct_left (f ++ fs) (g ++ gs) all

  globals_once : AreDistinct (g ++ gs)
  globals_once = distinct_right (f ++ fs) (g ++ gs) all

  kinds_apart : (n : List ℕ) → Has n (f ++ fs) → Has n (g ++ gs) → ⊥
  kinds_apart n h k = across_distinct (f ++ fs) (g ++ gs) all n h k

  own_once : AreDistinct (f ++ g)
  own_once = both_distinct f g (distinct_left f fs functions_once) (distinct_left g gs globals_once) (λ n h k. kinds_apart n (has_left n f fs h) (has_left n g gs k))

  rest_once : AreDistinct (fs ++ gs)
  rest_once = both_distinct fs gs (distinct_right f fs functions_once) (distinct_right g gs globals_once) (λ n h k. kinds_apart n (has_right n f fs h) (has_right n g gs k))

  own_and_rest : (n : List ℕ) → Has n (f ++ g) → Has n fs ⊎ Has n gs → ⊥
  own_and_rest n h (inl k) = elim (has_split n f g h) [ inl j ↦ across_distinct f fs functions_once n j k | inr j ↦ kinds_apart n (has_right n f fs k) (has_left n g gs j) ]
  own_and_rest n h (inr k) = elim (has_split n f g h) [ inl j ↦ kinds_apart n (has_left n f fs j) (has_right n g gs k) | inr j ↦ across_distinct g gs globals_once n j k ]

-- ---- definitions

named_by : (i : Interface) (n home : List ℕ) → Has (n, home) (defined_in i) → Has n (names_in i)
named_by i n home h =
    let k = has_map_back (beside i.module) (n, home) (names_in i) (subst (λ (ds : List (List ℕ × List ℕ)). Has (n, home) ds) (beside_all i) h) in
    subst (λ (m : List ℕ). Has m (names_in i)) (ap (λ (d : List ℕ × List ℕ). d.0) k.2) k.1

named_among : (flows : List FlowModule) (n home : List ℕ) → Has (n, home) (flat_map defined_in (map shown flows)) → Has n (all_functions flows) ⊎ Has n (all_globals flows)
named_among flows n home h =
    let i = has_flat_back defined_in (n, home) (map shown flows) h in
    let m = has_map_back shown i.0 flows i.1 in
    let own : Has n (names_in (shown m.0)) = named_by (shown m.0) n home (subst (λ (j : Interface). Has (n, home) (defined_in j)) (sym m.2) i.2) in
    elim (has_split n (function_names m.0) (global_names m.0) own) [
      | inl k ↦ inl (has_flat function_names m.0 n flows m.1 k)
      | inr k ↦ inr (has_flat global_names m.0 n flows m.1 k)
    ]

once_in : (i : Interface) → AreDistinct (names_in i) → (n a b : List ℕ) → Twice (n, a) (n, b) (defined_in i) → ⊥
once_in i once n a b h = once_beside i.module (names_in i) once n a b (subst (λ (ds : List (List ℕ × List ℕ)). Twice (n, a) (n, b) ds) (beside_all i) h)

modules_once : (flows : List FlowModule) → AreDistinct (all_functions flows ++ all_globals flows) → (n a b : List ℕ) → Twice (n, a) (n, b) (flat_map defined_in (map shown flows)) → ⊥
modules_once [] all n a b h = h
modules_once (m ∷ ms) all n a b h =
    let parts = parts_once m ms all in
    let own = defined_in (shown m) in
    let rest = flat_map defined_in (map shown ms) in
    let apart = own_and_rest (function_names m) (all_functions ms) (global_names m) (all_globals ms) parts in
    elim (twice_split (n, a) (n, b) own rest (subst (λ (ds : List (List ℕ × List ℕ)). Twice (n, a) (n, b) ds) (flat_map-cons defined_in (shown m) (map shown ms)) h)) [
      | inl k ↦ once_in (shown m) (own_once (function_names m) (all_functions ms) (global_names m) (all_globals ms) parts) n a b k
      | inr (inl k) ↦ modules_once ms (rest_once (function_names m) (all_functions ms) (global_names m) (all_globals ms) parts) n a b k
      | inr (inr (inl k)) ↦ apart n (named_by (shown m) n a k.0) (named_among ms n b k.1)
      | inr (inr (inr k)) ↦ apart n (named_by (shown m) n b k.0) (named_among ms n a k.1)
    ]

-- ---- the library

library_back : (n : List ℕ) → Has n (names_in library) → Has n library_functions
library_back n (inl e) = inl e
library_back n (inr (inl e)) = inr (inl e)
library_back n (inr (inr (inl e))) = inr (inr (inl e))
library_back n (inr (inr (inr h))) = absurd h

library_forth : (n : List ℕ) → Has n library_functions → Has n (names_in library)
library_forth n (inl e) = inl e
library_forth n (inr (inl e)) = inr (inl e)
library_forth n (inr (inr (inl e))) = inr (inr (inl e))
library_forth n (inr (inr (inr h))) = absurd h

module _ (q : Program) (is : IsProgram q) where
  all_once : AreDistinct ((library_functions ++ all_functions q.modules) ++ all_globals q.modules)
  all_once =
      subst (λ (fs : List (List ℕ)). AreDistinct ((library_functions ++ fs) ++ all_globals q.modules)) (functions_are q.modules)
      (subst (λ (gs : List (List ℕ)). AreDistinct (names_of q ++ gs)) (globals_are q.modules) is.names)

  both_once : AreDistinct (library_functions ++ all_functions q.modules)
  both_once = distinct_left (library_functions ++ all_functions q.modules) (all_globals q.modules) all_once

  names_once : AreDistinct (all_functions q.modules ++ all_globals q.modules)
  names_once =
      both_distinct (all_functions q.modules) (all_globals q.modules) (distinct_right library_functions (all_functions q.modules) both_once) (distinct_right (library_functions ++ all_functions q.modules) (all_globals q.modules) all_once)
      (λ n h k. across_distinct (library_functions ++ all_functions q.modules) (all_globals q.modules) all_once n (has_right n library_functions (all_functions q.modules) h) k)

  library_apart : (n : List ℕ) → Has n (names_in library) → Has n (all_functions q.modules) ⊎ Has n (all_globals q.modules) → ⊥
  library_apart n h (inl k) = across_distinct library_functions (all_functions q.modules) both_once n (library_back n h) k
  library_apart n h (inr k) = across_distinct (library_functions ++ all_functions q.modules) (all_globals q.modules) all_once n (has_left n library_functions (all_functions q.modules) (library_back n h)) k

  never_twice : (n a b : List ℕ) → Twice (n, a) (n, b) (definitions (map shown q.modules)) → ⊥
  never_twice n a b h =
      let rest = flat_map defined_in (map shown q.modules) in
      elim (twice_split (n, a) (n, b) (defined_in library) rest h) [
        | inl k ↦ once_in library (distinct_left library_functions (all_functions q.modules) both_once) n a b k
        | inr (inl k) ↦ modules_once q.modules names_once n a b k
        | inr (inr (inl k)) ↦ library_apart n (named_by library n a k.0) (named_among q.modules n b k.1)
        | inr (inr (inr k)) ↦ library_apart n (named_by library n b k.0) (named_among q.modules n a k.1)
      ]

  pub no_duplicate : (n one other : List ℕ) → IsDefinedTwice (map shown q.modules) n one other → ⊥
  no_duplicate n one other d = never_twice n one other (twice_by (n, one) (n, other) (definitions (map shown q.modules)) d.place d.again d.apart d.at_place d.at_again)

  -- ---- names that are used

  shown_among : (n : List ℕ) → Has n (all_functions q.modules) ⊎ Has n (all_globals q.modules) → Has n (defined_names (map shown q.modules))
  shown_among n (inl h) =
      let m = has_flat_back function_names n q.modules h in
      has_right n (names_in library) (flat_map names_in (map shown q.modules)) (has_flat names_in (shown m.0) n (map shown q.modules) (has_map shown m.0 q.modules m.1) (has_left n (function_names m.0) (global_names m.0) m.2))
  shown_among n (inr h) =
      let m = has_flat_back global_names n q.modules h in
      has_right n (names_in library) (flat_map names_in (map shown q.modules)) (has_flat names_in (shown m.0) n (map shown q.modules) (has_map shown m.0 q.modules m.1) (has_right n (function_names m.0) (global_names m.0) m.2))

  defined_there : (n : List ℕ) → Has n (names_of q ++ map (λ (g : FlowGlobal). g.name) (globals_of q)) → Has n (defined_names (map shown q.modules))
  defined_there n h = elim (has_split n (names_of q) (map (λ (g : FlowGlobal). g.name) (globals_of q)) h) [
    | inl k ↦ elim (has_split n library_functions (map (λ (f : FlowFn). f.name) (functions_of q)) k) [
      | inl j ↦ has_left n (names_in library) (flat_map names_in (map shown q.modules)) (library_forth n j)
      | inr j ↦ shown_among n (inl (subst (λ (ns : List (List ℕ)). Has n ns) (functions_are q.modules) j))
    ]
    | inr k ↦ shown_among n (inr (subst (λ (ns : List (List ℕ)). Has n ns) (globals_are q.modules) k))
  ]

  pub no_undefined : (n : List ℕ) → IsUndefined (map shown q.modules) n → ⊥
  no_undefined n u =
      let i = has_flat_back (λ (i : Interface). i.used) n (map shown q.modules) (has_by n (used_names (map shown q.modules)) u.used) in
      let m = has_map_back shown i.0 q.modules i.1 in
      let own : Has n (named_in m.0) = subst (λ (j : Interface). Has n j.used) (sym m.2) i.2 in
      let named = contains_by n (flat_map named_in q.modules) (has_flat named_in m.0 n q.modules m.1 own) in
      let there = defined_there n (has_by n (names_of q ++ map (λ (g : FlowGlobal). g.name) (globals_of q)) (is.defined n named)) in
      u.nowhere (contains_by n (defined_names (map shown q.modules)) there)
