-- The summary of bump and main, which makes a program by itself, and its call graph.
use Rattle.std.specs.Prelude.{ℕ, ◌≡◌, ◌<◌, ◌↔◌, false, Bool, Option, Some, None, unwrap_or, if◌then◌else◌, List, [], ◌∷◌, map, codes, slice_get, Contains}
use Rattle.std.specs.List.{flat_map, AllByRecursion}
use Rattle.std.specs.Str.{bytes_eq}
use Rattle.std.proofs.Common.{arith, subst, sym, refl, ◌∙◌, inl}
use Rattle.pw_value.specs.ProgramNames.{start_name}
use Rattle.pw_value.specs.declared.value.Kind.{Kind}
use Rattle.pw_value.specs.declared.value.Kind.TheVariants.{W32}
use Rattle.pw_flow.proofs.Once.{absent, once}
use Rattle.pw_link_rules.specs.declared.interface.Interface.{Interface}
use Rattle.pw_link_rules.specs.Linking.{few_functions, few_globals, all_defined, defined_once, all_agree, has_main, definitions, declarations, defined_names, used_names}
use Rattle.pw_summary.specs.declared.summary.Uses.{Uses}
use Rattle.pw_summary.specs.declared.summary.Summary.{Summary}
use Rattle.pw_summary.specs.Summary.{IsUses, IsSummary, summary_version}
use Rattle.pw_graph.specs.declared.graph.CallGraph.{CallGraph}
use Rattle.pw_graph.specs.CallGraph.{Calls, Weighs}
use Rattle.pw_graph.specs.Program.{AreLinked, interface_of, functions_of, IsUseOf, IsEscaped, IsTaken, IsCall, by_name, through_value, HasWeights, HasNeed, IsEligible, IsGraphOf}
use Rattle.pw_tests_runs.proofs.ProgramRows.{all_differ, distinct, are_distinct}
use Rattle.pw_tests_runs.proofs.WrittenLists.{nowhere, each, moved, EachAt, each_at, of_two, rising_none, rising_one, rising_two}

-- ---- the summary

abbrev of_start : Uses
of_start = record { calls = codes "exit" ∷ codes "main" ∷ []; shapes = []; refs = []; need = 0 }

abbrev of_bump : Uses
of_bump = record { calls = []; shapes = []; refs = (codes "n", 1, 1) ∷ []; need = 0 }

abbrev of_main : Uses
of_main = record { calls = codes "bump" ∷ codes "putchar" ∷ []; shapes = []; refs = (codes "n", 2, 0) ∷ []; need = 0 }

abbrev pub summary : Summary
summary = record {
  version = summary_version;
  «module» = codes "a";
  globals = (codes "n", codes "i!", Some W32, false) ∷ [];
  functions = (codes "$start", codes "fv") ∷ (codes "bump", codes "fv") ∷ (codes "main", codes "fi") ∷ [];
  declared = [];
  used = codes "bump" ∷ codes "exit" ∷ codes "main" ∷ codes "n" ∷ codes "putchar" ∷ [];
  taken = [];
  escaped = [];
  uses = of_start ∷ of_bump ∷ of_main ∷ [];
}

abbrev pub summaries : List Summary
summaries = summary ∷ []

uses_start : IsUses of_start
uses_start = record {
  calls = (tt, (refl, tt));
  no_call = absent start_name of_start.calls (all_differ start_name of_start.calls refl);
  shapes = tt;
  refs = tt;
  weights = tt;
  need = omega arith;
}

uses_bump : IsUses of_bump
uses_bump = record {
  calls = tt;
  no_call = λ c. nowhere start_name c;
  shapes = tt;
  refs = (tt, tt);
  weights = ((omega arith, omega arith), tt);
  need = omega arith;
}

uses_main : IsUses of_main
uses_main = record {
  calls = (tt, (refl, tt));
  no_call = absent start_name of_main.calls (all_differ start_name of_main.calls refl);
  shapes = tt;
  refs = (tt, tt);
  weights = ((omega arith, omega arith), tt);
  need = omega arith;
}

abbrev pub function_names : List (List ℕ)
function_names = codes "$start" ∷ codes "bump" ∷ codes "main" ∷ []

pub is_summary : IsSummary summary
unfolding are_distinct
is_summary = record {
  globals = (tt, tt);
  functions = (tt, (refl, (refl, tt)));
  declared = tt;
  used = (tt, (refl, (refl, (refl, (refl, tt)))));
  taken = tt;
  not_taken = λ c. nowhere start_name c;
  escaped = tt;
  uses = (uses_start, (uses_bump, (uses_main, tt)));
  each_uses = refl;
  start = record {
    beside = ((λ c. (2, omega arith, refl)), (λ c. (0, omega arith, refl)));
    once = once start_name function_names (distinct function_names refl);
    no_global = absent start_name (codes "n" ∷ []) (all_differ start_name (codes "n" ∷ []) refl);
  };
}

-- ---- it makes a program

abbrev interfaces : List Interface
interfaces = interface_of summary ∷ []

abbrev rank : List ℕ → ℕ
rank name =
    if bytes_eq name (codes "exit") then 0 else if bytes_eq name (codes "getchar") then 1 else
    if bytes_eq name (codes "putchar") then 2 else if bytes_eq name (codes "$start") then 3 else
    if bytes_eq name (codes "bump") then 4 else if bytes_eq name (codes "main") then 5 else 6

ranked : EachAt (λ i d. rank d.0 ≡ i) (definitions interfaces)
ranked = (refl, (refl, (refl, (refl, (refl, (refl, (refl, tt)))))))

-- a name's only shape
abbrev shape_for : List ℕ → List ℕ
shape_for name =
    if bytes_eq name (codes "exit") then codes "fvi" else if bytes_eq name (codes "getchar") then codes "fi" else codes "fii"

HasIts : List ℕ × List ℕ × List ℕ → Type 0
HasIts d = d.2 ≡ shape_for d.0

its : (name one shape : List ℕ) → Contains (declarations interfaces) (name, one, shape) → shape ≡ shape_for name
unfolding HasIts
its name one shape c = each HasIts (declarations interfaces) (refl, (refl, (refl, tt))) (name, one, shape) c

pub linked : AreLinked summaries
linked few_functions = omega arith
linked few_globals = omega arith
linked all_defined = λ name u. u.nowhere (moved (used_names interfaces) (defined_names interfaces)
    ((4, omega arith, refl), ((0, omega arith, refl), ((5, omega arith, refl), ((6, omega arith, refl), ((2, omega arith, refl), tt))))) name u.used)
linked defined_once = λ name one other t. t.apart (
    sym (each_at (λ i d. rank d.0 ≡ i) (definitions interfaces) ranked t.place (name, one) t.at_place)
    ∙ each_at (λ i d. rank d.0 ≡ i) (definitions interfaces) ranked t.again (name, other) t.at_again)
linked all_agree = λ name one other c. c.disagree (inl (its name one c.shape c.first ∙ sym (its name other c.against c.second)))
linked has_main = record { where_it_is = interface_of summary; stands = (0, omega arith, refl); shape = refl }

-- ---- its call graph

abbrev pub graph : CallGraph
graph = record {
  functions = codes "$start" ∷ codes "bump" ∷ codes "exit" ∷ codes "getchar" ∷ codes "main" ∷ codes "putchar" ∷ [];
  globals = (codes "n", W32) ∷ [];
  calls = (2 ∷ 4 ∷ []) ∷ [] ∷ [] ∷ [] ∷ (1 ∷ 5 ∷ []) ∷ [] ∷ [];
  refs = [] ∷ ((0, 1, 1) ∷ []) ∷ [] ∷ [] ∷ ((0, 2, 0) ∷ []) ∷ [] ∷ [];
  needs = 0 ∷ 0 ∷ 0 ∷ 0 ∷ 0 ∷ 0 ∷ [];
}

-- what holds of each call, and of each reference with its weights, holds by the rows
abbrev OfCalls : (ℕ → ℕ → Type 0) → Type 0
OfCalls Q = EachAt (λ a row. AllByRecursion (Q a) row) graph.calls

pub each_call : (Q : ℕ → ℕ → Type 0) → OfCalls Q → (a b : ℕ) → Calls graph a b → Q a b
each_call Q all a b c =
    each (Q a) c.row (each_at (λ a row. AllByRecursion (Q a) row) graph.calls all a c.row c.at) b c.stands

abbrev OfRefs : (ℕ → ℕ × ℕ × ℕ → Type 0) → Type 0
OfRefs Q = EachAt (λ a row. AllByRecursion (Q a) row) graph.refs

pub each_ref : (Q : ℕ → ℕ × ℕ × ℕ → Type 0) → OfRefs Q → (a v reads writes : ℕ) → Weighs graph a v reads writes → Q a (v, reads, writes)
each_ref Q all a v reads writes c =
    each (Q a) c.row (each_at (λ a row. AllByRecursion (Q a) row) graph.refs all a c.row c.at) (v, reads, writes) c.stands

-- the calls and the references, one by one
pub start_exit : Calls graph 0 2
start_exit = record { row = 2 ∷ 4 ∷ []; at = refl; stands = (0, omega arith, refl) }

pub start_main : Calls graph 0 4
start_main = record { row = 2 ∷ 4 ∷ []; at = refl; stands = (1, omega arith, refl) }

pub main_bump : Calls graph 4 1
main_bump = record { row = 1 ∷ 5 ∷ []; at = refl; stands = (0, omega arith, refl) }

main_putchar : Calls graph 4 5
main_putchar = record { row = 1 ∷ 5 ∷ []; at = refl; stands = (1, omega arith, refl) }

pub bump_weighs : Weighs graph 1 0 1 1
bump_weighs = record { row = (0, 1, 1) ∷ []; at = refl; stands = (0, omega arith, refl) }

pub main_weighs : Weighs graph 4 0 2 0
main_weighs = record { row = (0, 2, 0) ∷ []; at = refl; stands = (0, omega arith, refl) }

-- ---- what the summary says of them

abbrev start_use : IsUseOf summaries (codes "$start") of_start
start_use = record { summary = summary; stands = (0, omega arith, refl); place = 0; shape = codes "fv"; at = refl; uses = refl }

abbrev bump_use : IsUseOf summaries (codes "bump") of_bump
bump_use = record { summary = summary; stands = (0, omega arith, refl); place = 1; shape = codes "fv"; at = refl; uses = refl }

abbrev main_use : IsUseOf summaries (codes "main") of_main
main_use = record { summary = summary; stands = (0, omega arith, refl); place = 2; shape = codes "fi"; at = refl; uses = refl }

-- each use is one of these
each_use : (P : List ℕ → Uses → Type 0) → P (codes "$start") of_start → P (codes "bump") of_bump → P (codes "main") of_main
    → (f : List ℕ) (u : Uses) → IsUseOf summaries f u → P f u
each_use P start bump main f u made =
    each (λ (s : Summary). slice_get s.functions made.place ≡ Some (f, made.shape) → slice_get s.uses made.place ≡ Some u → P f u) summaries (in_it, tt)
    made.summary made.stands made.at made.uses
  where
    given : (name : List ℕ) (v : Uses) → P name v → Some v ≡ Some u → P name u
    given name v p e = of_two (λ (w : Uses) (x : Uses). P name w) v v p u u e e

    in_it : slice_get summary.functions made.place ≡ Some (f, made.shape) → slice_get summary.uses made.place ≡ Some u → P f u
    in_it at uses =
        each_at (λ i (d : List ℕ × List ℕ). slice_get summary.uses i ≡ Some u → P d.0 u) summary.functions
        (given (codes "$start") of_start start, (given (codes "bump") of_bump bump, (given (codes "main") of_main main, tt)))
        made.place (f, made.shape) at uses

-- ---- the places of names

abbrev place_of : List ℕ → ℕ
place_of name =
    if bytes_eq name (codes "$start") then 0 else if bytes_eq name (codes "bump") then 1 else
    if bytes_eq name (codes "exit") then 2 else if bytes_eq name (codes "getchar") then 3 else
    if bytes_eq name (codes "main") then 4 else 5

pub named_at : (a : ℕ) (f : List ℕ) → slice_get graph.functions a ≡ Some f → place_of f ≡ a
named_at a f e = each_at (λ i name. place_of name ≡ i) graph.functions (refl, (refl, (refl, (refl, (refl, (refl, tt)))))) a f e

-- ---- calls

abbrev IsCalled : ℕ → ℕ → Type 0
IsCalled a b = (f h : List ℕ) → slice_get graph.functions a ≡ Some f → slice_get graph.functions b ≡ Some h → IsCall summaries f h

all_called : (a b : ℕ) → Calls graph a b → IsCalled a b
all_called = each_call IsCalled (
  (
    of_two (IsCall summaries) (codes "$start") (codes "exit") (by_name of_start start_use (0, omega arith, refl)),
    (of_two (IsCall summaries) (codes "$start") (codes "main") (by_name of_start start_use (1, omega arith, refl)), tt),
  ),
  (
    tt,
    (
      tt,
      (
        tt,
        (
          (
            of_two (IsCall summaries) (codes "main") (codes "bump") (by_name of_main main_use (0, omega arith, refl)),
            (of_two (IsCall summaries) (codes "main") (codes "putchar") (by_name of_main main_use (1, omega arith, refl)), tt),
          ),
          (tt, tt),
        ),
      ),
    ),
  ),
)

abbrev CallsFrom : List ℕ → Uses → Type 0
CallsFrom f u = (h : List ℕ) → Contains u.calls h → Calls graph (place_of f) (place_of h)

calls_from : (f : List ℕ) (u : Uses) → IsUseOf summaries f u → CallsFrom f u
calls_from = each_use CallsFrom
    (each (λ h. Calls graph 0 (place_of h)) of_start.calls (start_exit, (start_main, tt)))
    (λ h c. absurd (nowhere h c))
    (each (λ h. Calls graph 4 (place_of h)) of_main.calls (main_bump, (main_putchar, tt)))

no_shape : (f : List ℕ) (u : Uses) → IsUseOf summaries f u → (shape : List ℕ) → Contains u.shapes shape → ⊥
no_shape = each_use (λ (f : List ℕ) (u : Uses). (shape : List ℕ) → Contains u.shapes shape → ⊥) nowhere nowhere nowhere

call_at : (f h : List ℕ) → IsCall summaries f h → Calls graph (place_of f) (place_of h)
call_at f h (by_name u made c) = calls_from f u made h c
call_at f h (through_value u shape made c there taken) = absurd (no_shape f u made shape c)

calls_back : (a b : ℕ) (f h : List ℕ) → slice_get graph.functions a ≡ Some f → slice_get graph.functions b ≡ Some h → IsCall summaries f h → Calls graph a b
calls_back a b f h e k c =
    subst (λ (a : ℕ). Calls graph a b) (named_at a f e) (subst (λ (b : ℕ). Calls graph (place_of f) b) (named_at b h k) (call_at f h c))

-- ---- eligible globals

n_eligible : IsEligible summaries (codes "n") W32
n_eligible = record {
  summary = summary;
  stands = (0, omega arith, refl);
  shape = codes "i!";
  defined = (0, omega arith, refl);
  kept = λ e. each (λ (s : Summary). Contains s.escaped (codes "n") → ⊥) summaries (nowhere (codes "n"), tt) e.summary e.stands e.escaped;
  no_function = λ e. each (λ (s : Summary). Contains (map (λ f. f.0) s.taken) (codes "n") → ⊥) summaries (nowhere (codes "n"), tt) e.summary e.stands e.taken;
}

eligible : (v : List ℕ) (k : Kind) → Contains graph.globals (v, k) → IsEligible summaries v k
eligible v k c = each (λ (g : List ℕ × Kind). IsEligible summaries g.0 g.1) graph.globals (n_eligible, tt) (v, k) c

global_there : (v : List ℕ) (k : Kind) → IsEligible summaries v k → Contains graph.globals (v, k)
global_there v k e =
    each (λ (s : Summary). Contains s.globals (v, e.shape, Some k, false) → Contains graph.globals (v, k)) summaries (in_it, tt) e.summary e.stands e.defined
  where
    in_it : Contains summary.globals (v, e.shape, Some k, false) → Contains graph.globals (v, k)
    in_it c = each (λ (g : List ℕ × List ℕ × Option Kind × Bool). Contains graph.globals (g.0, unwrap_or g.2 W32)) summary.globals ((0, omega arith, refl), tt) (v, e.shape, Some k, false) c

-- ---- references

abbrev IsWeighed : ℕ → ℕ × ℕ × ℕ → Type 0
IsWeighed a x = (f : List ℕ) (global : List ℕ × Kind) → slice_get graph.functions a ≡ Some f → slice_get graph.globals x.0 ≡ Some global
    → HasWeights summaries f global.0 x.1 x.2

all_weighed : (a v reads writes : ℕ) → Weighs graph a v reads writes → IsWeighed a (v, reads, writes)
all_weighed = each_ref IsWeighed (
  tt,
  (
    (
      of_two (λ (f : List ℕ) (global : List ℕ × Kind). HasWeights summaries f global.0 1 1) (codes "bump") (codes "n", W32)
          (record { u = of_bump; uses = bump_use; stands = (0, omega arith, refl) }),
      tt,
    ),
    (
      tt,
      (
        tt,
        (
          (
            of_two (λ (f : List ℕ) (global : List ℕ × Kind). HasWeights summaries f global.0 2 0) (codes "main") (codes "n", W32)
                (record { u = of_main; uses = main_use; stands = (0, omega arith, refl) }),
            tt,
          ),
          (tt, tt),
        ),
      ),
    ),
  ),
)

abbrev RefersSo : List ℕ → Uses → Type 0
RefersSo f u = (x : List ℕ × ℕ × ℕ) → Contains u.refs x → Weighs graph (place_of f) 0 x.1 x.2

refers : (f : List ℕ) (u : Uses) → IsUseOf summaries f u → RefersSo f u
refers = each_use RefersSo
    (λ x c. absurd (nowhere x c))
    (each (λ (x : List ℕ × ℕ × ℕ). Weighs graph 1 0 x.1 x.2) of_bump.refs (bump_weighs, tt))
    (each (λ (x : List ℕ × ℕ × ℕ). Weighs graph 4 0 x.1 x.2) of_main.refs (main_weighs, tt))

weighs_back : (a v reads writes : ℕ) (f : List ℕ) (global : List ℕ × Kind) → slice_get graph.functions a ≡ Some f → slice_get graph.globals v ≡ Some global
    → HasWeights summaries f global.0 reads writes → Weighs graph a v reads writes
weighs_back a v reads writes f global e k has =
    let first : 0 ≡ v = each_at (λ i (g : List ℕ × Kind). 0 ≡ i) graph.globals (refl, tt) v global k in
    subst (λ (a : ℕ). Weighs graph a v reads writes) (named_at a f e)
    (subst (λ (v : ℕ). Weighs graph (place_of f) v reads writes) first (refers f has.u has.uses (global.0, reads, writes) has.stands))

-- ---- needs

none_needed : (a n : ℕ) → slice_get graph.needs a ≡ Some n → n ≡ 0
none_needed = each_at (λ i n. n ≡ 0) graph.needs (refl, (refl, (refl, (refl, (refl, (refl, tt))))))

no_need : (f : List ℕ) (u : Uses) → IsUseOf summaries f u → u.need ≡ 0
no_need = each_use (λ (f : List ℕ) (u : Uses). u.need ≡ 0) refl refl refl

needed : (a n : ℕ) (f : List ℕ) → slice_get graph.functions a ≡ Some f → slice_get graph.needs a ≡ Some n → HasNeed summaries f n
needed a n f e k = record { told = λ u made. none_needed a n k ∙ sym (no_need f u made); untold = λ none. none_needed a n k }

-- ---- together

pub is_graph : IsGraphOf summaries graph
is_graph = record {
  functions = (tt, (refl, (refl, (refl, (refl, (refl, tt))))));
  each_function = λ f. (
    moved graph.functions (map (λ h. h.0) (functions_of summaries)) (
      (3, omega arith, refl),
      ((4, omega arith, refl), ((0, omega arith, refl), ((1, omega arith, refl), ((5, omega arith, refl), ((2, omega arith, refl), tt))))),
    ) f,
    moved (map (λ h. h.0) (functions_of summaries)) graph.functions (
      (2, omega arith, refl),
      ((3, omega arith, refl), ((5, omega arith, refl), ((0, omega arith, refl), ((1, omega arith, refl), ((4, omega arith, refl), tt))))),
    ) f,
  );
  globals = (tt, tt);
  each_global = λ v k. (eligible v k, global_there v k);
  call_rows = refl;
  calls_rise = (rising_two 2 4 (omega arith), (rising_none, (rising_none, (rising_none, (rising_two 1 5 (omega arith), (rising_none, tt))))));
  calls_within = each_call (λ a b. b < 6) ((omega arith, (omega arith, tt)), (tt, (tt, (tt, ((omega arith, (omega arith, tt)), (tt, tt))))));
  calls = λ a b f h e k. ((λ c. all_called a b c f h e k), calls_back a b f h e k);
  ref_rows = refl;
  refs_rise = (rising_none, (rising_one 0, (rising_none, (rising_none, (rising_one 0, (rising_none, tt))))));
  refs_within = each_ref (λ a x. x.0 < 1) (tt, ((omega arith, tt), (tt, (tt, ((omega arith, tt), (tt, tt))))));
  refs = λ a v reads writes f global e k. ((λ w. all_weighed a v reads writes w f global e k), weighs_back a v reads writes f global e k);
  need_rows = refl;
  needs = needed;
}
