-- A number is that of one function, so both runs find the same function by it.
use Rattle.std.proofs.Common.{◌≡◌, ◌⊎◌, ℕ, ◌<◌, ◌≤◌, ◌==◌, Bool, true, false, true≢false, cond, Some, List, [], ◌∷◌, map, refl, sym, ap, subst, ◌∙◌, arith, inl, inr, eqb-true, eq-eqb}
use Rattle.std.specs.List.{count_by}
use Rattle.std.specs.Ordering.{nat_cmp, is_lt, is_eq, ordering_reverse}
use Rattle.std.specs.declared.cmp.Ordering.{Ordering}
use Rattle.std.specs.declared.cmp.Ordering.TheVariants.{Less, Equal, Greater}
use Rattle.std.specs.Cmp.Lexicographic.{slice_cmp}
use Rattle.std.proofs.lemmas.Cmp.{nat_list_cmp_total, tied_itself}
use Rattle.std.proofs.lemmas.Map.Text.{is_eq-slice_cmp}
use Rattle.std.proofs.lemmas.List.Sums.{sum_by-cons}
use Rattle.std.proofs.lemmas.Slice.Eq.{bytes_eq-Decides}
use Rattle.pw_value.specs.Names.{is_before}
use Rattle.pw_value.specs.ProgramNames.{library_functions}
use Rattle.pw_lower.specs.Modules.{lowered_function}
use Rattle.pw_cmean.specs.Worlds.{ProgramModule, World, Callable, callable, library}
use Rattle.pw_cmean.specs.Worlds as source
use Rattle.pw_run_languages.specs.Programs as flows
use Rattle.pw_run_languages.specs.Programs.{names_of}
use Rattle.pw_law_refine_steps.specs.FromLawRefine.Lowerable.{IsLowerableWorld}
use Rattle.pw_law_refine_steps.specs.FromLawRefine.Activations.{graphs}
use Rattle.pw_files.proofs.Standing.{Has, has_left, has_right, has_split, has_map, has_map_back, has_flat_back}
use Rattle.pw_law_refine_start.proofs.Lists.{found, finds, bit}
use Rattle.pw_law_refine_start.proofs.Functions.{called, name_in, calls_in, graph_there, full, same_number}

-- ---- names in order

less : (o : Ordering) → is_lt o ≡ true → o ≡ Less
less Less e = refl
less Equal e = absurd (true≢false (sym e))
less Greater e = absurd (true≢false (sym e))

chain : (a b c : List ℕ) → is_before a b ≡ true → is_before b c ≡ true → is_before a c ≡ true
chain a b c e f = ap is_lt (nat_list_cmp_total.trans a b c (less (slice_cmp nat_cmp a b) e) (less (slice_cmp nat_cmp b c) f))

not-itself : (a : List ℕ) → is_before a a ≡ false
not-itself a = ap is_lt (tied_itself nat_list_cmp_total a)

either-before : (a b : List ℕ) → (is_before a b ≡ true) ⊎ ((is_before b a ≡ true) ⊎ (a ≡ b))
either-before a b = by_order (slice_cmp nat_cmp a b) refl
  where
    by_order : (o : Ordering) → slice_cmp nat_cmp a b ≡ o → (is_before a b ≡ true) ⊎ ((is_before b a ≡ true) ⊎ (a ≡ b))
    by_order Less e = inl (ap is_lt e)
    by_order Greater e = inr (inl (ap is_lt (nat_list_cmp_total.antisymm b a ∙ ap ordering_reverse e)))
    by_order Equal e = inr (inr ((bytes_eq-Decides a b).0 (sym (is_eq-slice_cmp a b) ∙ ap is_eq e)))

-- ---- counts

module _ (p q : List ℕ → Bool) (all : (x : List ℕ) → p x ≡ true → q x ≡ true) where
  one-more : (v w : Bool) → (v ≡ true → w ≡ true) → cond v 1 0 ≤ cond w 1 0
  one-more true true h = omega arith
  one-more true false h = absurd (true≢false (sym (h refl)))
  one-more false w h = omega arith

  no-fewer : (xs : List (List ℕ)) → count_by p xs ≤ count_by q xs
  no-fewer [] = omega arith
  no-fewer (x ∷ xs) = omega (arith, sum_by-cons (bit p) x xs, sum_by-cons (bit q) x xs, one-more (p x) (q x) (all x), no-fewer xs)

  fewer : (a : List ℕ) (xs : List (List ℕ)) → p a ≡ false → q a ≡ true → Has a xs → count_by p xs < count_by q xs
  fewer a [] e f h = absurd h
  fewer a (x ∷ xs) e f (inl same) =
      omega (arith, sum_by-cons (bit p) x xs, sum_by-cons (bit q) x xs, unlike (p x) (q x) (ap p same ∙ e) (ap q same ∙ f), no-fewer xs)
    where
      unlike : (v w : Bool) → v ≡ false → w ≡ true → cond v 1 0 < cond w 1 0
      unlike false true g k = omega arith
      unlike true w g k = absurd (true≢false g)
      unlike false false g k = absurd (true≢false (sym k))
  fewer a (x ∷ xs) e f (inr h) =
      omega (arith, sum_by-cons (bit p) x xs, sum_by-cons (bit q) x xs, one-more (p x) (q x) (all x), fewer a xs e f h)

abbrev rank : List (List ℕ) → List ℕ → ℕ
rank names name = count_by (λ other. is_before other name) names

lower-rank : (names : List (List ℕ)) (a b : List ℕ) → Has a names → is_before a b ≡ true → rank names a < rank names b
lower-rank names a b h e = fewer (λ (x : List ℕ). is_before x a) (λ (x : List ℕ). is_before x b) (λ x f. chain x a b f e) a names (not-itself a) e h

one-rank : (names : List (List ℕ)) (a b : List ℕ) → Has a names → Has b names → rank names a ≡ rank names b → a ≡ b
one-rank names a b h k e = elim (either-before a b) [
  | inl before ↦ absurd (omega (arith, lower-rank names a b h before, e))
  | inr r ↦ elim r [
    | inl behind ↦ absurd (omega (arith, lower-rank names b a k behind, e))
    | inr same ↦ same
  ]
]

-- ---- functions

library-named : (f : Callable) → Has f library → Has f.name library_functions
library-named f (inl same) = inl (ap called same)
library-named f (inr (inl same)) = inr (inl (ap called same))
library-named f (inr (inr (inl same))) = inr (inr (inl (ap called same)))
library-named f (inr (inr (inr k))) = absurd k

pub numbers-found :
    (world : World) (n : ℕ) (f : Callable) → IsLowerableWorld world → source.function_at world.program n ≡ Some f → flows.function_at (graphs world) n ≡ Some f.name
numbers-found world n f l e =
    let p = world.program in
    let q = graphs world in
    let r = found (λ (c : Callable). source.function_number p c.name == n) (source.functions_of p) f e in
    let mine : flows.function_number q f.name ≡ n = sym (same_number p world.frame_of world.stack l.program f.name) ∙ eqb-true (source.function_number p f.name) n r.1 in
    let there : Has f.name (names_of q) = elim (has_split f library (calls_in p.modules) r.0) [
      | inl k ↦ has_left f.name library_functions (map name_in (flows.functions_of q)) (library-named f k)
      | inr k ↦
          let m = has_flat_back (λ (m : ProgramModule). map (callable m) m.tree.functions) f p.modules k in
          let g = has_map_back (callable m.0) f m.0.tree.functions m.2 in
          let graph = lowered_function m.0.name m.0.tree.records g.0 in
          let name : graph.name ≡ f.name = full m.0.name m.0.tree.records g.0 ∙ ap called g.2 in
          has_right f.name library_functions (map name_in (flows.functions_of q))
          (subst (λ (x : List ℕ). Has x (map name_in (flows.functions_of q))) name
          (has_map name_in graph (flows.functions_of q) (graph_there p world.frame_of world.stack m.0 g.0 m.1 g.1)))
    ] in
    let test : List ℕ → Bool = λ (x : List ℕ). flows.function_number q x == n in
    let z = finds test (names_of q) f.name there (eq-eqb (flows.function_number q f.name) n mine) in
    let s = found test (names_of q) z.0 z.1 in
    let same : z.0 ≡ f.name = one-rank (names_of q) z.0 f.name s.0 there (eqb-true (flows.function_number q z.0) n s.1 ∙ sym mine) in
    z.1 ∙ ap Some same
