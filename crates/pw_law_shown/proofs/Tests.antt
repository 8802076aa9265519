-- The tests of linking come to the same of modules that define, use and declare the same.
use Rattle.std.proofs.Common.{◌≡◌, ◌⊎◌, ℕ, ◌<◌, ◌≤◌, List, [], ◌∷◌, ◌++◌, length, map, refl, sym, ap, subst, ◌∙◌, inl, inr}
use Rattle.std.specs.Prelude.{Contains, ◌↔◌, ◌+◌}
use Rattle.std.specs.List.{flat_map, sum_by}
use Rattle.std.proofs.lemmas.List.{map-append}
use Rattle.std.proofs.lemmas.List.Concat.{flat_map-cons}
use Rattle.std.proofs.lemmas.List.Sums.{sum_by-cons}
use Rattle.pw_value.specs.Caps.{capped}
use Rattle.pw_value.specs.Limits.{function_limit, global_limit}
use Rattle.pw_value.specs.declared.fault.LinkFault.{LinkFault}
use Rattle.pw_value.specs.declared.fault.LinkFault.TheVariants as F
use Rattle.pw_value.specs.declared.fault.What.TheVariants.{Functions, Globals}
use Rattle.pw_flow.specs.ValidFlow.{AreDistinct}
use Rattle.pw_files.proofs.Standing.{Has, has_by, contains_by, has_left, has_right, has_split, has_map, has_map_back, has_flat, has_flat_back}
use Rattle.pw_link_rules.specs.declared.interface.Interface.{Interface}
use Rattle.pw_link_rules.specs.Linking.{library, names_in, defined_in, declared_in, definitions, declarations, defined_names, used_names, function_count, global_count, IsUndefined, IsDefinedTwice, IsInConflict, HasMain, IsLeastName, IsLeastPair, Test, few_functions, few_globals, all_defined, defined_once, all_agree, has_main, Passes, Fails, Links, Refusal}
use Rattle.pw_law_shown.proofs.Twice.{Twice, twice_by, places, twice_left, twice_right, twice_across, twice_crossed, twice_split, beside, once_beside}

-- ---- what the tests look at is the same

pub record Same (is js : List Interface) : Type 0 where
  pub functions : function_count is ≡ function_count js
  pub globals : global_count is ≡ global_count js
  pub undefined : (n : List ℕ) → IsUndefined is n ↔ IsUndefined js n
  pub twice : (n a b : List ℕ) → IsDefinedTwice is n a b ↔ IsDefinedTwice js n a b
  pub conflict : (n a b : List ℕ) → IsInConflict is n a b ↔ IsInConflict js n a b
  pub main : HasMain is ↔ HasMain js

pub turned : (is js : List Interface) → Same is js → Same js is
turned is js same = record {
  functions = sym same.functions;
  globals = sym same.globals;
  undefined = λ n. ((same.undefined n).1, (same.undefined n).0);
  twice = λ n a b. ((same.twice n a b).1, (same.twice n a b).0);
  conflict = λ n a b. ((same.conflict n a b).1, (same.conflict n a b).0);
  main = (same.main.1, same.main.0);
}

least_name : (Is Other : List ℕ → Type 0) → ((n : List ℕ) → Is n ↔ Other n) → (n : List ℕ) → IsLeastName Is n → IsLeastName Other n
least_name Is Other same n l = record { is = (same n).0 l.is; least = λ m h. l.least m ((same m).1 h) }

least_pair : (Is Other : List ℕ → List ℕ → List ℕ → Type 0) → ((n a b : List ℕ) → Is n a b ↔ Other n a b) → (n a b : List ℕ) → IsLeastPair Is n a b → IsLeastPair Other n a b
least_pair Is Other same n a b l = record { is = (same n a b).0 l.is; least = λ m c d h. l.least m c d ((same m c d).1 h) }

passes : (is js : List Interface) → Same is js → (t : Test) → Passes t is → Passes t js
passes is js same few_functions p = subst (λ (n : ℕ). n ≤ function_limit) same.functions p
passes is js same few_globals p = subst (λ (n : ℕ). n ≤ global_limit) same.globals p
passes is js same all_defined p = λ n h. p n ((same.undefined n).1 h)
passes is js same defined_once p = λ n a b h. p n a b ((same.twice n a b).1 h)
passes is js same all_agree p = λ n a b h. p n a b ((same.conflict n a b).1 h)
passes is js same has_main p = same.main.0 p

fails : (is js : List Interface) → Same is js → (t : Test) (fault : LinkFault) → Fails t is fault → Fails t js fault
fails is js same few_functions fault h = subst (λ (n : ℕ). (function_limit < n) × (fault ≡ F.TooMany Functions (capped n))) same.functions h
fails is js same few_globals fault h = subst (λ (n : ℕ). (global_limit < n) × (fault ≡ F.TooMany Globals (capped n))) same.globals h
fails is js same all_defined fault h = (h.0, least_name (IsUndefined is) (IsUndefined js) same.undefined h.0 h.1, h.2)
fails is js same defined_once fault h = (h.0, h.1, h.2, least_pair (IsDefinedTwice is) (IsDefinedTwice js) same.twice h.0 h.1 h.2 h.3, h.4)
fails is js same all_agree fault h = (h.0, h.1, h.2, least_pair (IsInConflict is) (IsInConflict js) same.conflict h.0 h.1 h.2 h.3, h.4)
fails is js same has_main fault h = (λ m. h.0 (same.main.1 m), h.1)

pub links : (is js : List Interface) → Same is js → Links is → Links js
links is js same l = λ t. passes is js same t (l t)

pub refused : (is js : List Interface) → Same is js → (fault : LinkFault) → Refusal is fault → Refusal js fault
refused is js same fault r = record { failed = r.failed; fails = fails is js same r.failed fault r.fails; earlier = λ t low. passes is js same t (r.earlier t low) }

-- ---- two modules that define and declare the same

pub record Alike (i j : Interface) : Type 0 where
  pub home : i.module ≡ j.module
  pub functions : length i.functions ≡ length j.functions
  pub globals : length i.globals ≡ length j.globals
  pub defines : (n : List ℕ) → Has n (names_in i) → Has n (names_in j)
  pub defined : (n : List ℕ) → Has n (names_in j) → Has n (names_in i)
  pub once : AreDistinct (names_in i)
  pub once_there : AreDistinct (names_in j)
  pub declares : (d : List ℕ × List ℕ) → Has d i.declared → Has d j.declared
  pub declared : (d : List ℕ × List ℕ) → Has d j.declared → Has d i.declared
  pub main : i.main ≡ j.main

pub turn : (i j : Interface) → Alike i j → Alike j i
turn i j a = record {
  home = sym a.home;
  functions = sym a.functions;
  globals = sym a.globals;
  defines = a.defined;
  defined = a.defines;
  once = a.once_there;
  once_there = a.once;
  declares = a.declared;
  declared = a.declares;
  main = sym a.main;
}

-- the second uses what the first does, and besides only names that are known
pub record UsesAlike (known : List (List ℕ)) (i j : Interface) : Type 0 where
  pub uses : (n : List ℕ) → Has n i.used → Has n j.used
  pub used : (n : List ℕ) → Has n j.used → Has n i.used ⊎ Has n known

-- ---- two lists of modules, item by item

abbrev pub Each : (Interface → Interface → Type 0) → List Interface → List Interface → Type 0
Each R [] [] = Unit {0}
Each R [] (j ∷ js) = ⊥
Each R (i ∷ is) [] = ⊥
Each R (i ∷ is) (j ∷ js) = R i j × Each R is js

each_turn : (is js : List Interface) → Each Alike is js → Each Alike js is
each_turn [] [] all = tt
each_turn [] (j ∷ js) all = absurd all
each_turn (i ∷ is) [] all = absurd all
each_turn (i ∷ is) (j ∷ js) all = (turn i j all.0, each_turn is js all.1)

partner : (R : Interface → Interface → Type 0) (is js : List Interface) → Each R is js → (i : Interface) → Has i is → (j : Interface) × Has j js × R i j
partner R [] [] all i h = absurd h
partner R [] (j ∷ js) all i h = absurd h
partner R (k ∷ is) [] all i h = absurd all
partner R (k ∷ is) (j ∷ js) all i (inl e) = (j, inl refl, subst (λ (x : Interface). R x j) e all.0)
partner R (k ∷ is) (j ∷ js) all i (inr h) = let p = partner R is js all.1 i h in (p.0, inr p.1, p.2)

partner_back : (R : Interface → Interface → Type 0) (is js : List Interface) → Each R is js → (j : Interface) → Has j js → (i : Interface) × Has i is × R i j
partner_back R [] [] all j h = absurd h
partner_back R [] (k ∷ js) all j h = absurd all
partner_back R (i ∷ is) [] all j h = absurd h
partner_back R (i ∷ is) (k ∷ js) all j (inl e) = (i, inl refl, subst (λ (x : Interface). R i x) e all.0)
partner_back R (i ∷ is) (k ∷ js) all j (inr h) = let p = partner_back R is js all.1 j h in (p.0, inr p.1, p.2)

-- ---- counts

counts : (count : Interface → ℕ) → ((i j : Interface) → Alike i j → count i ≡ count j) → (is js : List Interface) → Each Alike is js → sum_by count is ≡ sum_by count js
counts count same [] [] all = refl
counts count same [] (j ∷ js) all = absurd all
counts count same (i ∷ is) [] all = absurd all
counts count same (i ∷ is) (j ∷ js) all =
    let one : count i ≡ count j = same i j all.0 in
    let rest : sum_by count is ≡ sum_by count js = counts count same is js all.1 in
    sum_by-cons count i is ∙ ap (λ (n : ℕ). n + sum_by count is) one ∙ ap (λ (n : ℕ). count j + n) rest ∙ sym (sum_by-cons count j js)

-- ---- names that are defined

names_over : (is js : List Interface) → Each Alike is js → (n : List ℕ) → Has n (defined_names is) → Has n (defined_names js)
names_over is js all n h =
    elim (has_split n (names_in library) (flat_map names_in is) h) [
      | inl k ↦ has_left n (names_in library) (flat_map names_in js) k
      | inr k ↦
          let i = has_flat_back names_in n is k in
          let j = partner Alike is js all i.0 i.1 in
          has_right n (names_in library) (flat_map names_in js) (has_flat names_in j.0 n js j.1 (j.2.defines n i.2))
    ]

undefined_over : (known : List (List ℕ)) (is js : List Interface) → Each Alike is js → Each (UsesAlike known) is js → (n : List ℕ) → IsUndefined is n → IsUndefined js n
undefined_over known is js all uses n u =
    let i = has_flat_back (λ (i : Interface). i.used) n is (has_by n (used_names is) u.used) in
    let j = partner (UsesAlike known) is js uses i.0 i.1 in
    record {
      ordinary = u.ordinary;
      used = contains_by n (used_names js) (has_flat (λ (j : Interface). j.used) j.0 n js j.1 (j.2.uses n i.2));
      nowhere = λ d. u.nowhere (contains_by n (defined_names is) (names_over js is (each_turn is js all) n (has_by n (defined_names js) d)));
    }

undefined_back : (known : List (List ℕ)) (is js : List Interface) → Each Alike is js → Each (UsesAlike known) is js → ((n : List ℕ) → Has n known → Has n (defined_names is)) → (n : List ℕ) → IsUndefined js n → IsUndefined is n
undefined_back known is js all uses know n u =
    let nowhere : ¬ Contains (defined_names is) n = λ d. u.nowhere (contains_by n (defined_names js) (names_over is js all n (has_by n (defined_names is) d))) in
    let j = has_flat_back (λ (j : Interface). j.used) n js (has_by n (used_names js) u.used) in
    let i = partner_back (UsesAlike known) is js uses j.0 j.1 in
    record {
      ordinary = u.ordinary;
      used = elim (i.2.used n j.2) [
        | inl h ↦ contains_by n (used_names is) (has_flat (λ (i : Interface). i.used) i.0 n is i.1 h)
        | inr k ↦ absurd (nowhere (contains_by n (defined_names is) (know n k)))
      ];
      nowhere = nowhere;
    }

-- ---- names that are defined twice

pub beside_all : (i : Interface) → defined_in i ≡ map (beside i.module) (names_in i)
beside_all i = sym (map-append (beside i.module) i.functions i.globals)

definition_over : (i j : Interface) → Alike i j → (d : List ℕ × List ℕ) → Has d (defined_in i) → Has d (defined_in j)
definition_over i j a d h =
    let n = has_map_back (beside i.module) d (names_in i) (subst (λ (ds : List (List ℕ × List ℕ)). Has d ds) (beside_all i) h) in
    let there = has_map (beside j.module) n.0 (names_in j) (a.defines n.0 n.1) in
    let same : beside j.module n.0 ≡ d = ap (λ (home : List ℕ). beside home n.0) (sym a.home) ∙ n.2 in
    subst (λ (ds : List (List ℕ × List ℕ)). Has d ds) (sym (beside_all j)) (subst (λ (e : List ℕ × List ℕ). Has e (map (beside j.module) (names_in j))) same there)

definitions_over : (is js : List Interface) → Each Alike is js → (d : List ℕ × List ℕ) → Has d (flat_map defined_in is) → Has d (flat_map defined_in js)
definitions_over is js all d h =
    let i = has_flat_back defined_in d is h in
    let j = partner Alike is js all i.0 i.1 in
    has_flat defined_in j.0 d js j.1 (definition_over i.0 j.0 j.2 d i.2)

own_once : (i : Interface) → AreDistinct (names_in i) → (n a b : List ℕ) → Twice (n, a) (n, b) (defined_in i) → ⊥
own_once i once n a b h = once_beside i.module (names_in i) once n a b (subst (λ (ds : List (List ℕ × List ℕ)). Twice (n, a) (n, b) ds) (beside_all i) h)

twice_flat : (is js : List Interface) → Each Alike is js → (n a b : List ℕ) → Twice (n, a) (n, b) (flat_map defined_in is) → Twice (n, a) (n, b) (flat_map defined_in js)
twice_flat [] [] all n a b h = h
twice_flat [] (j ∷ js) all n a b h = absurd all
twice_flat (i ∷ is) [] all n a b h = absurd all
twice_flat (i ∷ is) (j ∷ js) all n a b h =
    let x : List ℕ × List ℕ = (n, a) in
    let y : List ℕ × List ℕ = (n, b) in
    let own = defined_in j in
    let rest = flat_map defined_in js in
    let parts = twice_split x y (defined_in i) (flat_map defined_in is) (subst (λ (ds : List (List ℕ × List ℕ)). Twice x y ds) (flat_map-cons defined_in i is) h) in
    let there : Twice x y (own ++ rest) = elim parts [
      | inl k ↦ absurd (own_once i all.0.once n a b k)
      | inr (inl k) ↦ twice_right x y own rest (twice_flat is js all.1 n a b k)
      | inr (inr (inl k)) ↦ twice_across x y own rest (definition_over i j all.0 x k.0) (definitions_over is js all.1 y k.1)
      | inr (inr (inr k)) ↦ twice_crossed x y own rest (definition_over i j all.0 y k.0) (definitions_over is js all.1 x k.1)
    ] in
    subst (λ (ds : List (List ℕ × List ℕ)). Twice x y ds) (sym (flat_map-cons defined_in j js)) there

twice_all : (is js : List Interface) → Each Alike is js → (n a b : List ℕ) → Twice (n, a) (n, b) (definitions is) → Twice (n, a) (n, b) (definitions js)
twice_all is js all n a b h =
    let x : List ℕ × List ℕ = (n, a) in
    let y : List ℕ × List ℕ = (n, b) in
    let own = defined_in library in
    let rest = flat_map defined_in js in
    elim (twice_split x y own (flat_map defined_in is) h) [
      | inl k ↦ twice_left x y own rest k
      | inr (inl k) ↦ twice_right x y own rest (twice_flat is js all n a b k)
      | inr (inr (inl k)) ↦ twice_across x y own rest k.0 (definitions_over is js all y k.1)
      | inr (inr (inr k)) ↦ twice_crossed x y own rest k.0 (definitions_over is js all x k.1)
    ]

twice_over : (is js : List Interface) → Each Alike is js → (n a b : List ℕ) → IsDefinedTwice is n a b → IsDefinedTwice js n a b
twice_over is js all n a b d =
    let p = places (n, a) (n, b) (definitions js) (twice_all is js all n a b (twice_by (n, a) (n, b) (definitions is) d.place d.again d.apart d.at_place d.at_again)) in
    record { ordinary = d.ordinary; place = p.one; again = p.other; apart = p.apart; at_place = p.at_one; at_again = p.at_other }

-- ---- declarations, and `main`

declaration_over : (i j : Interface) → Alike i j → (x : List ℕ × List ℕ × List ℕ) → Has x (declared_in i) → Has x (declared_in j)
declaration_over i j a x h =
    let d = has_map_back (λ (d : List ℕ × List ℕ). (d.0, i.module, d.1)) x i.declared h in
    let there = has_map (λ (d : List ℕ × List ℕ). (d.0, j.module, d.1)) d.0 j.declared (a.declares d.0 d.1) in
    let same : (d.0.0, j.module, d.0.1) ≡ x = ap (λ (home : List ℕ). (d.0.0, home, d.0.1)) (sym a.home) ∙ d.2 in
    subst (λ (y : List ℕ × List ℕ × List ℕ). Has y (declared_in j)) same there

declarations_over : (is js : List Interface) → Each Alike is js → (x : List ℕ × List ℕ × List ℕ) → Contains (declarations is) x → Contains (declarations js) x
declarations_over is js all x c = contains_by x (declarations js) (elim (has_split x (declared_in library) (flat_map declared_in is) (has_by x (declarations is) c)) [
  | inl k ↦ has_left x (declared_in library) (flat_map declared_in js) k
  | inr k ↦
      let i = has_flat_back declared_in x is k in
      let j = partner Alike is js all i.0 i.1 in
      has_right x (declared_in library) (flat_map declared_in js) (has_flat declared_in j.0 x js j.1 (declaration_over i.0 j.0 j.2 x i.2))
])

conflict_over : (is js : List Interface) → Each Alike is js → (n a b : List ℕ) → IsInConflict is n a b → IsInConflict js n a b
conflict_over is js all n a b c = record {
  ordinary = c.ordinary;
  shape = c.shape;
  against = c.against;
  first = declarations_over is js all (n, a, c.shape) c.first;
  second = declarations_over is js all (n, b, c.against) c.second;
  disagree = c.disagree;
}

main_over : (is js : List Interface) → Each Alike is js → HasMain is → HasMain js
main_over is js all m =
    let j = partner Alike is js all m.where_it_is (has_by m.where_it_is is m.stands) in
    record { where_it_is = j.0; stands = contains_by j.0 js j.1; shape = sym j.2.main ∙ m.shape }

-- ---- what the tests look at

pub same : (known : List (List ℕ)) (is js : List Interface) → Each Alike is js → Each (UsesAlike known) is js → ((n : List ℕ) → Has n known → Has n (defined_names is)) → Same is js
same known is js all uses know =
    let back = each_turn is js all in
    record {
      functions = counts (λ (i : Interface). length i.functions) (λ i j a. a.functions) is js all;
      globals = counts (λ (i : Interface). length i.globals) (λ i j a. a.globals) is js all;
      undefined = λ n. (undefined_over known is js all uses n, undefined_back known is js all uses know n);
      twice = λ n a b. (twice_over is js all n a b, twice_over js is back n a b);
      conflict = λ n a b. (conflict_over is js all n a b, conflict_over js is back n a b);
      main = (main_over is js all, main_over js is back);
    }
