-- Modules that make a program define each name once.
use Rattle.std.proofs.Common.{◌≡◌, ◌≢◌, ◌⊎◌, ℕ, zero, suc, Bool, true, false, List, [], ◌∷◌, ◌++◌, map, refl, sym, ap, subst, ◌∙◌, arith, inl, inr, All}
use Rattle.std.specs.Prelude.{Option, Some, None, slice_get}
use Rattle.std.specs.List.{cons_option, flat_map, AllByRecursion, IsDistinct}
use Rattle.std.specs.Str.{bytes_eq}
use Rattle.std.proofs.lemmas.Slice.Eq.{bytes_eq-Decides}
use Rattle.std.proofs.lemmas.List.Concat.{flat_map-cons}
use Rattle.std.proofs.lemmas.List.Elements.{recursion_from_All}
use Rattle.pw_value.specs.declared.value.Kind.{Kind}
use Rattle.pw_value.specs.ProgramNames.{IsOrdinary, start_name, main_name, library_name, library_functions}
use Rattle.pw_files.proofs.Standing.{Has, has_by, contains_by, has_each, has_map, has_map_back, has_left, has_right, has_flat, has_flat_back}
use Rattle.pw_files.specs.Rising.{IsRising}
use Rattle.pw_summary.specs.declared.summary.Summary.{Summary}
use Rattle.pw_summary.specs.declared.summary.Uses.{Uses}
use Rattle.pw_summary.specs.Summary.{IsSummary}
use Rattle.pw_link_rules.specs.Linking.{library, library_declarations, defined_in, definitions, defined_once}
use Rattle.pw_graph.specs.Program.{interface_of, AreLinked}
use Rattle.pw_graph.specs.Making.{homes_in, module_homes, all_homes, eligible_one, eligible_in, all_eligible, with_kind}
use Rattle.pw_graph.proofs.Lists.{Apart, distinct, apart_append, rising_apart, at_has, has_filtered_back}

-- ---- no ordinary name stands twice among what is defined

abbrev Once : List (List ℕ × List ℕ) → Type 0
Once [] = Unit {0}
Once (d ∷ ds) = ((a : List ℕ) → IsOrdinary d.0 → Has (d.0, a) ds → ⊥) × Once ds

abbrev NoTwo : List (List ℕ × List ℕ) → Type 0
NoTwo ds = (i j : ℕ) (n a b : List ℕ) → i ≢ j → slice_get ds i ≡ Some (n, a) → slice_get ds j ≡ Some (n, b) → IsOrdinary n → ⊥

suc_apart : (i j : ℕ) → i ≢ j → suc i ≢ suc j
suc_apart i j h e = h (omega arith)

zero_apart : (j : ℕ) → zero ≢ suc j
zero_apart j e = omega arith

once : (ds : List (List ℕ × List ℕ)) → NoTwo ds → Once ds
once [] none = tt
once (d ∷ ds) none = (
  λ a ordinary h. let p = at_has ds (d.0, a) h in none 0 (suc p.0) d.0 d.1 a (zero_apart p.0) refl p.1 ordinary,
  once ds (λ i j n a b apart one two. none (suc i) (suc j) n a b (suc_apart i j apart) one two),
)

once_back : (xs ys : List (List ℕ × List ℕ)) → Once (xs ++ ys) → Once ys
once_back [] ys all = all
once_back (x ∷ xs) ys all = once_back xs ys all.1

across : (xs ys : List (List ℕ × List ℕ)) → Once (xs ++ ys) → (n a b : List ℕ) → IsOrdinary n → Has (n, a) xs → Has (n, b) ys → ⊥
across [] ys all n a b ordinary h k = h
across (x ∷ xs) ys all n a b ordinary (inl e) k =
    let same : x.0 ≡ n = ap (λ (p : List ℕ × List ℕ). p.0) e in
    all.0 b (subst IsOrdinary (sym same) ordinary) (has_right (x.0, b) xs ys (subst (λ (m : List ℕ). Has (m, b) ys) (sym same) k))
across (x ∷ xs) ys all n a b ordinary (inr h) k = across xs ys all.1 n a b ordinary h k

all_once : (ss : List Summary) → AreLinked ss → Once (definitions (map interface_of ss))
all_once ss linked = once (definitions (map interface_of ss)) (λ i j n a b apart one two ordinary.
    linked defined_once n a b (record { ordinary = ordinary; place = i; again = j; apart = apart; at_place = one; at_again = two }))

-- ---- what a module defines

function_defined : (s : Summary) (n : List ℕ) → Has n (map (λ f. f.0) s.functions) → Has (n, s.module) (defined_in (interface_of s))
function_defined s n h = has_left (n, s.module) (map (λ name. (name, s.module)) (map (λ f. f.0) s.functions)) (map (λ name. (name, s.module)) (map (λ g. g.0) s.globals)) (has_map (λ name. (name, s.module)) n (map (λ f. f.0) s.functions) h)

global_defined : (s : Summary) (n : List ℕ) → Has n (map (λ g. g.0) s.globals) → Has (n, s.module) (defined_in (interface_of s))
global_defined s n h = has_right (n, s.module) (map (λ name. (name, s.module)) (map (λ f. f.0) s.functions)) (map (λ name. (name, s.module)) (map (λ g. g.0) s.globals)) (has_map (λ name. (name, s.module)) n (map (λ g. g.0) s.globals) h)

-- ---- $start

ordinary_or_not : (n : List ℕ) (b : Bool) → bytes_eq n start_name ≡ b → (n ≡ start_name) ⊎ IsOrdinary n
ordinary_or_not n true is = inl ((bytes_eq-Decides n start_name).0 is)
ordinary_or_not n false is = inr (λ e. let on : bytes_eq n start_name ≡ true = (bytes_eq-Decides n start_name).1 e in cc)

differs : (a b : List ℕ) → bytes_eq a b ≡ false → a ≢ b
differs a b is e = let on : bytes_eq a b ≡ true = (bytes_eq-Decides a b).1 e in cc

main_ordinary : IsOrdinary main_name
main_ordinary = differs main_name start_name refl

main_beside : (s : Summary) → IsSummary s → Has start_name (map (λ f. f.0) s.functions) → Has main_name (map (λ f. f.0) s.functions)
main_beside s lawful h = has_by main_name (map (λ f. f.0) s.functions) (lawful.start.beside.0 (contains_by start_name (map (λ f. f.0) s.functions) h))

-- ---- names of functions

names_in : (fs : List (List ℕ × List ℕ)) (us : List Uses) → map (λ h. h.0) (homes_in fs us) ≡ map (λ f. f.0) fs
names_in [] us = refl
names_in (f ∷ fs) [] = ap (λ (ns : List (List ℕ)). f.0 ∷ ns) (names_in fs [])
names_in (f ∷ fs) (u ∷ us) = ap (λ (ns : List (List ℕ)). f.0 ∷ ns) (names_in fs us)

map_append : {X Y : Type 0} (h : X → Y) (xs ys : List X) → map h (xs ++ ys) ≡ map h xs ++ map h ys
map_append h [] ys = refl
map_append {X} {Y} h (x ∷ xs) ys = ap (λ (zs : List Y). h x ∷ zs) (map_append h xs ys)

-- the names of a list that comes from modules, module by module
split_names : {X : Type 0} (key : X → List ℕ) (part : Summary → List X) (s : Summary) (ss : List Summary) → map key (flat_map part (s ∷ ss)) ≡ map key (part s) ++ map key (flat_map part ss)
split_names {X} key part s ss = ap (λ (xs : List X). map key xs) (flat_map-cons part s ss) ∙ map_append key (part s) (flat_map part ss)

record Named {X : Type 0} (key : X → List ℕ) (part : Summary → List X) (ss : List Summary) (n : List ℕ) : Type 0 where
  summary : Summary
  stands : Has summary ss
  name : Has n (map key (part summary))

named : {X : Type 0} (key : X → List ℕ) (part : Summary → List X) (ss : List Summary) (n : List ℕ) → Has n (map key (flat_map part ss)) → Named key part ss n
named key part ss n h =
    let p = has_map_back key n (flat_map part ss) h in
    let q = has_flat_back part p.0 ss p.1 in
    record { summary = q.0; stands = q.1; name = subst (λ m. Has m (map key (part q.0))) p.2 (has_map key p.0 (part q.0) q.2) }

-- names of parts are apart where those of each are, and where those of each two modules are
parts_apart : {X : Type 0} (key : X → List ℕ) (part : Summary → List X) (P : Summary → Type 0) → ((s : Summary) → P s → Apart (map key (part s)))
    → ((s t : Summary) (n : List ℕ) → P s → P t → Has n (map key (part s)) → Has n (map key (part t)) → (m : List ℕ) × IsOrdinary m × Has (m, s.module) (defined_in (interface_of s)) × Has (m, t.module) (defined_in (interface_of t)))
    → (ss : List Summary) → AllByRecursion P ss → Once (flat_map defined_in (map interface_of ss)) → Apart (map key (flat_map part ss))
parts_apart key part P each both [] all all_apart = tt
parts_apart key part P each both (s ∷ ss) all all_apart =
    let split = subst Once (flat_map-cons defined_in (interface_of s) (map interface_of ss)) all_apart in
    subst Apart (sym (split_names key part s ss)) (apart_append (map key (part s)) (map key (flat_map part ss)) (each s all.0)
    (parts_apart key part P each both ss all.1 (once_back (defined_in (interface_of s)) (flat_map defined_in (map interface_of ss)) split))
    (λ n h k. let other = named key part ss n k in
    let two = both s other.summary n all.0 (has_each P ss other.summary all.1 other.stands) h other.name in
    across (defined_in (interface_of s)) (flat_map defined_in (map interface_of ss)) split two.0 s.module other.summary.module two.1 two.2
    (has_flat defined_in (interface_of other.summary) (two.0, other.summary.module) (map interface_of ss) (has_map interface_of other.summary ss other.stands) two.3)))

two_functions : (s t : Summary) (n : List ℕ) → IsSummary s → IsSummary t → Has n (map (λ h. h.0) (module_homes s)) → Has n (map (λ h. h.0) (module_homes t)) → (m : List ℕ) × IsOrdinary m × Has (m, s.module) (defined_in (interface_of s)) × Has (m, t.module) (defined_in (interface_of t))
two_functions s t n ls lt h k =
    let hs = subst (λ (ns : List (List ℕ)). Has n ns) (names_in s.functions s.uses) h in
    let ht = subst (λ (ns : List (List ℕ)). Has n ns) (names_in t.functions t.uses) k in
    elim (ordinary_or_not n (bytes_eq n start_name) refl) [
      | inl e ↦ (
        main_name,
        main_ordinary,
        function_defined s main_name (main_beside s ls (subst (λ m. Has m (map (λ f. f.0) s.functions)) e hs)),
        function_defined t main_name (main_beside t lt (subst (λ m. Has m (map (λ f. f.0) t.functions)) e ht)),
      )
      | inr ordinary ↦ (n, ordinary, function_defined s n hs, function_defined t n ht)
    ]

library_rises : IsRising library_functions
library_rises = (tt, (refl, (refl, tt)))

library_ordinary : (n : List ℕ) → Has n library_functions → IsOrdinary n
library_ordinary n (inl e) = subst IsOrdinary e (differs _ start_name refl)
library_ordinary n (inr (inl e)) = subst IsOrdinary e (differs _ start_name refl)
library_ordinary n (inr (inr (inl e))) = subst IsOrdinary e (differs _ start_name refl)
library_ordinary n (inr (inr (inr h))) = absurd h

library_defined : (n : List ℕ) → Has n library_functions → Has (n, library_name) (defined_in library)
library_defined n h = has_left (n, library_name) (map (λ name. (name, library_name)) library_functions) [] (has_map (λ name. (name, library_name)) n library_functions h)

pub homes_apart : (ss : List Summary) → All IsSummary ss → AreLinked ss → IsDistinct bytes_eq (map (λ h. h.0) (all_homes ss))
homes_apart ss lawful linked =
    let all = recursion_from_All IsSummary ss lawful in
    let clear = all_once ss linked in
    let modules = once_back (defined_in library) (flat_map defined_in (map interface_of ss)) clear in
    let rest = parts_apart (λ h. h.0) module_homes IsSummary (λ s ls. subst Apart (sym (names_in s.functions s.uses)) (rising_apart (map (λ f. f.0) s.functions) ls.functions)) two_functions ss all modules in
    distinct (map (λ h. h.0) (all_homes ss)) (subst Apart (sym (map_append (λ h. h.0) (homes_in library_declarations []) (flat_map module_homes ss)))
    (apart_append library_functions (map (λ h. h.0) (flat_map module_homes ss)) (rising_apart library_functions library_rises) rest
    (λ n h k. let other = named (λ h. h.0) module_homes ss n k in
    let t = other.summary in
    let hk = subst (λ (ns : List (List ℕ)). Has n ns) (names_in t.functions t.uses) other.name in
    across (defined_in library) (flat_map defined_in (map interface_of ss)) clear n library_name t.module (library_ordinary n h) (library_defined n h)
    (has_flat defined_in (interface_of t) (n, t.module) (map interface_of ss) (has_map interface_of t ss other.stands) (function_defined t n hk)))))

-- ---- names of globals

kind_name : (barred : Bool) (name : List ℕ) (kind : Option Kind) (v : List ℕ × Kind) → with_kind barred name kind ≡ Some v → name ≡ v.0
kind_name barred name None v e = absurd cc
kind_name true name (Some k) v e = absurd cc
kind_name false name (Some k) v e = let same : (name, k) ≡ v = cc in ap (λ (p : List ℕ × Kind). p.0) same

eligible_named : (taken escaped : List (List ℕ)) (gs : List (List ℕ × List ℕ × Option Kind × Bool)) (n : List ℕ) → Has n (map (λ v. v.0) (eligible_in taken escaped gs)) → Has n (map (λ g. g.0) gs)
eligible_named taken escaped gs n h =
    let p = has_map_back (λ v. v.0) n (eligible_in taken escaped gs) h in
    let q = has_filtered_back (eligible_one taken escaped) gs p.0 p.1 in
    let name : q.0.0 ≡ p.0.0 = kind_name _ q.0.0 q.0.2 p.0 q.2 in
    subst (λ m. Has m (map (λ g. g.0) gs)) (name ∙ p.2) (has_map (λ g. g.0) q.0 gs q.1)

cons_names : (o : Option (List ℕ × Kind)) (vs : List (List ℕ × Kind)) (n : List ℕ) → ((v : List ℕ × Kind) → o ≡ Some v → n ≡ v.0) → (Has n (map (λ v. v.0) vs) → ⊥) → Apart (map (λ v. v.0) vs) → Apart (map (λ v. v.0) (cons_option o vs))
cons_names None vs n same lacks all = all
cons_names (Some v) vs n same lacks all = (λ h. lacks (subst (λ m. Has m (map (λ w. w.0) vs)) (sym (same v refl)) h), all)

eligible_apart : (taken escaped : List (List ℕ)) (gs : List (List ℕ × List ℕ × Option Kind × Bool)) → Apart (map (λ g. g.0) gs) → Apart (map (λ v. v.0) (eligible_in taken escaped gs))
eligible_apart taken escaped [] all = tt
eligible_apart taken escaped (g ∷ gs) all =
    cons_names (eligible_one taken escaped g) (eligible_in taken escaped gs) g.0 (λ v e. kind_name _ g.0 g.2 v e) (λ h. all.0 (eligible_named taken escaped gs g.0 h)) (eligible_apart taken escaped gs all.1)

global_ordinary : (s : Summary) (n : List ℕ) → IsSummary s → Has n (map (λ g. g.0) s.globals) → IsOrdinary n
global_ordinary s n lawful h e = lawful.start.no_global (contains_by start_name (map (λ g. g.0) s.globals) (subst (λ m. Has m (map (λ g. g.0) s.globals)) e h))

pub globals_apart : (taken escaped : List (List ℕ)) (ss : List Summary) → All IsSummary ss → AreLinked ss → IsDistinct bytes_eq (map (λ v. v.0) (all_eligible taken escaped ss))
globals_apart taken escaped ss lawful linked =
    let all = recursion_from_All IsSummary ss lawful in
    let modules = once_back (defined_in library) (flat_map defined_in (map interface_of ss)) (all_once ss linked) in
    distinct (map (λ v. v.0) (all_eligible taken escaped ss))
    (parts_apart (λ v. v.0) (λ s. eligible_in taken escaped s.globals) IsSummary
    (λ s ls. eligible_apart taken escaped s.globals (rising_apart (map (λ g. g.0) s.globals) ls.globals))
    (λ s t n ls lt h k. (
      n,
      global_ordinary s n ls (eligible_named taken escaped s.globals n h),
      global_defined s n (eligible_named taken escaped s.globals n h),
      global_defined t n (eligible_named taken escaped t.globals n k),
    ))
    ss all modules)
