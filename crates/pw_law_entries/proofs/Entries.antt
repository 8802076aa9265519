-- The entries of a linked program: where the functions begin that its modules define, but `$start`.
use Rattle.std.proofs.Common.{◌≡◌, ◌≢◌, inl, inr, ℕ, zero, suc, ◌<◌, ◌==◌, not, ◌||◌, Bool, true, false, cond, Option, Some, None, List, [], ◌∷◌, ◌++◌, map, length, get_or, take, refl, sym, ap, subst, ◌∙◌, arith}
use Rattle.std.specs.Prelude.{Contains, filter, find, drop, unwrap_or}
use Rattle.std.specs.List.{AllByRecursion, list_any}
use Rattle.std.specs.Map.{lookup}
use Rattle.std.specs.Str.{bytes_eq}
use Rattle.std.proofs.Math.Seq.{take-append_seam}
use Rattle.std.proofs.lemmas.Bool.{eqb-true, eq-eqb}
use Rattle.std.proofs.lemmas.List.{length-map, take-map}
use Rattle.std.proofs.lemmas.List.Concat.{length-flat_map}
use Rattle.std.proofs.lemmas.List.Elements.{Contains-append_left, Contains-append_right, Contains-append_cases}
use Rattle.std.proofs.lemmas.Slice.Eq.{bytes_eq-Decides}
use Rattle.pw_value.specs.ProgramNames.{library_functions, may_stand, start_name}
use Rattle.pw_value.specs.declared.program_names.StartName.TheVariants.{Refused}
use Rattle.pw_flow.specs.declared.flow.FlowFn.{FlowFn}
use Rattle.pw_flow.specs.ValidFlow.{AreDistinct}
use Rattle.pw_db.specs.declared.database.Directives.{Directives}
use Rattle.pw_alloc.specs.declared.located.Located.{Located}
use Rattle.pw_object.specs.declared.object.Object.{Object}
use Rattle.pw_milli.specs.Library.{routines}
use Rattle.pw_image.specs.declared.image.Function.{Function}
use Rattle.pw_link.specs.Linking.{linked}
use Rattle.pw_run_languages.specs.Programs.{Program, functions_of, globals_of}
use Rattle.pw_run_languages.specs.Addresses.{AreLawful}
use Rattle.pw_run_languages.specs.Direction.{directed_by, directed_functions}
use Rattle.pw_run_languages.specs.Serving.{AllServe}
use Rattle.pw_run_languages.specs.Traces.{is_of_source}
use Rattle.pw_run_languages.specs.LinkingLaws.{compiled, AreObjectsOf, AreNamesApart, address_of, map_of}
use Rattle.pw_law_code.specs.LinkedAddresses.{linked_addresses}
use Rattle.pw_where.specs.Calls.{count_of, of_modules, is_called, entries_of}
use Rattle.pw_where.specs.Looks.{entries_in}
use Rattle.pw_law_where.specs.Counting.{AreEntriesOf, is_source}

-- ---- names

same_name : (a b : List ℕ) → a ≡ b → bytes_eq a b ≡ true
same_name a b e = (bytes_eq-Decides a b).1 e

other_name : (a b : List ℕ) → a ≢ b → bytes_eq a b ≡ false
other_name a b other = by (bytes_eq a b) refl
  where
    by : (t : Bool) → bytes_eq a b ≡ t → bytes_eq a b ≡ false
    by true e = absurd (other ((bytes_eq-Decides a b).0 e))
    by false e = e

all_at : (P : List ℕ → Type 0) (names : List (List ℕ)) (name : List ℕ) → AllByRecursion P names → Contains names name → P name
all_at P [] name all c = absurd (omega (arith, c.1))
all_at P (n ∷ names) name all c = by c.0 c.1 c.2 (all_at P names name all.1)
  where
    by : (k : ℕ) → k < length (n ∷ names) → get_or (n ∷ names) k name ≡ name → (Contains names name → P name) → P name
    by zero lt e later = subst P e all.0
    by (suc k) lt e later = later (k, omega (arith, lt), e)

-- of different names none stands in both parts, and those of each part are different
both_parts : (xs ys : List (List ℕ)) (name : List ℕ) → AreDistinct (xs ++ ys) → Contains xs name → Contains ys name → ⊥
both_parts [] ys name d one two = absurd (omega (arith, one.1))
both_parts (x ∷ xs) ys name d one two = by one.0 one.1 one.2 (λ there. both_parts xs ys name d.1 there two)
  where
    by : (k : ℕ) → k < length (x ∷ xs) → get_or (x ∷ xs) k name ≡ name → (Contains xs name → ⊥) → ⊥
    by zero lt e later = all_at (λ (other : List ℕ). other ≢ x) (xs ++ ys) name d.0 (Contains-append_right xs ys name two) (sym e)
    by (suc k) lt e later = later (k, omega (arith, lt), e)

all_first : (P : List ℕ → Type 0) (xs ys : List (List ℕ)) → AllByRecursion P (xs ++ ys) → AllByRecursion P xs
all_first P [] ys all = tt
all_first P (x ∷ xs) ys all = (all.0, all_first P xs ys all.1)

first_distinct : (xs ys : List (List ℕ)) → AreDistinct (xs ++ ys) → AreDistinct xs
first_distinct [] ys d = tt
first_distinct (x ∷ xs) ys d = (all_first (λ other. other ≢ x) xs ys d.0, first_distinct xs ys d.1)

behind_distinct : (xs ys : List (List ℕ)) → AreDistinct (xs ++ ys) → AreDistinct ys
behind_distinct [] ys d = d
behind_distinct (x ∷ xs) ys d = behind_distinct xs ys d.1

-- ---- names of the source

-- a name that is the library's is one that the test finds
in_library : (name : List ℕ) (names : List (List ℕ)) → Contains names name → list_any (bytes_eq name) names ≡ true
in_library name [] c = absurd (omega (arith, c.1))
in_library name (n ∷ names) c = by c.0 c.1 c.2 (in_library name names)
  where
    or_true : (b : Bool) → (b || true) ≡ true
    or_true true = refl
    or_true false = refl

    by : (k : ℕ) → k < length (n ∷ names) → get_or (n ∷ names) k name ≡ name → (Contains names name → list_any (bytes_eq name) names ≡ true) → list_any (bytes_eq name) (n ∷ names) ≡ true
    by zero lt e later = ap (λ (b : Bool). b || list_any (bytes_eq name) names) (same_name name n (sym e))
    by (suc k) lt e later = ap (λ (b : Bool). bytes_eq name n || b) (later (k, omega (arith, lt), e)) ∙ or_true (bytes_eq name n)

-- and such a name alone
from_library : (name : List ℕ) (names : List (List ℕ)) → list_any (bytes_eq name) names ≡ true → Contains names name
from_library name [] e = absurd cc
from_library name (n ∷ names) e = by (bytes_eq name n) refl e (from_library name names)
  where
    by : (b : Bool) → bytes_eq name n ≡ b → (b || list_any (bytes_eq name) names) ≡ true → (list_any (bytes_eq name) names ≡ true → Contains names name) → Contains (n ∷ names) name
    by true is e later = (0, omega arith, sym ((bytes_eq-Decides name n).0 is))
    by false is e later = let c = later e in (suc c.0, omega (arith, c.1), c.2)

-- a function of the source is neither `$start` nor the library's
record IsOfSource (name : List ℕ) : Type 0 where
  starts : may_stand Refused name ≡ true
  other : Contains library_functions name → ⊥

of_source : (name : List ℕ) → is_of_source name ≡ true → IsOfSource name
of_source name e = by (bytes_eq name start_name) (list_any (bytes_eq name) library_functions) refl refl e
  where
    by : (b c : Bool) → bytes_eq name start_name ≡ b → list_any (bytes_eq name) library_functions ≡ c → not (b || c) ≡ true → IsOfSource name
    by true c is there e = absurd cc
    by false true is there e = absurd cc
    by false false is there e = record {
      starts = ap not is;
      other = λ c. let found : true ≡ false = sym (in_library name library_functions c) ∙ there in absurd cc;
    }

source_of : (name : List ℕ) → IsOfSource name → is_of_source name ≡ true
source_of name h = by (bytes_eq name start_name) (list_any (bytes_eq name) library_functions) refl refl
  where
    by : (b c : Bool) → bytes_eq name start_name ≡ b → list_any (bytes_eq name) library_functions ≡ c → not (b || c) ≡ true
    by true c is there = let refused : false ≡ true = ap not (sym is) ∙ h.starts in absurd cc
    by false true is there = absurd (h.other (from_library name library_functions there))
    by false false is there = refl

-- ---- entries by names

-- a name whose function begins at the address
record BeginsAt (named : List ℕ → ℕ) (names : List (List ℕ)) (a : ℕ) : Type 0 where
  name : List ℕ
  there : Contains names name
  starts : may_stand Refused name ≡ true
  is : named name ≡ a

abbrev named_entries : (List ℕ → ℕ) → List (List ℕ) → List ℕ
named_entries named names = map named (filter (may_stand Refused) names)

abbrev is_among : ℕ → List ℕ → Bool
is_among a entries = list_any (λ b. b == a) entries

entry_begins : (named : List ℕ → ℕ) (names : List (List ℕ)) (a : ℕ) → is_among a (named_entries named names) ≡ true → BeginsAt named names a
entry_begins named [] a e = absurd cc
entry_begins named (n ∷ names) a e = by (may_stand Refused n) refl e (entry_begins named names a)
  where
    rest : List (List ℕ)
    rest = filter (may_stand Refused) names

    later : BeginsAt named names a → BeginsAt named (n ∷ names) a
    later h = record { name = h.name; there = (suc h.there.0, omega (arith, h.there.1), h.there.2); starts = h.starts; is = h.is }

    here : may_stand Refused n ≡ true → (c : Bool) → (named n == a) ≡ c → (c || is_among a (map named rest)) ≡ true → (is_among a (map named rest) ≡ true → BeginsAt named names a) → BeginsAt named (n ∷ names) a
    here starts true at e others = record { name = n; there = (0, omega arith, refl); starts = starts; is = eqb-true (named n) a at }
    here starts false at e others = later (others e)

    by : (b : Bool) → may_stand Refused n ≡ b → is_among a (map named (cond b (n ∷ rest) rest)) ≡ true → (is_among a (map named rest) ≡ true → BeginsAt named names a) → BeginsAt named (n ∷ names) a
    by true starts e others = here starts (named n == a) refl e others
    by false starts e others = later (others e)

begins_entry : (named : List ℕ → ℕ) (names : List (List ℕ)) (a : ℕ) (name : List ℕ) → Contains names name → may_stand Refused name ≡ true → named name ≡ a → is_among a (named_entries named names) ≡ true
begins_entry named [] a name c starts is = absurd (omega (arith, c.1))
begins_entry named (n ∷ names) a name c starts is = by c.0 c.1 c.2 (λ there. begins_entry named names a name there starts is)
  where
    rest : List (List ℕ)
    rest = filter (may_stand Refused) names

    or_true : (b c : Bool) → c ≡ true → (b || c) ≡ true
    or_true true c e = refl
    or_true false c e = e

    first : (b : Bool) → b ≡ true → (named n == a) ≡ true → is_among a (map named (cond b (n ∷ rest) rest)) ≡ true
    first true e at = ap (λ (c : Bool). c || is_among a (map named rest)) at
    first false e at = absurd cc

    more : (b : Bool) → is_among a (map named rest) ≡ true → is_among a (map named (cond b (n ∷ rest) rest)) ≡ true
    more true e = or_true (named n == a) (is_among a (map named rest)) e
    more false e = e

    by : (k : ℕ) → k < length (n ∷ names) → get_or (n ∷ names) k name ≡ name → (Contains names name → is_among a (map named rest) ≡ true) → is_among a (map named (cond (may_stand Refused n) (n ∷ rest) rest)) ≡ true
    by zero lt e later = first (may_stand Refused n) (ap (may_stand Refused) e ∙ starts) (eq-eqb (named n) a (ap named e ∙ is))
    by (suc k) lt e later = more (may_stand Refused n) (later (k, omega (arith, lt), e))

-- ---- the first function at an address

found_there : (named : List ℕ → ℕ) (a : ℕ) (names : List (List ℕ)) (name : List ℕ) → find (λ f. named f == a) names ≡ Some name → Contains names name × (named name ≡ a)
found_there named a [] name e = absurd cc
found_there named a (n ∷ names) name e = by (named n == a) refl e (found_there named a names name)
  where
    one : (x y : List ℕ) → ◌≡◌ {A = Option (List ℕ)} (Some x) (Some y) → x ≡ y
    one x y e = cc

    by : (b : Bool) → (named n == a) ≡ b → cond b (Some n) (find (λ f. named f == a) names) ≡ Some name → (find (λ f. named f == a) names ≡ Some name → Contains names name × (named name ≡ a)) → Contains (n ∷ names) name × (named name ≡ a)
    by true at e later = let same = one n name e in ((0, omega arith, same), ap named (sym same) ∙ eqb-true (named n) a at)
    by false at e later = let h = later e in ((suc h.0.0, omega (arith, h.0.1), h.0.2), h.1)

none_there : (named : List ℕ → ℕ) (a : ℕ) (names : List (List ℕ)) (name : List ℕ) → find (λ f. named f == a) names ≡ None → Contains names name → named name ≡ a → ⊥
none_there named a [] name e c is = absurd (omega (arith, c.1))
none_there named a (n ∷ names) name e c is = by (named n == a) refl e c.0 c.1 c.2 (λ none there. none_there named a names name none there is)
  where
    by : (b : Bool) → (named n == a) ≡ b → cond b (Some n) (find (λ f. named f == a) names) ≡ None → (k : ℕ) → k < length (n ∷ names) → get_or (n ∷ names) k name ≡ name → (find (λ f. named f == a) names ≡ None → Contains names name → ⊥) → ⊥
    by true at e k lt same later = absurd cc
    by false at e zero lt same later = let here : true ≡ false = sym (eq-eqb (named n) a (ap named same ∙ is)) ∙ at in absurd cc
    by false at e (suc k) lt same later = later e (k, omega (arith, lt), same)

-- names whose functions have addresses of their own, none of them the library's
record AreApart (named : List ℕ → ℕ) (names : List (List ℕ)) : Type 0 where
  own : (f g : List ℕ) → Contains (library_functions ++ names) f → Contains (library_functions ++ names) g → named f ≡ named g → f ≡ g
  others : (f : List ℕ) → Contains names f → Contains library_functions f → ⊥

entry_is_source : (named : List ℕ → ℕ) (names : List (List ℕ)) (a : ℕ) → AreApart named names → is_among a (named_entries named names) ≡ is_source (find (λ f. named f == a) (library_functions ++ names))
entry_is_source named names a apart = by (find (λ f. named f == a) (library_functions ++ names)) refl
  where
    all : List (List ℕ)
    all = library_functions ++ names

    none : find (λ f. named f == a) all ≡ None → (b : Bool) → is_among a (named_entries named names) ≡ b → b ≡ false
    none e true is = let h = entry_begins named names a is in absurd (none_there named a all h.name e (Contains-append_right library_functions names h.name h.there) h.is)
    none e false is = refl

    source : (f : List ℕ) → Contains all f → named f ≡ a → IsOfSource f → is_among a (named_entries named names) ≡ true
    source f c is h = elim (Contains-append_cases library_functions names f c) [
      | inl library ↦ absurd (h.other library)
      | inr own ↦ begins_entry named names a f own h.starts is
    ]

    back : (f : List ℕ) → Contains all f → named f ≡ a → is_among a (named_entries named names) ≡ true → IsOfSource f
    back f c is e =
        let h = entry_begins named names a e in
        let same : h.name ≡ f = apart.own h.name f (Contains-append_right library_functions names h.name h.there) c (h.is ∙ sym is) in
        subst IsOfSource same (record { starts = h.starts; other = apart.others h.name h.there })

    either : (f : List ℕ) → Contains all f → named f ≡ a → (b c : Bool) → is_among a (named_entries named names) ≡ b → is_of_source f ≡ c → b ≡ c
    either f there is true true one two = refl
    either f there is false false one two = refl
    either f there is true false one two = let e : true ≡ false = sym (source_of f (back f there is one)) ∙ two in absurd cc
    either f there is false true one two = let e : true ≡ false = sym (source f there is (of_source f two)) ∙ one in absurd cc

    by : (o : Option (List ℕ)) → find (λ f. named f == a) all ≡ o → is_among a (named_entries named names) ≡ is_source o
    by None e = none e (is_among a (named_entries named names)) refl
    by (Some f) e = let h = found_there named a all f e in either f h.0 h.1 (is_among a (named_entries named names)) (is_of_source f) refl refl

-- ---- the functions of a map

-- the first of a map's functions are found by their names, if these are different
addresses_found : (n : ℕ) (fs : List Function) (gs : List (List ℕ × ℕ)) → AreDistinct (map (λ f. f.name) (take n fs))
    → AllByRecursion (λ f. f.address ≡ unwrap_or (lookup (bytes_eq f.name) (map (λ f. (f.name, f.address)) fs ++ gs)) 0) (take n fs)
addresses_found zero fs gs d = tt
addresses_found (suc n) [] gs d = tt
addresses_found (suc n) (f ∷ fs) gs d =
    (sym (ap (λ (b : Bool). unwrap_or (cond b (Some f.address) (lookup (bytes_eq f.name) rest)) 0) (same_name f.name f.name refl)), past (take n fs) d.0 (addresses_found n fs gs d.1))
  where
    rest : List (List ℕ × ℕ)
    rest = map (λ f. (f.name, f.address)) fs ++ gs

    past : (others : List Function) → AllByRecursion (λ other. other ≢ f.name) (map (λ f. f.name) others) → AllByRecursion (λ g. g.address ≡ unwrap_or (lookup (bytes_eq g.name) rest) 0) others
        → AllByRecursion (λ g. g.address ≡ unwrap_or (lookup (bytes_eq g.name) ((f.name, f.address) ∷ rest)) 0) others
    past [] apart h = tt
    past (g ∷ others) apart h =
        (h.0 ∙ sym (ap (λ (b : Bool). unwrap_or (cond b (Some f.address) (lookup (bytes_eq g.name) rest)) 0) (other_name g.name f.name apart.0)), past others apart.1 h.1)

entries_by_names : (named : List ℕ → ℕ) (fs : List Function) → AllByRecursion (λ f. f.address ≡ named f.name) fs → entries_of fs ≡ named_entries named (map (λ f. f.name) fs)
entries_by_names named [] h = refl
entries_by_names named (f ∷ fs) h = by (is_called f) (entries_by_names named fs h.1)
  where
    by : (b : Bool) → entries_of fs ≡ named_entries named (map (λ f. f.name) fs)
        → map (λ f. f.address) (cond b (f ∷ filter is_called fs) (filter is_called fs)) ≡ map named (cond b (f.name ∷ filter (may_stand Refused) (map (λ f. f.name) fs)) (filter (may_stand Refused) (map (λ f. f.name) fs)))
    by true e = λ i. h.0 i ∷ e i
    by false e = e

-- ---- how many the modules have

served_length : (d : List (List ℕ × Directives)) (fs : List FlowFn) (ls : List Located) → AllServe (map (directed_by d) fs) ls → length ls ≡ length fs
served_length d [] [] h = refl
served_length d [] (l ∷ ls) h = absurd h
served_length d (f ∷ fs) [] h = absurd h
served_length d (f ∷ fs) (l ∷ ls) h = ap suc (served_length d fs ls h.1)

counted : (p : Program) (d : List (List ℕ × Directives)) (functions : List Located) (objects : List Object) → AllServe (directed_functions p d) functions → AreObjectsOf p functions objects
    → count_of objects ≡ length (map (λ f. f.name) (functions_of p))
counted p d functions objects serve of =
    sym (length-flat_map (λ (o : Object). o.functions) objects)
    ∙ ap length of.code
    ∙ length-map functions compiled
    ∙ served_length d (functions_of p) functions serve
    ∙ sym (length-map (functions_of p) (λ f. f.name))

-- ---- all of it

-- the library's functions are routines
is_routine : (name : List ℕ) → Contains library_functions name → Contains (map (λ r. r.0) routines) name
is_routine name c = Contains-append_left library_functions (map (λ r. r.0) (drop 3 routines)) name c

pub entries_are : (p : Program) (d : List (List ℕ × Directives)) (functions : List Located) (objects : List Object) → AreNamesApart p → AllServe (directed_functions p d) functions → AreObjectsOf p functions objects
    → AreLawful p (linked_addresses objects p.stack (λ f n. 0)) → map (λ f. f.name) (linked objects p.stack).functions ≡ map (λ f. f.name) (functions_of p) ++ map (λ r. r.0) routines
    → AreEntriesOf (entries_in (linked objects p.stack) objects) (map_of p functions (linked objects p.stack))
entries_are p d functions objects apart serve of lawful mapped = λ a.
    let v = linked objects p.stack in
    let n = count_of objects in
    let names = map (λ f. f.name) (functions_of p) in
    let others = map (λ r. r.0) routines in
    let own_names : map (λ f. f.name) (of_modules objects v.functions) ≡ names =
    sym (take-map (λ (f : Function). f.name) n v.functions) ∙ ap (take n) mapped
    ∙ ap (λ (m : ℕ). take m (names ++ others)) (counted p d functions objects serve of) ∙ take-append_seam names others in
    let distinct : AreDistinct names = first_distinct names (map (λ g. g.name) (globals_of p)) (behind_distinct others (names ++ map (λ g. g.name) (globals_of p)) apart) in
    let found = addresses_found n v.functions (map (λ g. (g.name, g.address)) v.globals) (subst AreDistinct (sym own_names) distinct) in
    let entries : entries_in v objects ≡ named_entries (address_of v) names =
    entries_by_names (address_of v) (of_modules objects v.functions) found ∙ ap (named_entries (address_of v)) own_names in
    let own : AreApart (address_of v) names = record {
      own = λ f g cf cg same. lawful.function_own f g cf cg same;
      others = λ f here library. both_parts others (names ++ map (λ g. g.name) (globals_of p)) f apart (is_routine f library) (Contains-append_left names (map (λ g. g.name) (globals_of p)) f here);
    } in
    ap (is_among a) entries ∙ entry_is_source (address_of v) names a own
