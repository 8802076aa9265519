-- The function that the debugger names at a call is the one that is called.
use Rattle.std.proofs.Common.{◌≡◌, ℕ, zero, suc, ◌==◌, ◌&&◌, ◌||◌, Bool, true, false, cond, Option, Some, List, [], ◌∷◌, ◌++◌, map, length, take, refl, sym, ap, subst, ◌∙◌, arith, inl, inr}
use Rattle.std.specs.Prelude.{Contains, filter, find, not}
use Rattle.std.specs.Option.{option_map_or}
use Rattle.std.specs.List.{AllByRecursion, list_any}
use Rattle.std.proofs.Math.Seq.{take-append_seam}
use Rattle.std.proofs.lemmas.Bool.{eqb-true}
use Rattle.std.proofs.lemmas.List.{length-map, take-map}
use Rattle.std.proofs.lemmas.List.Concat.{length-flat_map}
use Rattle.std.proofs.lemmas.List.Elements.{Contains-append_right}
use Rattle.pw_value.specs.ProgramNames.{library_functions}
use Rattle.pw_files.proofs.Standing.{Has, contains_by, has_each, has_map}
use Rattle.pw_alloc.specs.declared.located.Located.{Located}
use Rattle.pw_object.specs.declared.object.Object.{Object}
use Rattle.pw_link.specs.FromMilli.Library.{routines}
use Rattle.pw_link.specs.Linking.{linked}
use Rattle.pw_image.specs.declared.image.Function.{Function}
use Rattle.pw_machine.specs.Core.{Core}
use Rattle.pw_run_languages.specs.Programs.{Program, functions_of, names_of}
use Rattle.pw_run_languages.specs.Addresses.{AreLawful}
use Rattle.pw_run_languages.specs.LinkingLaws.{AreObjectsOf, address_of, compiled}
use Rattle.pw_law_code.specs.LinkedAddresses.{linked_addresses}
use Rattle.pw_where.specs.Calls.{count_of, entries_of, is_at, is_called, of_modules}
use Rattle.pw_where.specs.Looks.{called_at, name_at}

-- ---- the function of a map

-- where a call is counted the machine stands at an entry
pub entry_there : (entries : List ℕ) (core : Core) → is_at entries core ≡ true → list_any (λ a. a == core.front) entries ≡ true
entry_there entries core e = by core.nullify (list_any (λ a. a == core.front) entries) e
  where
    by : (b c : Bool) → (not b && c) ≡ true → c ≡ true
    by true c e = absurd cc
    by false c e = e

record IsCalledAt (fs : List Function) (a : ℕ) : Type 0 where
  function : Function
  found : called_at fs a ≡ Some function
  there : Has function fs
  address : function.address ≡ a

found_called : (fs : List Function) (a : ℕ) → list_any (λ b. b == a) (entries_of fs) ≡ true → IsCalledAt fs a
found_called [] a e = absurd cc
found_called (f ∷ fs) a e = by (is_called f) (f.address == a) refl refl e (found_called fs a)
  where
    rest : List Function
    rest = filter is_called fs

    by : (b c : Bool) → is_called f ≡ b → (f.address == a) ≡ c → list_any (λ x. x == a) (map (λ g. g.address) (cond b (f ∷ rest) rest)) ≡ true → (list_any (λ x. x == a) (entries_of fs) ≡ true → IsCalledAt fs a)
        → IsCalledAt (f ∷ fs) a
    by true true called at e more = record {
      function = f;
      found = ap (λ (t : Bool). cond (t && (f.address == a)) (Some f) (called_at fs a)) called ∙ ap (λ (t : Bool). cond t (Some f) (called_at fs a)) at;
      there = inl refl;
      address = eqb-true f.address a at;
    }
    by true false called at e more =
        let k = more (sym (ap (λ (t : Bool). t || list_any (λ x. x == a) (map (λ (g : Function). g.address) rest)) at) ∙ e) in
        record {
          function = k.function;
          found = ap (λ (t : Bool). cond (t && (f.address == a)) (Some f) (called_at fs a)) called ∙ (ap (λ (t : Bool). cond t (Some f) (called_at fs a)) at ∙ k.found);
          there = inr k.there;
          address = k.address;
        }
    by false c called at e more =
        let k = more e in
        record {
          function = k.function;
          found = ap (λ (t : Bool). cond (t && (f.address == a)) (Some f) (called_at fs a)) called ∙ k.found;
          there = inr k.there;
          address = k.address;
        }

all_taken : (P : Function → Type 0) (n : ℕ) (fs : List Function) → AllByRecursion P fs → AllByRecursion P (take n fs)
all_taken P zero fs all = tt
all_taken P (suc n) [] all = tt
all_taken P (suc n) (f ∷ fs) all = (all.0, all_taken P n fs all.1)

-- ---- the function of a name

named_there : (named : List ℕ → ℕ) (a : ℕ) (names : List (List ℕ)) (name : List ℕ) → find (λ f. named f == a) names ≡ Some name → Contains names name × (named name ≡ a)
named_there named a [] name e = absurd cc
named_there named a (n ∷ names) name e = by (named n == a) refl e (named_there named a names name)
  where
    one : (x y : List ℕ) → ◌≡◌ {A = Option (List ℕ)} (Some x) (Some y) → x ≡ y
    one x y e = cc

    by : (b : Bool) → (named n == a) ≡ b → cond b (Some n) (find (λ f. named f == a) names) ≡ Some name → (find (λ f. named f == a) names ≡ Some name → Contains names name × (named name ≡ a)) → Contains (n ∷ names) name × (named name ≡ a)
    by true at e later = let same = one n name e in ((0, omega arith, same), ap named (sym same) ∙ eqb-true (named n) a at)
    by false at e later = let h = later e in ((suc h.0.0, omega (arith, h.0.1), h.0.2), h.1)

-- ---- together

-- as many functions as the modules have
counted : (q : Program) (functions : List Located) (objects : List Object) → AreObjectsOf q functions objects → map (λ l. l.body.name) functions ≡ map (λ f. f.name) (functions_of q)
    → count_of objects ≡ length (map (λ f. f.name) (functions_of q))
counted q functions objects made named =
    sym (length-flat_map (λ (o : Object). o.functions) objects)
    ∙ (ap length made.code
    ∙ (length-map functions compiled
    ∙ (sym (length-map functions (λ (l : Located). l.body.name))
    ∙ ap length named)))

-- where a call is counted, the function that the debugger names is the one that begins there
pub name_is : (q : Program) (functions : List Located) (objects : List Object) (a : ℕ) (f : List ℕ) → AreObjectsOf q functions objects → map (λ l. l.body.name) functions ≡ map (λ g. g.name) (functions_of q)
    → AreLawful q (linked_addresses objects q.stack (λ g n. 0)) → map (λ g. g.name) (linked objects q.stack).functions ≡ map (λ g. g.name) (functions_of q) ++ map (λ r. r.0) routines
    → AllByRecursion (λ g. address_of (linked objects q.stack) g.name ≡ g.address) (linked objects q.stack).functions
    → list_any (λ b. b == a) (entries_of (of_modules objects (linked objects q.stack).functions)) ≡ true → find (λ g. address_of (linked objects q.stack) g == a) (names_of q) ≡ Some f
    → name_at (of_modules objects (linked objects q.stack).functions) a ≡ f
name_is q functions objects a f made named lawful mapped placed entry called =
    let v = linked objects q.stack in
    let n = count_of objects in
    let own = of_modules objects v.functions in
    let names = map (λ g. g.name) (functions_of q) in
    let others = map (λ r. r.0) routines in
    let own_names : map (λ g. g.name) own ≡ names =
    sym (take-map (λ (g : Function). g.name) n v.functions) ∙ (ap (take n) mapped
    ∙ (ap (λ (m : ℕ). take m (names ++ others)) (counted q functions objects made named) ∙ take-append_seam names others)) in
    let k = found_called own a entry in
    let at : address_of v k.function.name ≡ k.function.address = has_each (λ (g : Function). address_of v g.name ≡ g.address) own k.function (all_taken (λ g. address_of v g.name ≡ g.address) n v.functions placed) k.there in
    let there : Has k.function.name names = subst (λ (ns : List (List ℕ)). Has k.function.name ns) own_names (has_map (λ (g : Function). g.name) k.function own k.there) in
    let other = named_there (address_of v) a (names_of q) f called in
    let same : f ≡ k.function.name =
    lawful.function_own f k.function.name other.0 (Contains-append_right library_functions names k.function.name (contains_by k.function.name names there)) (other.1 ∙ sym (at ∙ k.address)) in
    ap (λ (o : Option Function). option_map_or (λ (g : Function). g.name) o []) k.found ∙ sym same
