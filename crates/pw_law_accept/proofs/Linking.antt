-- What the objects of modules that link tell of the modules.
use Rattle.std.proofs.Common.{◌≡◌, ◌⊎◌, ℕ, ◌+◌, ◌<◌, ◌≤◌, Bool, true, false, ◌||◌, if◌then◌else◌, List, [], ◌∷◌, ◌++◌, map, refl, sym, ap, subst, ◌∙◌, arith, inl, inr}
use Rattle.std.specs.Prelude.{Some, None}
use Rattle.std.specs.List.{flat_map, list_any}
use Rattle.std.specs.Map.{lookup}
use Rattle.std.specs.Str.{bytes_eq}
use Rattle.std.proofs.lemmas.Bool.{cases_lt}
use Rattle.std.proofs.lemmas.List.{map-append}
use Rattle.std.proofs.lemmas.Option.{same_Some}
use Rattle.std.proofs.lemmas.List.Concat.{flat_map-cons}
use Rattle.std.proofs.lemmas.Slice.Eq.{bytes_eq-Decides}
use Rattle.pw_value.specs.ProgramNames.{main_name, main_shape, library_functions, times, IsOrdinary}
use Rattle.pw_value.specs.Shapes.{Agree}
use Rattle.pw_flow.specs.declared.flow.FlowGlobal.{FlowGlobal}
use Rattle.pw_flow.specs.declared.flow.FlowModule.{FlowModule}
use Rattle.pw_flow.specs.FlowGraph.{function_names, global_names, named_in, names_in_global}
use Rattle.pw_files.proofs.Standing.{Has, has_by, contains_by, has_left, has_right, has_split, has_map, has_map_back, has_flat, has_flat_back, stands_or_not}
use Rattle.pw_object.specs.declared.object.Object.{Object}
use Rattle.pw_object.specs.Object as object
use Rattle.pw_link_interface.specs.Interface.{interface, used_names, names_of_fixes, defines_main}
use Rattle.pw_link_rules.specs.declared.interface.Interface.{Interface}
use Rattle.pw_link_rules.specs.Linking.{library, library_declarations, names_in, defined_in, declared_in, definitions, declarations, defined_names, IsUndefined, IsDefinedTwice, IsInConflict, HasMain, Links, all_defined, defined_once, all_agree, has_main}
use Rattle.pw_link_rules.specs.Linking as linking
use Rattle.pw_law_source.specs.Accepting.{Shows, AllShow}
use Rattle.pw_law_build.proofs.Twice.{Twice, places}
use Rattle.pw_law_build.proofs.Tests.{beside_all}
use Rattle.pw_law_accept.proofs.Counts.{times_append, times_flat, twice_counted}
use Rattle.pw_law_accept.proofs.Agreeing.{agree_unless}

-- ---- the object of a module

pub object_of : (ms : List FlowModule) (os : List Object) → AllShow ms os → (m : FlowModule) → Has m ms → (o : Object) × Has o os × Shows m o
object_of [] os show m h = absurd h
object_of (n ∷ ms) [] show m h = absurd show
object_of (n ∷ ms) (o ∷ os) show m (inl e) = (o, inl refl, subst (λ (x : FlowModule). Shows x o) e show.0)
object_of (n ∷ ms) (o ∷ os) show m (inr h) = let r = object_of ms os show.1 m h in (r.0, inr r.1, r.2)

pub module_of : (ms : List FlowModule) (os : List Object) → AllShow ms os → (o : Object) → Has o os → (m : FlowModule) × Has m ms × Shows m o
module_of [] [] show o h = absurd h
module_of [] (q ∷ os) show o h = absurd show
module_of (n ∷ ms) [] show o h = absurd h
module_of (n ∷ ms) (q ∷ os) show o (inl e) = (n, inl refl, subst (λ (x : Object). Shows n x) e show.0)
module_of (n ∷ ms) (q ∷ os) show o (inr h) = let r = module_of ms os show.1 o h in (r.0, inr r.1, r.2)

-- ---- names that are defined

abbrev pub all_functions : List FlowModule → List (List ℕ)
all_functions ms = flat_map function_names ms

abbrev pub all_globals : List FlowModule → List (List ℕ)
all_globals ms = flat_map global_names ms

names_shown : (m : FlowModule) (o : Object) → Shows m o → names_in (interface o) ≡ function_names m ++ global_names m
names_shown m o s =
    ap (λ (fs : List (List ℕ)). fs ++ object.global_names o) s.functions
    ∙ ap (λ (gs : List FlowGlobal). function_names m ++ map (λ (g : FlowGlobal). g.name) gs) s.globals

all_shown : (ms : List FlowModule) (os : List Object) → AllShow ms os → flat_map names_in (map interface os) ≡ flat_map (λ (m : FlowModule). function_names m ++ global_names m) ms
all_shown [] [] show = refl
all_shown [] (o ∷ os) show = absurd show
all_shown (m ∷ ms) [] show = absurd show
all_shown (m ∷ ms) (o ∷ os) show =
    flat_map-cons names_in (interface o) (map interface os)
    ∙ ap (λ (ns : List (List ℕ)). ns ++ flat_map names_in (map interface os)) (names_shown m o show.0)
    ∙ ap (λ (ns : List (List ℕ)). (function_names m ++ global_names m) ++ ns) (all_shown ms os show.1)
    ∙ sym (flat_map-cons (λ (m : FlowModule). function_names m ++ global_names m) m ms)

abbrev first : List ℕ × List ℕ → List ℕ
first d = d.0

firsts : (home : List ℕ) (names : List (List ℕ)) → map first (map (λ (name : List ℕ). (name, home)) names) ≡ names
firsts home [] = refl
firsts home (n ∷ ns) = ap (λ (xs : List (List ℕ)). n ∷ xs) (firsts home ns)

defined_firsts : (i : Interface) → map first (defined_in i) ≡ names_in i
defined_firsts i = ap (map first) (beside_all i) ∙ firsts i.module (names_in i)

flat_firsts : (is : List Interface) → map first (flat_map defined_in is) ≡ flat_map names_in is
flat_firsts [] = refl
flat_firsts (i ∷ is) =
    ap (map first) (flat_map-cons defined_in i is)
    ∙ map-append first (defined_in i) (flat_map defined_in is)
    ∙ ap (λ (ns : List (List ℕ)). ns ++ map first (flat_map defined_in is)) (defined_firsts i)
    ∙ ap (λ (ns : List (List ℕ)). names_in i ++ ns) (flat_firsts is)
    ∙ sym (flat_map-cons names_in i is)

all_firsts : (is : List Interface) → map first (definitions is) ≡ defined_names is
all_firsts is =
    map-append first (defined_in library) (flat_map defined_in is)
    ∙ ap (λ (ns : List (List ℕ)). ns ++ map first (flat_map defined_in is)) (defined_firsts library)
    ∙ ap (λ (ns : List (List ℕ)). names_in library ++ ns) (flat_firsts is)

twice_back : {X Y : Type 0} (f : X → Y) (a b : Y) (xs : List X) → Twice a b (map f xs) → (x : X) × (y : X) × Twice x y xs × (f x ≡ a) × (f y ≡ b)
twice_back f a b [] h = absurd h
twice_back f a b (z ∷ zs) (inl h) = let k = has_map_back f b zs h.1 in (z, k.0, inl (refl, k.1), h.0, k.2)
twice_back f a b (z ∷ zs) (inr (inl h)) = let k = has_map_back f a zs h.1 in (k.0, z, inr (inl (refl, k.1)), k.2, h.0)
twice_back f a b (z ∷ zs) (inr (inr h)) = let r = twice_back f a b zs h in (r.0, r.1, inr (inr r.2), r.3, r.4)

at_name : (name : List ℕ) (d : List ℕ × List ℕ) → d.0 ≡ name → d ≡ (name, d.1)
at_name name d e = ap (λ (n : List ℕ). (n, d.1)) e

never_twice : (is : List Interface) → Links is → (name : List ℕ) → IsOrdinary name → Twice name name (defined_names is) → ⊥
never_twice is links name ordinary h =
    let t = twice_back first name name (definitions is) (subst (λ (ns : List (List ℕ)). Twice name name ns) (sym (all_firsts is)) h) in
    let p = places t.0 t.1 (definitions is) t.2 in
    links defined_once name t.0.1 t.1.1 (record {
      ordinary = ordinary;
      place = p.one;
      again = p.other;
      apart = p.apart;
      at_place = p.at_one ∙ ap Some (at_name name t.0 t.3);
      at_again = p.at_other ∙ ap Some (at_name name t.1 t.4);
    })

once_by : (is : List Interface) → Links is → (name : List ℕ) → IsOrdinary name → (1 < times name (defined_names is)) ⊎ (times name (defined_names is) ≤ 1) → times name (defined_names is) ≤ 1
once_by is links name ordinary (inl h) = absurd (never_twice is links name ordinary (twice_counted name (defined_names is) (omega (arith, h))))
once_by is links name ordinary (inr h) = h

once_defined : (is : List Interface) → Links is → (name : List ℕ) → IsOrdinary name → times name (defined_names is) ≤ 1
once_defined is links name ordinary = once_by is links name ordinary (cases_lt 1 (times name (defined_names is)))

module _ (ms : List FlowModule) (os : List Object) (show : AllShow ms os) (links : Links (map interface os)) where
  names_split : (name : List ℕ) → times name (defined_names (map interface os)) ≡ times name library_functions + (times name (all_functions ms) + times name (all_globals ms))
  names_split name =
      times_append name (names_in library) (flat_map names_in (map interface os))
      ∙ ap (λ (n : ℕ). times name (names_in library) + n)
      (ap (times name) (all_shown ms os show) ∙ times_flat (λ (m : FlowModule). function_names m ++ global_names m) function_names global_names name (λ m. times_append name (function_names m) (global_names m)) ms)
      ∙ ap (λ (n : ℕ). n + (times name (all_functions ms) + times name (all_globals ms))) library_split
    where
      library_split : times name (names_in library) ≡ times name library_functions
      library_split = let a = times_append name library_functions [] in omega (arith, a)

  -- each ordinary name is defined once at most
  pub once : (name : List ℕ) → IsOrdinary name → times name library_functions + (times name (all_functions ms) + times name (all_globals ms)) ≤ 1
  once name ordinary = let s = names_split name in let o = once_defined (map interface os) links name ordinary in omega (arith, s, o)

  -- ---- names that are used

  defined_by : (name : List ℕ) → Has name (defined_names (map interface os)) → Has name library_functions ⊎ (Has name (all_functions ms) ⊎ Has name (all_globals ms))
  defined_by name h = elim (has_split name (names_in library) (flat_map names_in (map interface os)) h) [
    | inl k ↦ elim (has_split name library_functions [] k) [ inl j ↦ inl j | inr j ↦ absurd j ]
    | inr k ↦
        let m = has_flat_back (λ (m : FlowModule). function_names m ++ global_names m) name ms (subst (λ (ns : List (List ℕ)). Has name ns) (all_shown ms os show) k) in
        inr (elim (has_split name (function_names m.0) (global_names m.0) m.2) [
          | inl j ↦ inl (has_flat function_names m.0 name ms m.1 j)
          | inr j ↦ inr (has_flat global_names m.0 name ms m.1 j)
        ])
  ]

  -- an ordinary name that a module names is defined
  pub defined : (m : FlowModule) (name : List ℕ) → Has m ms → IsOrdinary name → Has name (named_in m) → Has name library_functions ⊎ (Has name (all_functions ms) ⊎ Has name (all_globals ms))
  defined m name there ordinary h = elim (stands_or_not name (defined_names (map interface os))) [
    | inl k ↦ defined_by name k
    | inr none ↦
        let o = object_of ms os show m there in
        let used = has_by name o.0.used (o.2.used name (contains_by name (named_in m) h)) in
        let listed : Has name (used_names o.0) = has_left name (o.0.used ++ flat_map names_in_global o.0.globals) (flat_map names_of_fixes o.0.functions) (has_left name o.0.used (flat_map names_in_global o.0.globals) used) in
        let all : Has name (linking.used_names (map interface os)) = has_flat (λ (i : Interface). i.used) (interface o.0) name (map interface os) (has_map interface o.0 os o.1) listed in
        absurd (links all_defined name (record {
          ordinary = ordinary;
          used = contains_by name (linking.used_names (map interface os)) all;
          nowhere = λ c. none (has_by name (defined_names (map interface os)) c);
        }))
  ]

  -- ---- declarations

  declared_there : (m : FlowModule) (name s : List ℕ) → Has m ms → Has (name, s) m.declared → (home : List ℕ) × Has (name, home, s) (declarations (map interface os))
  declared_there m name s there h =
      let o = object_of ms os show m there in
      let own = has_by (name, s) o.0.declared ((o.2.declared (name, s)).0 (contains_by (name, s) m.declared h)) in
      let d : List ℕ × List ℕ × List ℕ = (name, o.0.module, s) in
      let listed : Has d (declared_in (interface o.0)) = has_map (λ (e : List ℕ × List ℕ). (e.0, o.0.module, e.1)) (name, s) o.0.declared own in
      (o.0.module, has_right d (declared_in library) (flat_map declared_in (map interface os)) (has_flat declared_in (interface o.0) d (map interface os) (has_map interface o.0 os o.1) listed))

  agree_in : (name a b s t : List ℕ) → IsOrdinary name → Has (name, a, s) (declarations (map interface os)) → Has (name, b, t) (declarations (map interface os)) → Agree s t
  agree_in name a b s t ordinary h k = agree_unless s t (λ disagree. links all_agree name a b (record {
    ordinary = ordinary;
    shape = s;
    against = t;
    first = contains_by (name, a, s) (declarations (map interface os)) h;
    second = contains_by (name, b, t) (declarations (map interface os)) k;
    disagree = disagree;
  }))

  -- two declarations of a name agree
  pub agree : (m n : FlowModule) (name s t : List ℕ) → IsOrdinary name → Has m ms → Has n ms → Has (name, s) m.declared → Has (name, t) n.declared → Agree s t
  agree m n name s t ordinary there here h k =
      let a = declared_there m name s there h in
      let b = declared_there n name t here k in
      agree_in name a.0 b.0 s t ordinary a.1 b.1

  -- and agree with the library's
  pub agree_library : (m : FlowModule) (name s t : List ℕ) → IsOrdinary name → Has m ms → Has (name, s) m.declared → Has (name, t) library_declarations → Agree s t
  agree_library m name s t ordinary there h k =
      let a = declared_there m name s there h in
      let d : List ℕ × List ℕ × List ℕ = (name, library.module, t) in
      let listed : Has d (declared_in library) = has_map (λ (e : List ℕ × List ℕ). (e.0, library.module, e.1)) (name, t) library_declarations k in
      agree_in name a.0 library.module s t ordinary a.1 (has_left d (declared_in library) (flat_map declared_in (map interface os)) listed)

  -- ---- `main`

  -- a module defines and declares `main`, as a function of no parameters that gives an int
  pub main_there : (m : FlowModule) × Has m ms × Has main_name (function_names m) × Has (main_name, main_shape) m.declared
  main_there =
      let has : HasMain (map interface os) = links has_main in
      let i = has_map_back interface has.where_it_is os (has_by has.where_it_is (map interface os) has.stands) in
      let m = module_of ms os show i.0 i.1 in
      let shape : (interface i.0).main ≡ Some main_shape = ap (λ (x : Interface). x.main) i.2 ∙ has.shape in
      let r = main_by i.0 (defines_main i.0) refl shape in
      (m.0, m.1, subst (λ (ns : List (List ℕ)). Has main_name ns) m.2.functions r.0, has_by (main_name, main_shape) m.0.declared ((m.2.declared (main_name, main_shape)).1 (contains_by (main_name, main_shape) i.0.declared r.1)))
    where
      any_by : (n : List ℕ) (ns : List (List ℕ)) (b : Bool) → bytes_eq main_name n ≡ b → (list_any (bytes_eq main_name) ns ≡ true → Has main_name ns) → (b || list_any (bytes_eq main_name) ns) ≡ true → Has main_name (n ∷ ns)
      any_by n ns true same rest h = inl (sym ((bytes_eq-Decides main_name n).0 same))
      any_by n ns false same rest h = inr (rest h)

      any_back : (names : List (List ℕ)) → list_any (bytes_eq main_name) names ≡ true → Has main_name names
      any_back [] e = absurd cc
      any_back (n ∷ ns) e = any_by n ns (bytes_eq main_name n) refl (any_back ns) e

      found_by : (d : List ℕ × List ℕ) (ds : List (List ℕ × List ℕ)) (b : Bool) → bytes_eq main_name d.0 ≡ b → (lookup (bytes_eq main_name) ds ≡ Some main_shape → Has (main_name, main_shape) ds)
          → (if b then Some d.1 else lookup (bytes_eq main_name) ds) ≡ Some main_shape → Has (main_name, main_shape) (d ∷ ds)
      found_by d ds true same rest h =
          let n : main_name ≡ d.0 = (bytes_eq-Decides main_name d.0).0 same in
          let s : d.1 ≡ main_shape = same_Some d.1 main_shape h in
          inl (ap (λ (n : List ℕ). (n, d.1)) (sym n) ∙ ap (λ (s : List ℕ). (main_name, s)) s)
      found_by d ds false same rest h = inr (rest h)

      looked_up : (ds : List (List ℕ × List ℕ)) → lookup (bytes_eq main_name) ds ≡ Some main_shape → Has (main_name, main_shape) ds
      looked_up [] e = absurd cc
      looked_up (d ∷ ds) e = found_by d ds (bytes_eq main_name d.0) refl (looked_up ds) e

      main_by : (o : Object) (b : Bool) → defines_main o ≡ b → (if b then lookup (bytes_eq main_name) o.declared else None) ≡ Some main_shape → Has main_name (object.function_names o) × Has (main_name, main_shape) o.declared
      main_by o true e h = (any_back (object.function_names o) e, looked_up o.declared h)
      main_by o false e h = absurd cc
