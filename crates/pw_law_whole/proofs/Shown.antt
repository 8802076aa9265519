-- Flow graphs that keep the rules of linking have objects that show what they have, and keep them too.
use Rattle.std.proofs.Common.{◌≡◌, ℕ, Bool, true, false, ◌||◌, if◌then◌else◌, List, [], ◌∷◌, ◌++◌, map, Option, Some, None, refl, sym, ap, subst, ◌∙◌, inl, inr}
use Rattle.std.specs.Prelude.{Contains}
use Rattle.std.specs.List.{AllByRecursion, flat_map, list_any}
use Rattle.std.specs.Map.{lookup}
use Rattle.std.specs.Str.{bytes_eq}
use Rattle.std.proofs.lemmas.List.Concat.{flat_map-cons}
use Rattle.std.proofs.lemmas.Slice.Eq.{bytes_eq-Decides}
use Rattle.pw_value.specs.ProgramNames.{main_name}
use Rattle.pw_files.proofs.Standing.{Has, has_by, contains_by, has_left, has_split}
use Rattle.pw_flow.specs.declared.flow.FlowFn.{FlowFn}
use Rattle.pw_flow.specs.declared.flow.FlowModule.{FlowModule}
use Rattle.pw_flow.specs.FlowGraph.{names_in_global, names_in_function, named_in}
use Rattle.pw_summarise.specs.Summarises.{function_entry, function_entries}
use Rattle.pw_graph.specs.Program.{main_in}
use Rattle.pw_object.specs.declared.functions.ObjectFn.{ObjectFn}
use Rattle.pw_object.specs.declared.object.Object.{Object}
use Rattle.pw_link_interface.specs.Interface.{interface, names_of_fixes, used_names}
use Rattle.pw_law_shown.specs.Alike.{DeclaresMain, shown}
use Rattle.pw_law_source.specs.Accepting.{Shows, AllShow}
use Rattle.pw_law_opt_links.specs.Less.{ShowsLess, AllShowLess}

-- ---- the object

abbrev bare : FlowFn → ObjectFn
bare f = record { name = f.name; frame = 0; words = []; fixes = [] }

-- what a module declares, with the shape of the `main` that it defines in front
abbrev main_first : Option (List ℕ) → List (List ℕ × List ℕ) → List (List ℕ × List ℕ)
main_first None ds = ds
main_first (Some s) ds = (main_name, s) ∷ ds

abbrev pub object_shown : FlowModule → Object
object_shown m = record {
  version = 0;
  «module» = m.name;
  flow = [];
  directives = [];
  declared = main_first (main_in (function_entries m)) m.declared;
  used = named_in m;
  globals = m.globals;
  functions = map bare m.functions;
}

bare_names : (fs : List FlowFn) → map (λ (x : ObjectFn). x.name) (map bare fs) ≡ map (λ (f : FlowFn). f.name) fs
bare_names [] = refl
bare_names (f ∷ fs) = ap (λ (names : List (List ℕ)). f.name ∷ names) (bare_names fs)

bare_fixes : (fs : List FlowFn) → flat_map names_of_fixes (map bare fs) ≡ []
bare_fixes [] = refl
bare_fixes (f ∷ fs) = flat_map-cons names_of_fixes (bare f) (map bare fs) ∙ bare_fixes fs

-- ---- `main`

same_shape : (a b : List ℕ) → ◌≡◌ {A = Option (List ℕ)} (Some a) (Some b) → a ≡ b
same_shape a b e = cc

-- a function is `main`, with this shape
abbrev HasMain : List FlowFn → List ℕ → Type 0
HasMain fs s = (f : FlowFn) × Has f fs × (f.name ≡ main_name) × (f.shape ≡ s)

main_by : (f : FlowFn) (fs : List FlowFn) (s : List ℕ) (b : Bool) → bytes_eq f.name main_name ≡ b → (main_in (map function_entry fs) ≡ Some s → HasMain fs s)
    → (if b then Some f.shape else main_in (map function_entry fs)) ≡ Some s → HasMain (f ∷ fs) s
main_by f fs s true same later is = (f, inl refl, (bytes_eq-Decides f.name main_name).0 same, same_shape f.shape s is)
main_by f fs s false same later is = let r = later is in (r.0, inr r.1, r.2, r.3)

main_has : (fs : List FlowFn) (s : List ℕ) → main_in (map function_entry fs) ≡ Some s → HasMain fs s
main_has [] s e = absurd cc
main_has (f ∷ fs) s e = main_by f fs s (bytes_eq f.name main_name) refl (main_has fs s) e

main_declared : (m : FlowModule) → DeclaresMain m → (s : List ℕ) → main_in (function_entries m) ≡ Some s → Has (main_name, s) m.declared
main_declared m declares s e =
    let r = main_has m.functions s e in
    has_by (main_name, s) m.declared (subst (λ (shape : List ℕ). Contains m.declared (main_name, shape)) r.3 (declares r.0 (contains_by r.0 m.functions r.1) r.2))

or_true : (a b : Bool) → b ≡ true → (a || b) ≡ true
or_true true b e = refl
or_true false b e = e

named_main : (fs : List FlowFn) (f : FlowFn) → Has f fs → f.name ≡ main_name → list_any (bytes_eq main_name) (map (λ (x : ObjectFn). x.name) (map bare fs)) ≡ true
named_main [] f h e = absurd h
named_main (g ∷ fs) f (inl same) e =
    let here : bytes_eq main_name g.name ≡ true = (bytes_eq-Decides main_name g.name).1 (sym (ap (λ (x : FlowFn). x.name) same ∙ e)) in
    ap (λ (b : Bool). b || list_any (bytes_eq main_name) (map (λ (x : ObjectFn). x.name) (map bare fs))) here
named_main (g ∷ fs) f (inr h) e = or_true (bytes_eq main_name g.name) (list_any (bytes_eq main_name) (map (λ (x : ObjectFn). x.name) (map bare fs))) (named_main fs f h e)

main_shown : (m : FlowModule) (s : List ℕ) → main_in (function_entries m) ≡ Some s → (interface (object_shown m)).main ≡ Some s
main_shown m s e =
    let r = main_has m.functions s e in
    let found : bytes_eq main_name main_name ≡ true = (bytes_eq-Decides main_name main_name).1 refl in
    ap (λ (b : Bool). if b then lookup (bytes_eq main_name) (main_first (main_in (function_entries m)) m.declared) else None) (named_main m.functions r.0 r.1 r.2)
    ∙ ap (λ (o : Option (List ℕ)). lookup (bytes_eq main_name) (main_first o m.declared)) e
    ∙ ap (λ (b : Bool). if b then Some s else lookup (bytes_eq main_name) m.declared) found

-- ---- declarations

declared_too : (o : Option (List ℕ)) (ds : List (List ℕ × List ℕ)) (d : List ℕ × List ℕ) → Has d ds → Has d (main_first o ds)
declared_too None ds d h = h
declared_too (Some s) ds d h = inr h

declared_before : (o : Option (List ℕ)) (ds : List (List ℕ × List ℕ)) (d : List ℕ × List ℕ) → ((s : List ℕ) → o ≡ Some s → Has (main_name, s) ds) → Has d (main_first o ds) → Has d ds
declared_before None ds d known h = h
declared_before (Some s) ds d known (inl e) = subst (λ (x : List ℕ × List ℕ). Has x ds) e (known s refl)
declared_before (Some s) ds d known (inr h) = h

back : (m : FlowModule) → DeclaresMain m → (d : List ℕ × List ℕ) → Contains (object_shown m).declared d → Contains m.declared d
back m declares d h =
    contains_by d m.declared (declared_before (main_in (function_entries m)) m.declared d (main_declared m declares) (has_by d (object_shown m).declared h))

-- ---- names that are used

used_before : (m : FlowModule) (name : List ℕ) → Contains (used_names (object_shown m)) name → Contains (named_in m) name
used_before m name c =
    contains_by name (named_in m)
    (elim (has_split name (named_in m ++ flat_map names_in_global m.globals) (flat_map names_of_fixes (map bare m.functions)) (has_by name (used_names (object_shown m)) c)) [
      | inl h ↦ elim (has_split name (named_in m) (flat_map names_in_global m.globals) h) [
        | inl own ↦ own
        | inr k ↦ has_left name (flat_map names_in_global m.globals) (flat_map names_in_function m.functions) k
      ]
      | inr h ↦ absurd (subst (λ (names : List (List ℕ)). Has name names) (bare_fixes m.functions) h)
    ])

-- ---- modules one by one

one_shows : (m : FlowModule) → DeclaresMain m → Shows m (object_shown m)
one_shows m declares = record {
  name = refl;
  functions = bare_names m.functions;
  globals = refl;
  declared = λ d. (
    (λ c. contains_by d (object_shown m).declared (declared_too (main_in (function_entries m)) m.declared d (has_by d m.declared c))),
    back m declares d,
  );
  used = λ name c. c;
}

one_less : (m : FlowModule) → DeclaresMain m → ShowsLess (shown m) (interface (object_shown m))
one_less m declares = record {
  named = refl;
  functions = bare_names m.functions;
  globals = refl;
  declared = back m declares;
  used = used_before m;
  main = main_shown m;
}

pub objects_show : (ms : List FlowModule) → AllByRecursion DeclaresMain ms → AllShow ms (map object_shown ms)
objects_show [] all = tt
objects_show (m ∷ ms) all = (one_shows m all.0, objects_show ms all.1)

pub objects_less : (ms : List FlowModule) → AllByRecursion DeclaresMain ms → AllShowLess (map shown ms) (map interface (map object_shown ms))
objects_less [] all = tt
objects_less (m ∷ ms) all = (one_less m all.0, objects_less ms all.1)
