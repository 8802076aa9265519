-- What the flow graphs of modules have by name, and what follows where their objects link: the declarations of a name agree, and
-- each name is defined once.
use Rattle.std.proofs.Common.{◌≡◌, ℕ, ◌≤◌, Bool, true, false, if◌then◌else◌, List, [], ◌∷◌, ◌++◌, map, refl, sym, ap, subst, ◌∙◌, arith, inl, inr}
use Rattle.std.specs.Prelude.{Contains, All}
use Rattle.std.proofs.lemmas.Bool.{cases_lt}
use Rattle.std.proofs.lemmas.List.{map-append}
use Rattle.std.proofs.lemmas.List.Elements.{recursion_from_All}
use Rattle.std.proofs.lemmas.Slice.Eq.{bytes_eq-Decides}
use Rattle.pw_value.specs.ProgramNames.{start_name, main_name, times, IsOrdinary}
use Rattle.pw_value.specs.Shapes.{Begins}
use Rattle.pw_types.specs.FullNames.{full_name}
use Rattle.pw_types.specs.Shapes.{letter_of, letters_of, shape_of}
use Rattle.pw_types.specs.TypeTrees.{CType, type_of, is_volatile, RecordValue}
use Rattle.pw_types.specs.TypedTrees.{Symbol, External, Internal, Hidden, FunctionValue, GlobalValue, DeclaredValue, ModuleValue}
use Rattle.pw_types.specs.TypedModules.{IsFunctionTyped, IsDeclaredIfExternal}
use Rattle.pw_types.specs.WellTyped.{IsDeclared}
use Rattle.pw_flow.specs.declared.flow.FlowFn.{FlowFn}
use Rattle.pw_flow.specs.FlowGraph.{function_names}
use Rattle.pw_lower.specs.Modules.{lowered_function, start_function, is_main, start_of, lowered_declared, lowered}
use Rattle.pw_law_lower.specs.Within.{AreLetters, IsNamed}
use Rattle.pw_law_lower.proofs.Names.{IsShared, shared, named_main, name_ordinary}
use Rattle.pw_files.proofs.Standing.{Has, has_by, has_each, has_right, has_map, has_map_back}
use Rattle.pw_law_lower_walk.proofs.Made.{full, function_by}
use Rattle.pw_law_accept.proofs.Counts.{times_cons, times_append, one, one_least, one_self, there}
use Rattle.pw_law_accept.proofs.Agreeing.{function_agree}

pub all_has : {X : Type 0} (P : X → Type 0) (xs : List X) (x : X) → All P xs → Has x xs → P x
all_has P xs x all h = has_each P xs x (recursion_from_All P xs all) h

-- a name that the text gives
abbrev pub IsGiven : Symbol → Type 0
IsGiven (External x) = Unit {0}
IsGiven (Internal x) = Unit {0}
IsGiven (Hidden k) = ⊥

-- what is known of a module that checking accepts
pub record Known (m : ModuleValue) : Type 0 where
  pub declared : All (λ d. AreLetters d.name) m.declared
  pub functions : All (λ f. IsNamed f.name) m.functions
  pub typed : All (IsFunctionTyped m) m.functions
  pub external : All (λ f. IsDeclaredIfExternal m f.name f.ty) m.functions
  pub objects : All (λ g. IsDeclaredIfExternal m g.name g.ty) m.globals
  pub given : All (λ f. IsGiven f.name) m.functions

-- ---- the functions of a flow graph

pub shape_is : (home : List ℕ) (records : List RecordValue) (g : FunctionValue) → (lowered_function home records g).shape ≡ shape_of records (type_of g.ty) (is_volatile g.ty)
unfolding lowered_function
shape_is home records g = refl

pub declared_back : (home : List ℕ) (m : ModuleValue) (e : List ℕ × List ℕ) → Has e (lowered home m).declared → (d : DeclaredValue) × Has d m.declared × (lowered_declared m.records d ≡ e)
unfolding lowered
declared_back home m e h = has_map_back (lowered_declared m.records) e m.declared h

pub declared_has : (home : List ℕ) (m : ModuleValue) (d : DeclaredValue) → Has d m.declared → Has (lowered_declared m.records d) (lowered home m).declared
unfolding lowered
declared_has home m d h = has_map (lowered_declared m.records) d m.declared h

-- ---- the start

-- the function that the program starts with stands beside `main`
start_in_by : (g f : FunctionValue) (fs : List FunctionValue) (b : Bool) → is_main g.name ≡ b → is_main f.name ≡ true → (Has f fs → Has start_function (start_of fs)) → Has f (g ∷ fs) → Has start_function (if b then start_function ∷ [] else start_of fs)
start_in_by g f fs true d e rest k = inl refl
start_in_by g f fs false d e rest (inl same) = let t : is_main g.name ≡ true = ap (λ (x : FunctionValue). is_main x.name) same ∙ e in absurd cc
start_in_by g f fs false d e rest (inr k) = rest k

start_in : (fs : List FunctionValue) (f : FunctionValue) → Has f fs → is_main f.name ≡ true → Has start_function (start_of fs)
start_in [] f h e = absurd h
start_in (g ∷ fs) f h e = start_in_by g f fs (is_main g.name) refl e (λ k. start_in fs f k e) h

main_is : (s : Symbol) → s ≡ External main_name → is_main s ≡ true
main_is s e = ap is_main e ∙ (bytes_eq-Decides main_name main_name).1 refl

pub start_there : (home : List ℕ) (m : ModuleValue) → Has main_name (function_names (lowered home m)) → Has start_function (lowered home m).functions
unfolding lowered
start_there home m h = elim (function_by home m main_name h) [
  | inl g ↦ has_right start_function (map (lowered_function home m.records) m.functions) (start_of m.functions) (start_in m.functions g.0 g.1 (main_is g.0.name (named_main home g.0.name g.2)))
  | inr e ↦ absurd cc
]

-- ---- how often it stands

abbrev named_as : List ℕ → List FunctionValue → List (List ℕ)
named_as home fs = map (λ (f : FunctionValue). full_name home f.name) fs

names_are : (home : List ℕ) (records : List RecordValue) (fs : List FunctionValue) → map (λ (f : FlowFn). f.name) (map (lowered_function home records) fs) ≡ named_as home fs
names_are home records [] = refl
names_are home records (f ∷ fs) =
    ap (λ (n : List ℕ). n ∷ map (λ (f : FlowFn). f.name) (map (lowered_function home records) fs)) (full home records f)
    ∙ ap (λ (ns : List (List ℕ)). full_name home f.name ∷ ns) (names_are home records fs)

functions_split : (home : List ℕ) (m : ModuleValue) → function_names (lowered home m) ≡ named_as home m.functions ++ map (λ (f : FlowFn). f.name) (start_of m.functions)
unfolding lowered
functions_split home m =
    map-append (λ (f : FlowFn). f.name) (map (lowered_function home m.records) m.functions) (start_of m.functions)
    ∙ ap (λ (ns : List (List ℕ)). ns ++ map (λ (f : FlowFn). f.name) (start_of m.functions)) (names_are home m.records m.functions)

pub none_counted : (name : List ℕ) (xs : List (List ℕ)) → (Has name xs → ⊥) → times name xs ≡ 0
none_counted name xs none = elim (cases_lt 0 (times name xs)) [
  | inl h ↦ absurd (none (there name xs (omega (arith, h))))
  | inr h ↦ omega (arith, h)
]

main_full : (home : List ℕ) (s : Symbol) → is_main s ≡ true → full_name home s ≡ main_name
main_full home (External x) e = (bytes_eq-Decides x main_name).0 e
main_full home (Internal x) e = absurd cc
main_full home (Hidden k) e = absurd cc

start_times_by : (home : List ℕ) (f : FunctionValue) (fs : List FunctionValue) (b : Bool) → is_main f.name ≡ b → times start_name (map (λ (f : FlowFn). f.name) (start_of fs)) ≤ times main_name (named_as home fs)
    → times start_name (map (λ (f : FlowFn). f.name) (if b then start_function ∷ [] else start_of fs)) ≤ times main_name (named_as home (f ∷ fs))
start_times_by home f fs true e r =
    let c = times_cons main_name (full_name home f.name) (named_as home fs) in
    let s : one main_name (full_name home f.name) ≡ 1 = ap (one main_name) (main_full home f.name e) ∙ one_self main_name in
    let d = times_cons start_name start_name [] in
    let o = one_least start_name start_name in
    omega (arith, c, s, d, o)
start_times_by home f fs false e r =
    let c = times_cons main_name (full_name home f.name) (named_as home fs) in
    omega (arith, c, r)

start_times : (home : List ℕ) (fs : List FunctionValue) → times start_name (map (λ (f : FlowFn). f.name) (start_of fs)) ≤ times main_name (named_as home fs)
start_times home [] = omega arith
start_times home (f ∷ fs) = start_times_by home f fs (is_main f.name) refl (start_times home fs)

pub function_ordinary : (home : List ℕ) (m : ModuleValue) → Known m → (f : FunctionValue) → Has f m.functions → IsOrdinary (full_name home f.name)
function_ordinary home m known f h = name_ordinary home f.name (shared f.name (all_has (λ f. IsNamed f.name) m.functions f known.functions h))

pub start_less : (home : List ℕ) (m : ModuleValue) → Known m → times start_name (function_names (lowered home m)) ≤ times main_name (function_names (lowered home m))
start_less home m known =
    let a = ap (times start_name) (functions_split home m) in
    let b = ap (times main_name) (functions_split home m) in
    let c = times_append start_name (named_as home m.functions) (map (λ (f : FlowFn). f.name) (start_of m.functions)) in
    let d = times_append main_name (named_as home m.functions) (map (λ (f : FlowFn). f.name) (start_of m.functions)) in
    let e = start_times home m.functions in
    let z : times start_name (named_as home m.functions) ≡ 0 = none_counted start_name (named_as home m.functions) (λ h.
    let f = has_map_back (λ (f : FunctionValue). full_name home f.name) start_name m.functions h in
    function_ordinary home m known f.0 f.1 f.2) in
    omega (arith, a, b, c, d, e, z)

-- ---- names of objects

pub declared_letters : (m : ModuleValue) → Known m → (x : List ℕ) (d : DeclaredValue) → Contains m.declared d → d.name ≡ x → AreLetters x
declared_letters m known x d h e = subst AreLetters e (all_has (λ d. AreLetters d.name) m.declared d known.declared (has_by d m.declared h))

pub global_shared : (m : ModuleValue) → Known m → (g : GlobalValue) → Has g m.globals → IsShared g.name
global_shared m known g h = by g.name (all_has (λ g. IsDeclaredIfExternal m g.name g.ty) m.globals g known.objects h)
  where
    by : (s : Symbol) → IsDeclaredIfExternal m s g.ty → IsShared s
    by (External x) is = declared_letters m known x is.entry is.there is.name_is
    by (Internal x) is = tt
    by (Hidden k) is = tt

-- ---- shapes of functions

pub begins : (m : ModuleValue) (f : FunctionValue) (v : Bool) → IsFunctionTyped m f → Begins 102 (shape_of m.records (type_of f.ty) v)
begins m f v is = subst (λ (ty : CType). Begins 102 (shape_of m.records ty v)) (sym is.type_is) (letter_of (type_of is.result) ∷ letters_of is.params, refl)

pub same_shape : (m : ModuleValue) (f : FunctionValue) (v : Bool) → IsFunctionTyped m f → shape_of m.records (type_of f.ty) v ≡ shape_of m.records (type_of f.ty) false
same_shape m f v is =
    ap (λ (ty : CType). shape_of m.records ty v) is.type_is ∙ sym (ap (λ (ty : CType). shape_of m.records ty false) is.type_is)

-- what a module declares under a function's external name has its shape
pub declared_shape : (home : List ℕ) (m : ModuleValue) → Known m → (f : FunctionValue) → Has f m.functions → (x : List ℕ) → f.name ≡ External x → Has (x, shape_of m.records (type_of f.ty) (is_volatile f.ty)) (lowered home m).declared
declared_shape home m known f h x e =
    let is : IsDeclared m x f.ty = subst (λ (s : Symbol). IsDeclaredIfExternal m s f.ty) e (all_has (λ f. IsDeclaredIfExternal m f.name f.ty) m.functions f known.external h) in
    let shape = function_agree _ _ is.agrees (begins m f (is_volatile f.ty) (all_has (IsFunctionTyped m) m.functions f known.typed h)) in
    subst (λ (d : List ℕ × List ℕ). Has d (lowered home m).declared) (ap (λ (n : List ℕ). (n, shape_of m.records (type_of is.entry.ty) (is_volatile is.entry.ty))) is.name_is ∙ ap (λ (s : List ℕ). (x, s)) shape)
    (declared_has home m is.entry (has_by is.entry m.declared is.there))
