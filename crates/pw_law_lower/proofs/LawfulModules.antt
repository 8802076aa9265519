-- The flow graph of a module is lawful.
use Rattle.std.proofs.Common.{◌≡◌, ◌≢◌, ℕ, zero, suc, ◌<◌, Bool, true, false, if◌then◌else◌, Some, None, List, [], ◌∷◌, ◌++◌, map, get_or, length, refl, ap, sym, subst, ◌∙◌, arith}
use Rattle.std.specs.Prelude.{All, Contains}
use Rattle.std.specs.List.{AllByRecursion}
use Rattle.std.proofs.lemmas.List.Elements.{recursion_from_All}
use Rattle.std.proofs.lemmas.Slice.Eq.{bytes_eq-Decides}
use Rattle.pw_value.specs.ProgramNames.{start_name, main_name, exit_name, IsOrdinary, IncludesStart}
use Rattle.pw_types.specs.TypedModules.{IsFunction as IsTypedFunction, IsGlobal as IsTypedGlobal, WellTyped}
use Rattle.pw_types.specs.TypedTrees.{Symbol, External, Internal, Hidden, FunctionValue, GlobalValue, DeclaredValue, ModuleValue}
use Rattle.pw_flow.specs.FlowGraph.{global_names, function_names, op_names, names_in_global, names_in_block, names_in_function}
use Rattle.pw_flow.specs.ValidFlow.{AreDistinct, IsFunction, IsGlobal, IsValid}
use Rattle.pw_flow.specs.declared.flow.Op.TheVariants as op
use Rattle.pw_flow.specs.declared.flow.FlowFn.{FlowFn}
use Rattle.pw_flow.specs.declared.flow.FlowGlobal.{FlowGlobal}
use Rattle.pw_flow.proofs.Lists.{all_append, all_flat}
use Rattle.pw_flow.proofs.Once.{once, distinct_right}
use Rattle.pw_lower.specs.Expressions.{full_name}
use Rattle.pw_lower.specs.Modules.{lowered_function, start_function, is_main, start_of, lowered_global, lowered_declared, lowered}
use Rattle.pw_law_lower.proofs.Laws.{function_lawful}
use Rattle.pw_law_lower.specs.Within.{IsNamed, IsObjectWithin, IsFunctionWithin, IsWithin}
use Rattle.pw_law_lower.proofs.Names.{above, all_more, all_both, all_mapped, Apart, apart_from_pairs, distinct_append, others, shared, named_main, name_ordinary, names_ordinary, names_distinct}
use Rattle.pw_law_lower.proofs.Objects.{global_lawful, global_ordinary}
use Rattle.pw_law_lower.proofs.PlainStatements.{function_ordinary, function_bounded}

-- ---- names of objects and functions, by their symbols

abbrev symbols_of_globals : List GlobalValue → List Symbol
symbols_of_globals gs = map (λ g. g.name) gs

abbrev symbols_of_functions : List FunctionValue → List Symbol
symbols_of_functions fs = map (λ f. f.name) fs

names_of_globals : (home : List ℕ) (m : ModuleValue) (gs : List GlobalValue) → map (λ (g : FlowGlobal). g.name) (map (lowered_global home m.records) gs) ≡ map (full_name home) (symbols_of_globals gs)
names_of_globals home m [] = refl
names_of_globals home m (g ∷ gs) = ap (λ names. full_name home g.name ∷ names) (names_of_globals home m gs)

name_of_function : (home : List ℕ) (m : ModuleValue) (f : FunctionValue) → (lowered_function home m.records f).name ≡ full_name home f.name
unfolding lowered_function
name_of_function home m f = refl

-- a list of functions with others behind it
names_of_functions : (home : List ℕ) (m : ModuleValue) (fs : List FunctionValue) (more : List FlowFn)
    → map (λ (f : FlowFn). f.name) (map (lowered_function home m.records) fs ++ more) ≡ map (full_name home) (symbols_of_functions fs) ++ map (λ (f : FlowFn). f.name) more
names_of_functions home m [] more = refl
names_of_functions home m (f ∷ fs) more =
    ap (λ name. name ∷ map (λ (f : FlowFn). f.name) (map (lowered_function home m.records) fs ++ more)) (name_of_function home m f)
    ∙ ap (λ names. full_name home f.name ∷ names) (names_of_functions home m fs more)

-- ---- where $start stands

has_main : List FunctionValue → Bool
has_main [] = false
has_main (f ∷ rest) = if is_main f.name then true else has_main rest

abbrev starting : Bool → List FlowFn
starting has = if has then start_function ∷ [] else []

start_from : (b : Bool) (rest : List FlowFn) (has : Bool) → rest ≡ starting has → (if b then start_function ∷ [] else rest) ≡ starting (if b then true else has)
start_from true rest has e = refl
start_from false rest has e = e

start_is : (fs : List FunctionValue) → start_of fs ≡ starting (has_main fs)
unfolding has_main
start_is [] = refl
start_is (f ∷ rest) = start_from (is_main f.name) (start_of rest) (has_main rest) (start_is rest)

main_is : (home : List ℕ) (s : Symbol) → is_main s ≡ true → full_name home s ≡ main_name
main_is home (External x) e = (bytes_eq-Decides x main_name).0 e
main_is home (Internal x) e = absurd cc
main_is home (Hidden k) e = absurd cc

main_not : (home : List ℕ) (s : Symbol) → is_main s ≡ false → full_name home s ≢ main_name
main_not home s e = λ n. let t : is_main s ≡ true = ap is_main (named_main home s n) ∙ (bytes_eq-Decides main_name main_name).1 refl in absurd cc

abbrev IsNone : List (List ℕ) → List ℕ → Type 0
IsNone names name = AllByRecursion (λ (other : List ℕ). other ≢ name) names

lacks_at : (names : List (List ℕ)) (name : List ℕ) → IsNone names name → (k : ℕ) → get_or names k name ≡ name → k < length names → ⊥
lacks_at [] name none k e lt = absurd (omega arith)
lacks_at (first ∷ names) name none zero e lt = none.0 e
lacks_at (first ∷ names) name none (suc k) e lt = lacks_at names name none.1 k e (omega arith)

lacks : (names : List (List ℕ)) (name : List ℕ) → IsNone names name → Contains names name → ⊥
lacks names name none has = lacks_at names name none has.0 has.2 has.1

later : (first name : List ℕ) (names : List (List ℕ)) → Contains names name → Contains (first ∷ names) name
later first name names has = (suc has.0, omega (arith, has.1), has.2)

contains_last : (names : List (List ℕ)) (name : List ℕ) → Contains (names ++ name ∷ []) name
contains_last [] name = (0, omega arith, refl)
contains_last (first ∷ names) name = later first name (names ++ name ∷ []) (contains_last names name)

there_by : (home : List ℕ) (s : Symbol) (rest : List (List ℕ)) (b has : Bool) → is_main s ≡ b → (if b then true else has) ≡ true → (has ≡ true → Contains rest main_name) → Contains (full_name home s ∷ rest) main_name
there_by home s rest true has is e more = (0, omega arith, main_is home s is)
there_by home s rest false has is e more = later (full_name home s) main_name rest (more e)

-- one of the functions is `main`
main_there : (home : List ℕ) (fs : List FunctionValue) (behind : List (List ℕ)) → has_main fs ≡ true → Contains (map (full_name home) (symbols_of_functions fs) ++ behind) main_name
unfolding has_main
main_there home [] behind e = absurd cc
main_there home (f ∷ rest) behind e =
    there_by home f.name (map (full_name home) (symbols_of_functions rest) ++ behind) (is_main f.name) (has_main rest) refl e (main_there home rest behind)

absent_by : (home : List ℕ) (s : Symbol) (rest : List (List ℕ)) (b has : Bool) → is_main s ≡ b → (if b then true else has) ≡ false → (has ≡ false → IsNone rest main_name) → IsNone (full_name home s ∷ rest) main_name
absent_by home s rest true has is e later = absurd cc
absent_by home s rest false has is e later = (main_not home s is, later e)

main_absent : (home : List ℕ) (fs : List FunctionValue) → has_main fs ≡ false → IsNone (map (full_name home) (symbols_of_functions fs)) main_name
unfolding has_main
main_absent home [] e = tt
main_absent home (f ∷ rest) e = absent_by home f.name (map (full_name home) (symbols_of_functions rest)) (is_main f.name) (has_main rest) refl e (main_absent home rest)

abbrev start_names : Bool → List (List ℕ)
start_names has = map (λ (f : FlowFn). f.name) (starting has)

start_beside : (names : List (List ℕ)) (has : Bool) → AllByRecursion IsOrdinary names → (has ≡ true → Contains (names ++ start_names has) main_name) → (has ≡ false → IsNone names main_name) → IncludesStart (names ++ start_names has)
start_beside names true ordinary there absent = (λ start. there refl, λ main. contains_last names start_name)
start_beside names false ordinary there absent = (
  λ start. absurd (lacks (names ++ []) start_name (all_append (λ (n : List ℕ). n ≢ start_name) names [] ordinary tt) start),
  λ main. absurd (lacks (names ++ []) main_name (all_append (λ (n : List ℕ). n ≢ main_name) names [] (absent refl) tt) main),
)

start_distinct : (has : Bool) → AreDistinct (start_names has)
start_distinct true = (tt, tt)
start_distinct false = tt

-- no ordinary name is that of $start
start_other : (name : List ℕ) (has : Bool) → IsOrdinary name → AllByRecursion (λ (n : List ℕ). n ≢ name) (start_names has)
start_other name true h = (λ e. h (sym e), tt)
start_other name false h = tt

starts_other : (names : List (List ℕ)) (has : Bool) → AllByRecursion IsOrdinary names → AllByRecursion (λ (name : List ℕ). AllByRecursion (λ (n : List ℕ). n ≢ name) (start_names has)) names
starts_other names has h = all_more IsOrdinary (λ (name : List ℕ). AllByRecursion (λ (n : List ℕ). n ≢ name) (start_names has)) names (λ name o. start_other name has o) h

-- ---- distinct names

apart_mapped : {X Y : Type 0} (f : X → Y) (R : Y → Y → Type 0) (xs : List X) → Apart (λ (x y : X). R (f x) (f y)) xs → Apart R (map f xs)
apart_mapped f R [] h = tt
apart_mapped f R (x ∷ xs) h = (all_mapped f (R (f x)) xs h.0, apart_mapped f R xs h.1)

objects_other :
    (home : List ℕ) (gs fs : List Symbol) (has : Bool) → AllByRecursion IsNamed gs → AllByRecursion IsNamed fs → AllByRecursion (λ (s : Symbol). AllByRecursion (λ (t : Symbol). s ≢ t) fs) gs
    → AllByRecursion (λ (name : List ℕ). AllByRecursion (λ (n : List ℕ). n ≢ name) (map (full_name home) fs ++ start_names has)) (map (full_name home) gs)
objects_other home [] fs has h i a = tt
objects_other home (s ∷ gs) fs has h i a = (
  all_append (λ (n : List ℕ). n ≢ full_name home s) (map (full_name home) fs) (start_names has) (others home s fs h.0 i a.0) (start_other (full_name home s) has (name_ordinary home s (shared s h.0))),
  objects_other home gs fs has h.1 i a.1,
)

defined_distinct :
    (home : List ℕ) (gs fs : List Symbol) (has : Bool) → AllByRecursion IsNamed gs → AllByRecursion IsNamed fs
    → Apart (λ (s t : Symbol). s ≢ t) gs → Apart (λ (s t : Symbol). s ≢ t) fs → AllByRecursion (λ (s : Symbol). AllByRecursion (λ (t : Symbol). s ≢ t) fs) gs
    → AreDistinct (map (full_name home) gs ++ (map (full_name home) fs ++ start_names has))
defined_distinct home gs fs has h i a b k =
    distinct_append (map (full_name home) gs) (map (full_name home) fs ++ start_names has) (names_distinct home gs h a)
    (distinct_append (map (full_name home) fs) (start_names has) (names_distinct home fs i b) (start_distinct has) (starts_other (map (full_name home) fs) has (names_ordinary home fs i)))
    (objects_other home gs fs has h i k)

declared_others : (m : ModuleValue) (name : List ℕ) (ds : List DeclaredValue) → AllByRecursion (λ (e : DeclaredValue). name ≢ e.name) ds → AllByRecursion (λ (n : List ℕ). n ≢ name) (map (λ (d : List ℕ × List ℕ). d.0) (map (lowered_declared m.records) ds))
declared_others m name [] h = tt
declared_others m name (d ∷ ds) h = (λ e. h.0 (sym e), declared_others m name ds h.1)

declared_distinct : (m : ModuleValue) (ds : List DeclaredValue) → Apart (λ (d e : DeclaredValue). d.name ≢ e.name) ds → AreDistinct (map (λ (d : List ℕ × List ℕ). d.0) (map (lowered_declared m.records) ds))
declared_distinct m [] h = tt
declared_distinct m (d ∷ ds) h = (declared_others m d.name ds h.0, declared_distinct m ds h.1)

-- ---- what the program starts with

start_lawful : IsFunction start_function
start_lawful = record {
  few = record { few_params = omega arith; params = omega arith; room = omega arith; start = omega arith };
  blocks = (
    record {
      depth = omega arith;
      ops = ((omega arith, record { few = omega arith; below = tt }), ((tt, record { few = omega arith; below = (omega arith, tt) }), tt));
      end = tt;
    },
    tt,
  );
}

main_ordinary : IsOrdinary main_name
main_ordinary = λ e. above 109 36 (omega arith) cc

exit_ordinary : IsOrdinary exit_name
exit_ordinary = λ e. above 101 36 (omega arith) cc

start_ordinary : AllByRecursion IsOrdinary (names_in_function start_function)
start_ordinary =
    all_flat names_in_block IsOrdinary start_function.blocks
    (all_flat op_names IsOrdinary (op.Call (Some 0) main_name [] ∷ op.Call None exit_name (0 ∷ []) ∷ []) ((main_ordinary, tt), ((exit_ordinary, tt), tt)), tt)

starting_all : (P : FlowFn → Type 0) (has : Bool) → P start_function → AllByRecursion P (starting has)
starting_all P true h = (h, tt)
starting_all P false h = tt

-- each lowered function, and the one that the program starts with
functions_all : (P : FlowFn → Type 0) (home : List ℕ) (m : ModuleValue) (fs : List FunctionValue) → AllByRecursion (λ (f : FunctionValue). P (lowered_function home m.records f)) fs → P start_function → AllByRecursion P (map (lowered_function home m.records) fs ++ start_of fs)
functions_all P home m fs h start =
    all_append P (map (lowered_function home m.records) fs) (start_of fs) (all_mapped (lowered_function home m.records) P fs h)
    (subst (λ (more : List FlowFn). AllByRecursion P more) (sym (start_is fs)) (starting_all P (has_main fs) start))

-- ---- modules

pub module_lawful : (home : List ℕ) (m : ModuleValue) → WellTyped m → IsWithin m → IsValid (lowered home m)
unfolding lowered
module_lawful home m t w =
    let gs = symbols_of_globals m.globals in
    let fs = symbols_of_functions m.functions in
    let has = has_main m.functions in
    let objects = recursion_from_All (IsTypedGlobal m) m.globals t.globals in
    let within = recursion_from_All IsObjectWithin m.globals w.globals in
    let typed = recursion_from_All (IsTypedFunction m) m.functions t.functions in
    let small = recursion_from_All (IsFunctionWithin m) m.functions w.functions in
    let named_gs = all_mapped (λ (g : GlobalValue). g.name) IsNamed m.globals (all_more IsObjectWithin (λ (g : GlobalValue). IsNamed g.name) m.globals (λ g h. h.name) within) in
    let named_fs = all_mapped (λ (f : FunctionValue). f.name) IsNamed m.functions (all_more (IsFunctionWithin m) (λ (f : FunctionValue). IsNamed f.name) m.functions (λ f h. h.name) small) in
    let apart_gs = apart_mapped (λ (g : GlobalValue). g.name) (λ (s t : Symbol). s ≢ t) m.globals (apart_from_pairs (λ (g h : GlobalValue). g.name ≢ h.name) m.globals t.one_global) in
    let apart_fs = apart_mapped (λ (f : FunctionValue). f.name) (λ (s t : Symbol). s ≢ t) m.functions (apart_from_pairs (λ (f g : FunctionValue). f.name ≢ g.name) m.functions t.one_function) in
    let apart = all_mapped (λ (g : GlobalValue). g.name) (λ (s : Symbol). AllByRecursion (λ (t : Symbol). s ≢ t) fs) m.globals
    (all_more (λ (g : GlobalValue). All (λ (f : FunctionValue). g.name ≢ f.name) m.functions) (λ (g : GlobalValue). AllByRecursion (λ (t : Symbol). g.name ≢ t) fs) m.globals
    (λ g h. all_mapped (λ (f : FunctionValue). f.name) (λ (t : Symbol). g.name ≢ t) m.functions (recursion_from_All (λ (f : FunctionValue). g.name ≢ f.name) m.functions h))
    (recursion_from_All (λ (g : GlobalValue). All (λ (f : FunctionValue). g.name ≢ f.name) m.functions) m.globals t.one_kind)) in
    let globals_are : global_names (lowered home m) ≡ map (full_name home) gs = names_of_globals home m m.globals in
    let functions_are : function_names (lowered home m) ≡ map (full_name home) fs ++ start_names has =
    names_of_functions home m m.functions (start_of m.functions) ∙ ap (λ more. map (full_name home) fs ++ map (λ (f : FlowFn). f.name) more) (start_is m.functions) in
    let defined = subst (λ (names : List (List ℕ)). AreDistinct (names ++ function_names (lowered home m))) (sym globals_are)
    (subst (λ (names : List (List ℕ)). AreDistinct (map (full_name home) gs ++ names)) (sym functions_are) (defined_distinct home gs fs has named_gs named_fs apart_gs apart_fs apart)) in
    record {
      parts = record {
        globals = all_mapped (lowered_global home m.records) IsGlobal m.globals
            (all_both (IsTypedGlobal m) IsObjectWithin (λ (g : GlobalValue). IsGlobal (lowered_global home m.records g)) m.globals (λ g h i. global_lawful home m g h i) objects within);
        functions = functions_all IsFunction home m m.functions
            (all_both (IsTypedFunction m) (IsFunctionWithin m) (λ (f : FunctionValue). IsFunction (lowered_function home m.records f)) m.functions (λ f h i. function_lawful home m f h i.parts i.room (function_bounded home m f w.records w.declared h i)) typed small)
            start_lawful;
        ordinary = all_append IsOrdinary _ _
            (all_flat names_in_global IsOrdinary (map (lowered_global home m.records) m.globals)
            (all_mapped (lowered_global home m.records) (λ (g : FlowGlobal). AllByRecursion IsOrdinary (names_in_global g)) m.globals
            (all_more (IsTypedGlobal m) (λ (g : GlobalValue). AllByRecursion IsOrdinary (names_in_global (lowered_global home m.records g))) m.globals (λ g h. global_ordinary home m g w.declared h) objects)))
            (all_flat names_in_function IsOrdinary (map (lowered_function home m.records) m.functions ++ start_of m.functions)
            (functions_all (λ (f : FlowFn). AllByRecursion IsOrdinary (names_in_function f)) home m m.functions
            (all_both (IsTypedFunction m) (IsFunctionWithin m) (λ (f : FunctionValue). AllByRecursion IsOrdinary (names_in_function (lowered_function home m.records f))) m.functions (λ f h i. function_ordinary home m f w.records w.declared h i) typed small)
            start_ordinary));
      };
      names = record {
        distinct = record {
          defined = defined;
          declared = declared_distinct m m.declared (apart_from_pairs (λ (d e : DeclaredValue). d.name ≢ e.name) m.declared t.one_declared);
        };
        start = record {
          beside = subst IncludesStart (sym functions_are)
              (start_beside (map (full_name home) fs) has (names_ordinary home fs named_fs) (main_there home m.functions (start_names has)) (main_absent home m.functions));
          once = once start_name (function_names (lowered home m)) (distinct_right (global_names (lowered home m)) (function_names (lowered home m)) defined);
          no_global = lacks (global_names (lowered home m)) start_name (subst (λ (names : List (List ℕ)). AllByRecursion IsOrdinary names) (sym globals_are) (names_ordinary home gs named_gs));
        };
      };
    }
