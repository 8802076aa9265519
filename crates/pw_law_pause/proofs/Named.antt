-- What a name, a number or a value calls: a function of the library by its own name, or one that a module defines.
use Rattle.std.proofs.Common.{ℕ, ◌≡◌, ◌==◌, Bool, true, false, cond, Some, List, [], ◌∷◌, ◌++◌, map, find, bytes_eq, arith, refl, sym, subst}
use Rattle.std.specs.Prelude.{Contains}
use Rattle.std.specs.List.{AllByRecursion, flat_map}
use Rattle.std.proofs.lemmas.Option.{same_Some}
use Rattle.std.proofs.lemmas.List.Concat.{flat_map-cons}
use Rattle.pw_value.specs.declared.value.Value.{Value}
use Rattle.pw_value.specs.declared.value.Value.TheVariants as V
use Rattle.pw_value.specs.declared.value.Pointer.TheVariants as P
use Rattle.pw_value.specs.ProgramNames.{library_functions}
use Rattle.pw_types.specs.TypedTrees.{FunctionValue}
use Rattle.pw_cmean.specs.Worlds.{Program, ProgramModule, Callable, Body, Defined, Library, callable, functions_of, function_named, function_number, function_at}
use Rattle.pw_cmean.specs.Evaluation.{callee_of}

abbrev pub NamedBy : Body → List ℕ → Type 0
NamedBy (Library g) name = Contains library_functions name
NamedBy (Defined m d) name = Unit {0}

abbrev pub IsNamed : Callable → Type 0
IsNamed f = NamedBy f.body f.name

-- ---- what a search finds

found-by : (P : Callable → Type 0) (test : Callable → Bool) (b : Bool) (x : Callable) (xs : List Callable) (f : Callable) → P x → (find test xs ≡ Some f → P f)
    → cond b (Some x) (find test xs) ≡ Some f → P f
found-by P test true x xs f own later e = subst P (same_Some x f e) own
found-by P test false x xs f own later e = later e

found : (P : Callable → Type 0) (test : Callable → Bool) (xs : List Callable) → AllByRecursion P xs → (f : Callable) → find test xs ≡ Some f → P f
found P test [] all f e = absurd cc
found P test (x ∷ xs) all f e = found-by P test (test x) x xs f all.0 (found P test xs all.1 f) e

-- ---- the functions of a program

all-both : (xs ys : List Callable) → AllByRecursion IsNamed xs → AllByRecursion IsNamed ys → AllByRecursion IsNamed (xs ++ ys)
all-both [] ys all others = others
all-both (x ∷ xs) ys all others = (all.0, all-both xs ys all.1 others)

defined-named : (m : ProgramModule) (fs : List FunctionValue) → AllByRecursion IsNamed (map (callable m) fs)
defined-named m [] = tt
defined-named m (f ∷ fs) = (tt, defined-named m fs)

modules-named : (ms : List ProgramModule) → AllByRecursion IsNamed (flat_map (λ (m : ProgramModule). map (callable m) m.tree.functions) ms)
modules-named [] = tt
modules-named (m ∷ ms) =
    subst (AllByRecursion IsNamed) (sym (flat_map-cons (λ (x : ProgramModule). map (callable x) x.tree.functions) m ms))
    (all-both (map (callable m) m.tree.functions) (flat_map (λ (x : ProgramModule). map (callable x) x.tree.functions) ms) (defined-named m m.tree.functions) (modules-named ms))

all-named : (p : Program) → AllByRecursion IsNamed (functions_of p)
all-named p = ((0, omega arith, refl), ((1, omega arith, refl), ((2, omega arith, refl), modules-named p.modules)))

-- ---- what is called

pub named_rightly : (p : Program) (name : List ℕ) (f : Callable) → function_named p name ≡ Some f → IsNamed f
named_rightly p name f e = found IsNamed (λ (c : Callable). bytes_eq c.name name) (functions_of p) (all-named p) f e

numbered_rightly : (p : Program) (k : ℕ) (f : Callable) → function_at p k ≡ Some f → IsNamed f
numbered_rightly p k f e = found IsNamed (λ (c : Callable). function_number p c.name == k) (functions_of p) (all-named p) f e

pub called_rightly : (p : Program) (v : Value) (f : Callable) → callee_of p v ≡ Some f → IsNamed f
called_rightly p (V.At (P.Function k)) f e = numbered_rightly p k f e
called_rightly p (V.At (P.Object o i)) f e = absurd cc
called_rightly p V.Undefined f e = absurd cc
called_rightly p (V.Num n) f e = absurd cc
called_rightly p V.Null f e = absurd cc
called_rightly p (V.Piece q i) f e = absurd cc
