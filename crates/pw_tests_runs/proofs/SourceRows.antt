-- Bump and main in C: a typed tree that is well typed.
-- int n;  void bump(void) { n = n + 1; }  int main(void) { bump(); bump(); putchar(n + 48); return n; }
use Rattle.std.specs.Prelude.{ℕ, ◌≡◌, ◌≢◌, false, true, not, Some, None, option_map, unwrap_or, List, [], ◌∷◌, codes, All, AllPairs}
use Rattle.std.specs.List.{AllByRecursion, IsDistinct}
use Rattle.std.specs.Str.{bytes_eq}
use Rattle.std.proofs.Common.{arith, subst, ap, sym, refl, ◌∙◌}
use mathlib.Core.Logic.{inl, inr}
use Rattle.std.proofs.lemmas.List.Elements.{All-contains, All-from_recursion}
use Rattle.std.proofs.lemmas.List.Kept.{AllPairs-cons}
use Rattle.pw_value.specs.Shapes.{Agree}
use Rattle.pw_types.specs.declared.kind.IntKind.TheVariants as K
use Rattle.pw_types.specs.declared.tree.BinaryOperator.TheVariants.{Add}
use Rattle.pw_types.specs.TypeTrees.{Void, Int, Function, QType, Qualified, NoType, OneType, type_of, is_volatile}
use Rattle.pw_types.specs.Shapes.{shape_of}
use Rattle.pw_types.specs.TypedTrees as T
use Rattle.pw_types.specs.TypedTrees.{Symbol, External, Internal, Hidden, Expression, Node, NoExpression, OneExpression, Block, Evaluate, Return, NoStatement, OneStatement, FunctionValue, GlobalValue, DeclaredValue, ModuleValue}
use Rattle.pw_types.specs.WellTyped.{IsDeclared, IsKnownType, IsTyped, HasForm, AreArguments, IsFunctionOf}
use Rattle.pw_types.specs.TypedModules.{IsStatement, AreStatements, IsFunction, IsGlobal, WellTyped, IsDeclaredIfExternal}
use Rattle.pw_cmean.specs.Worlds.{Program, ProgramModule, Callable, full_name, function_named}
use Rattle.pw_cmean.specs.Typed.{IsWellTyped}
use Rattle.pw_tests_runs.proofs.ProgramRows.{differ}

abbrev pub number : QType
number = Qualified (Int K.Int) false false

abbrev pub nothing : QType
nothing = Qualified Void false false

abbrev pub of_n : Expression
of_n = Node 0 number (T.Global (External (codes "n")))

abbrev pub constant : ℕ → Expression
constant k = Node 0 number (T.Number k)

abbrev pub sum : ℕ → Expression
sum k = Node 0 number (T.Binary Add of_n (constant k))

abbrev pub counting : Expression
counting = Node 0 number (T.Assign of_n (sum 1))

abbrev pub bumped : Expression
bumped = Node 0 nothing (T.Call (External (codes "bump")) NoExpression)

abbrev pub shown : Expression
shown = Node 0 number (T.Call (External (codes "putchar")) (OneExpression (sum 48) NoExpression))

abbrev pub bump_tree : FunctionValue
bump_tree = record {
  name = External (codes "bump");
  token = 0;
  ty = Qualified (Function nothing NoType) false false;
  params = 0;
  locals = [];
  labels = 0;
  named = [];
  body = Block 0 0 0 [] (OneStatement (Evaluate 0 counting) NoStatement);
}

abbrev pub main_tree : FunctionValue
main_tree = record {
  name = External (codes "main");
  token = 0;
  ty = Qualified (Function number NoType) false false;
  params = 0;
  locals = [];
  labels = 0;
  named = [];
  body = Block 0 0 0 [] (
      OneStatement (Evaluate 0 bumped) (
      OneStatement (Evaluate 0 bumped) (
      OneStatement (Evaluate 0 shown) (
      OneStatement (Return 0 (Some of_n)) NoStatement))));
}

abbrev pub n_tree : GlobalValue
n_tree = record { name = External (codes "n"); ty = number; writable = true; items = [] }

abbrev pub d_n : DeclaredValue
d_n = record { name = codes "n"; ty = number }

abbrev pub d_bump : DeclaredValue
d_bump = record { name = codes "bump"; ty = Qualified (Function nothing NoType) false false }

abbrev pub d_main : DeclaredValue
d_main = record { name = codes "main"; ty = Qualified (Function number NoType) false false }

abbrev pub d_putchar : DeclaredValue
d_putchar = record { name = codes "putchar"; ty = Qualified (Function number (OneType number NoType)) false false }

abbrev pub tree : ModuleValue
tree = record {
  records = [];
  globals = n_tree ∷ [];
  functions = bump_tree ∷ main_tree ∷ [];
  declared = d_n ∷ d_bump ∷ d_main ∷ d_putchar ∷ [];
}

abbrev pub module_tree : ProgramModule
module_tree = record { name = codes "a"; tree = tree }

abbrev pub in_c : Program
in_c = record { modules = module_tree ∷ [] }

-- ---- its expressions

declared_n : IsDeclared tree (codes "n") number
declared_n = record { entry = record { name = codes "n"; ty = number }; there = (0, omega arith, refl); name_is = refl; agrees = inl refl }

declared_bump : IsDeclared tree (codes "bump") (Qualified (Function nothing NoType) false false)
declared_bump = record { entry = record { name = codes "bump"; ty = Qualified (Function nothing NoType) false false }; there = (1, omega arith, refl); name_is = refl; agrees = inl refl }

declared_main : IsDeclared tree (codes "main") (Qualified (Function number NoType) false false)
declared_main = record { entry = record { name = codes "main"; ty = Qualified (Function number NoType) false false }; there = (2, omega arith, refl); name_is = refl; agrees = inl refl }

declared_putchar : IsDeclared tree (codes "putchar") (Qualified (Function number (OneType number NoType)) false false)
declared_putchar = record { entry = record { name = codes "putchar"; ty = Qualified (Function number (OneType number NoType)) false false }; there = (3, omega arith, refl); name_is = refl; agrees = inl refl }

typed_n : IsTyped tree [] of_n
unfolding IsTyped HasForm AreArguments
typed_n = (tt, declared_n)

typed_one : IsTyped tree [] (constant 1)
unfolding IsTyped HasForm AreArguments
typed_one = (tt, (omega arith, refl))

typed_zero : IsTyped tree [] (constant 48)
unfolding IsTyped HasForm AreArguments
typed_zero = (tt, (omega arith, refl))

typed_sum : (k : ℕ) → IsTyped tree [] (constant k) → IsTyped tree [] (sum k)
unfolding IsTyped HasForm AreArguments
typed_sum k is = (tt, (typed_n, is, inl (refl, refl, refl)))

typed_counting : IsTyped tree [] counting
unfolding IsTyped HasForm AreArguments
typed_counting =
    (tt, (typed_n, typed_sum 1 typed_one, record { lvalue = tt; assigned = inl tt; complete = refl; changing = refl }, refl, refl))

typed_bumped : IsTyped tree [] bumped
unfolding IsTyped HasForm AreArguments
typed_bumped = (tt, (nothing, NoType, declared_bump, inl refl, refl, tt))

typed_shown : IsTyped tree [] shown
unfolding IsTyped HasForm AreArguments
typed_shown = (tt, (number, OneType number NoType, declared_putchar, inr tt, refl, (typed_sum 48 typed_zero, tt, refl, tt)))

-- ---- its functions

of_none : {X : Type 0} (P : X → Type 0) → All P []
of_none P = All-from_recursion P [] tt

function_bump : IsFunction tree bump_tree
unfolding IsStatement AreStatements IsDistinct
function_bump = record {
  typed = record { result = nothing; params = NoType; type_is = refl; gives = inl refl; takes = tt; count = omega arith };
  locals = of_none _;
  labels = record { once = tt; below = of_none _; one_use = tt; used = of_none _; there = of_none _ };
  block = refl;
  body = (omega arith, omega arith, of_none _, (typed_counting, tt));
}

function_main : IsFunction tree main_tree
unfolding IsStatement AreStatements IsDistinct
function_main = record {
  typed = record { result = number; params = NoType; type_is = refl; gives = inr tt; takes = tt; count = omega arith };
  locals = of_none _;
  labels = record { once = tt; below = of_none _; one_use = tt; used = of_none _; there = of_none _ };
  block = refl;
  body = (omega arith, omega arith, of_none _, (typed_bumped, (typed_bumped, (typed_shown, ((typed_n, (number, NoType, refl, tt, refl)), tt)))));
}

-- ---- the module

global_n : IsGlobal tree n_tree
global_n = record { object = omega arith; known = tt; items = omega arith; declared = declared_n }

name_in : Symbol → List ℕ
name_in (External x) = x
name_in (Internal x) = x
name_in (Hidden k) = []

apart : (a b : List ℕ) → not (bytes_eq a b) ≡ true → External a ≢ External b
unfolding name_in
apart a b e same = differ a b e (ap name_in same)

no_pairs : {X : Type 0} (R : X → X → Type 0) → AllPairs R []
no_pairs R i j d lt within = absurd (omega (arith, lt, within))

-- each two of a list
pairs : {X : Type 0} (R : X → X → Type 0) (x : X) (xs : List X) → AllByRecursion (R x) xs → AllPairs R xs → AllPairs R (x ∷ xs)
pairs R x xs h rest = AllPairs-cons R x xs (All-from_recursion (R x) xs h) rest

abbrev OtherGlobal : GlobalValue → GlobalValue → Type 0
OtherGlobal g h = g.name ≢ h.name

abbrev OtherFunction : FunctionValue → FunctionValue → Type 0
OtherFunction f g = f.name ≢ g.name

abbrev OtherDeclared : DeclaredValue → DeclaredValue → Type 0
OtherDeclared d e = d.name ≢ e.name

well_typed : WellTyped tree
well_typed = record {
  laid = λ k c e. absurd cc;
  known = All-from_recursion (λ (d : DeclaredValue). IsKnownType [] (type_of d.ty)) tree.declared (tt, ((tt, tt), ((tt, tt), ((tt, (tt, tt)), tt))));
  globals = All-from_recursion (IsGlobal tree) tree.globals (global_n, tt);
  functions = All-from_recursion (IsFunction tree) tree.functions (function_bump, (function_main, tt));
  external = All-from_recursion (λ (f : FunctionValue). IsDeclaredIfExternal tree f.name f.ty) tree.functions (declared_bump, (declared_main, tt));
  one_global = pairs OtherGlobal n_tree [] tt (no_pairs OtherGlobal);
  one_function =
      pairs OtherFunction bump_tree (main_tree ∷ []) (apart (codes "bump") (codes "main") refl, tt)
      (pairs OtherFunction main_tree [] tt (no_pairs OtherFunction));
  one_kind =
      All-from_recursion (λ (g : GlobalValue). All (λ (f : FunctionValue). g.name ≢ f.name) tree.functions) tree.globals (
        All-from_recursion (λ (f : FunctionValue). n_tree.name ≢ f.name) tree.functions
            (apart (codes "n") (codes "bump") refl, (apart (codes "n") (codes "main") refl, tt)),
        tt,
      );
  one_declared =
      pairs OtherDeclared d_n (d_bump ∷ d_main ∷ d_putchar ∷ [])
      (differ (codes "n") (codes "bump") refl, (differ (codes "n") (codes "main") refl, (differ (codes "n") (codes "putchar") refl, tt)))
      (pairs OtherDeclared d_bump (d_main ∷ d_putchar ∷ [])
      (differ (codes "bump") (codes "main") refl, (differ (codes "bump") (codes "putchar") refl, tt))
      (pairs OtherDeclared d_main (d_putchar ∷ []) (differ (codes "main") (codes "putchar") refl, tt)
      (pairs OtherDeclared d_putchar [] tt (no_pairs OtherDeclared))));
}

-- ---- the program

turned : (a b : List ℕ) → Agree a b → Agree b a
turned a b (inl e) = inl (sym e)
turned a b (inr (inl g)) = inr (inr g)
turned a b (inr (inr g)) = inr (inl g)

-- what is declared as a function has the shape of the function that has the name
HasShape : DeclaredValue → Type 0
HasShape d = (f : Callable) → function_named in_c d.name ≡ Some f → shape_of [] (type_of d.ty) (is_volatile d.ty) ≡ f.shape

found : (name shape : List ℕ) → option_map (λ (f : Callable). f.shape) (function_named in_c name) ≡ Some shape
    → (f : Callable) → function_named in_c name ≡ Some f → shape ≡ f.shape
found name shape e f is = ap (λ o. unwrap_or o []) (sym e ∙ ap (option_map (λ (f : Callable). f.shape)) is)

no_function : (f : Callable) → function_named in_c (codes "n") ≡ Some f → ⊥
no_function f is = let none : function_named in_c (codes "n") ≡ None = refl in absurd cc

each : AllByRecursion HasShape tree.declared
unfolding HasShape
each = (
  (λ f is. absurd (no_function f is)),
  (
    found (codes "bump") (codes "fv") refl,
    (
      found (codes "main") (codes "fi") refl,
      (found (codes "putchar") (codes "fii") refl, tt),
    ),
  ),
)

agrees : (symbol : Symbol) (ty : QType) (f : Callable) → IsFunctionOf tree symbol ty
    → function_named in_c (full_name (codes "a") symbol) ≡ Some f → Agree (shape_of [] (type_of ty) (is_volatile ty)) f.shape
unfolding HasShape
agrees (External name) ty f d is =
    let named : function_named in_c d.entry.name ≡ Some f = ap (function_named in_c) d.name_is ∙ is in
    let own : HasShape d.entry = All-contains HasShape tree.declared d.entry (All-from_recursion HasShape tree.declared each) d.there in
    let same : shape_of [] (type_of d.entry.ty) (is_volatile d.entry.ty) ≡ f.shape = own f named in
    subst (λ s. Agree (shape_of [] (type_of ty) (is_volatile ty)) s) same
    (turned (shape_of [] (type_of d.entry.ty) (is_volatile d.entry.ty)) (shape_of [] (type_of ty) (is_volatile ty)) d.agrees)
agrees (Internal name) ty f d is =
    let none : function_named in_c (full_name (codes "a") (Internal name)) ≡ None = refl in absurd cc
agrees (Hidden k) ty f d is = absurd d

Agrees : ProgramModule → Type 0
Agrees m = (symbol : Symbol) (ty : QType) (f : Callable) → IsFunctionOf m.tree symbol ty
    → function_named in_c (full_name m.name symbol) ≡ Some f → Agree (shape_of m.tree.records (type_of ty) (is_volatile ty)) f.shape

pub well_typed_program : IsWellTyped in_c
unfolding Agrees
well_typed_program = record {
  modules = All-from_recursion (λ (m : ProgramModule). WellTyped m.tree) in_c.modules (well_typed, tt);
  functions = λ m c. All-contains Agrees in_c.modules m (All-from_recursion Agrees in_c.modules (agrees, tt)) c;
}
