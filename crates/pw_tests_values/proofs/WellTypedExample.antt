-- A module that is well typed: `int f(int n) { for (;;) { if (n) break; n = n + 1; } return n; }`.
use Rattle.std.proofs.Common.{◌≡◌, ◌≢◌, ℕ, zero, suc, ◌<◌, ◌≤◌, inl, inr, Bool, true, false, List, [], ◌∷◌, Option, None, Some, refl, arith, lit≤, All, Contains}
use Rattle.std.specs.List.{IsDistinct}
use Rattle.pw_types.specs.declared.kind.IntKind.TheVariants as K
use Rattle.pw_types.specs.declared.tree.BinaryOperator.TheVariants as B
use Rattle.pw_types.specs.TypeTrees.{CType, Int, Function, QType, Qualified, QTypes, NoType, OneType, type_of}
use Rattle.pw_types.specs.TypedTrees as T
use Rattle.pw_types.specs.TypedTrees.{Symbol, External, Expression, Node, Statement, NoStatement, OneStatement, Arm, NoArm, NoElse, LocalValue, FunctionValue, DeclaredValue, ModuleValue}
use Rattle.pw_types.specs.WellTyped.{IsTyped, IsKnownType}
use Rattle.pw_types.specs.Records.{IsObjectType}
use Rattle.pw_types.specs.TypedModules.{IsStatement, IsFunction, WellTyped}

abbrev int : QType
int = Qualified (Int K.Int) false false

abbrev n : Expression
n = Node 9 int (T.Local 0)

abbrev more : Expression
more = Node 14 int (T.Assign n (Node 16 int (T.Binary B.Add n (Node 17 int (T.Number 1)))))

abbrev turn : Statement
turn =
    T.Block 8 1 0 [] (OneStatement (T.If 9 (Arm 9 n (T.Break 13) NoArm) NoElse) (OneStatement (T.Evaluate 14 more) NoStatement))

abbrev body : Statement
body =
    T.Block 7 1 0 [] (OneStatement (T.For 8 None None None turn) (OneStatement (T.Return 20 (Some n)) NoStatement))

abbrev type : QType
type = Qualified (Function int (OneType int NoType)) false false

abbrev f : FunctionValue
f = record { name = External (102 ∷ []); token = 2; ty = type; params = 1; locals = record { name = 110 ∷ []; ty = int; writable = true } ∷ []; labels = 0; named = []; body = body }

abbrev m : ModuleValue
m = record { records = []; globals = []; functions = f ∷ []; declared = record { name = 102 ∷ []; ty = type } ∷ [] }

n-typed : IsTyped m f.locals n
unfolding IsTyped
n-typed = (tt, (record { name = 110 ∷ []; ty = int; writable = true }, refl, refl))

one-typed : IsTyped m f.locals (Node 17 int (T.Number 1))
unfolding IsTyped
one-typed = (tt, (lit≤ tt, refl))

sum-typed : IsTyped m f.locals (Node 16 int (T.Binary B.Add n (Node 17 int (T.Number 1))))
unfolding IsTyped
sum-typed = (tt, (n-typed, one-typed, inl (refl, refl, refl)))

more-typed : IsTyped m f.locals more
unfolding IsTyped
more-typed = (tt, (n-typed, sum-typed, record { lvalue = tt; assigned = inl tt; complete = refl; changing = refl }, refl, refl))

body-typed : IsStatement m f false false 1 body
unfolding IsStatement
body-typed = (
  lit≤ tt,
  lit≤ tt,
  λ k d below. absurd (omega arith),
  (
    (tt, tt, tt, (lit≤ tt, lit≤ tt, (λ k d below. absurd (omega arith)), ((refl, ((n-typed, tt), refl, tt), tt), (more-typed, tt)))),
    ((n-typed, (int, OneType int NoType, refl, tt, refl)), tt),
  ),
)

f-typed : IsFunction m f
unfolding IsDistinct
f-typed =
    record {
      typed = record { result = int; params = OneType int NoType; type_is = refl; gives = inr tt; takes = (tt, refl, tt); count = lit≤ tt };
      locals = one;
      labels = record {
        once = tt;
        below = λ k d below. absurd (omega arith);
        one_use = tt;
        used = λ k d below. absurd (omega arith);
        there = λ k d below. absurd (omega arith);
      };
      block = refl;
      body = body-typed;
    }
  where
    one : All (λ (l : LocalValue). IsObjectType m.records (type_of l.ty) × IsKnownType m.records (type_of l.ty)) f.locals
    one zero d below = (lit≤ tt, tt)
    one (suc k) d below = absurd (omega arith)
