-- Arguments that were converted, before those that are left; calls by what is called.
use Rattle.std.proofs.Common.{◌≡◌, ℕ, false, sym, Option, None, Some, List, [], ◌∷◌, ◌++◌, length, map, refl, ap, ◌+◌, ◌∙◌, arith}
use Rattle.pw_types.specs.TypeTrees.{CType, Void, Int, Pointer, Array, Function, Record, QType, NoType, type_of}
use Rattle.pw_types.specs.TypedTrees.{Expression, Expressions, NoExpression, OneExpression, Node, Symbol}
use Rattle.pw_types.specs.TypedTrees as T
use Rattle.pw_types.specs.Views.{view_types}
use Rattle.pw_types.specs.declared.ctype.QType.{QType as Typed}
use Rattle.pw_typed.specs.declared.tree.TExpr.{TExpr}
use Rattle.pw_typed.specs.Views.{view_expr, view_exprs}
use Rattle.pw_check_rules.specs.Kinds.{is_function, parameters_of, plain, result_of}
use Rattle.pw_check_rules.specs.Operators.{arguments_cast, call_node}
use Rattle.pw_check_rules.proofs.Booleans.{no}
use Rattle.pw_check_postfix.specs.Calls.{named_call, named_function, value_call}

abbrev pub put_before : List TExpr → Expressions → Expressions
put_before [] es = es
put_before (e ∷ made) es = OneExpression (view_expr e) (put_before made es)

pub put_push : (made : List TExpr) (e : TExpr) (es : Expressions) → put_before (made ++ e ∷ []) es ≡ put_before made (OneExpression (view_expr e) es)
put_push [] e es = refl
put_push (d ∷ made) e es = ap (OneExpression (view_expr d)) (put_push made e es)

pub put_end : (made : List TExpr) → put_before made NoExpression ≡ view_exprs made
put_end [] = refl
put_end (e ∷ made) = ap (OneExpression (view_expr e)) (put_end made)

-- an argument behind the last parameter stays as it is
pub cast_surplus : (made : List TExpr) (left : List Typed) (e : TExpr) (rest all : List TExpr) → left ≡ [] → all ≡ e ∷ rest
    → put_before (made ++ e ∷ []) (arguments_cast (view_types left) (map view_expr rest))
    ≡ put_before made (arguments_cast (view_types left) (map view_expr all))
cast_surplus made left e rest all none is =
    rw (none, is) (put_push made e (arguments_cast NoType (map view_expr rest)))

-- no argument is left
pub cast_end : (made : List TExpr) (left : List Typed) (rest : List TExpr) → rest ≡ []
    → put_before made (arguments_cast (view_types left) (map view_expr rest)) ≡ view_exprs made
cast_end made [] rest none = rw none (put_end made)
cast_end made (q ∷ left) rest none = rw none (put_end made)

pub length_behind : {X : Type 0} {n m : ℕ} (xs : List X) (x : X) (rest : List X) → xs ≡ x ∷ rest → m + 1 ≡ n → n ≡ length xs → m ≡ length rest
length_behind {X} {n} {m} xs x rest is more count = let all : n ≡ length (x ∷ rest) = count ∙ ap length is in omega arith

pub nothing_in : {X : Type 0} (xs : List X) → length xs ≡ 0 → xs ≡ []
nothing_in [] h = refl
nothing_in (x ∷ xs) h = absurd (omega arith)

abbrev pub call_of : Option (Symbol × QType) → ℕ → Expression → List Expression → Expression
call_of (Some f) t e es = named_call t f.0 (type_of f.1) es
call_of None t e es = value_call t e es

pub call_by : (t : ℕ) (e : Expression) (es : List Expression) → call_node t e es ≡ call_of (named_function e) t e es
call_by t (Node u q (T.Decay (Node w p (T.Function symbol)))) es = refl
call_by t (Node u q form) es = refl

-- what no function takes and returns
pub no_parameters : (ty : CType) → is_function ty ≡ false → parameters_of ty ≡ NoType
no_parameters Void h = refl
no_parameters (Int kind) h = refl
no_parameters (Pointer q) h = refl
no_parameters (Array q n) h = refl
no_parameters (Function q ps) h = no (sym h)
no_parameters (Record n) h = refl

pub no_result : (ty : CType) → is_function ty ≡ false → result_of ty ≡ plain ty
no_result Void h = refl
no_result (Int kind) h = refl
no_result (Pointer q) h = refl
no_result (Array q n) h = refl
no_result (Function q ps) h = no (sym h)
no_result (Record n) h = refl
