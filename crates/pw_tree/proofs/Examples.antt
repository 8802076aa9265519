-- Small texts, and what the definitions say of them.
use Rattle.std.proofs.Common.{◌≡◌, ℕ, ◌<◌, ◌≤◌, true, false, List, [], ◌∷◌, codes, None, refl, lit<, arith}
use Rattle.pw_tree.specs.Numbering.{Numbered, NumberedDecl}
use Rattle.pw_tree.specs.Scopes.{Env, is_typedef_name, after_expr}
use Rattle.pw_tree.specs.Spelling.{spell_expr, spell_decl}
use Rattle.pw_tree.specs.Symbols as symbol
use Rattle.pw_tree.specs.Trees as t
use Rattle.pw_tree.specs.WellFormed.{WellFormed, WellFormedDecl, WellFormedStmt, WellFormedDeclarator, Named, Either}
use Rattle.pw_tree.specs.declared.operator.AssignOperator.TheVariants as assign
use Rattle.pw_tree.specs.declared.operator.BinaryOperator.TheVariants as binary
use Rattle.pw_token.specs.declared.symbol.Mark.TheVariants as m

-- T is visible as a typedef name
abbrev with_t : Env
with_t = record { name = codes "T"; is_typedef = true } ∷ []

abbrev x : t.Expr
x = t.Identifier (record { token = 1; text = codes "x" })

abbrev plain_name : ℕ → List ℕ → t.Declarator
plain_name n s = t.Declaring [] (t.Name (record { token = n; text = s })) t.NoSuffix

-- ---- `x - x - x` is one list of two operators, and a list that holds another of its level is refused

abbrev two_minus : t.Expr
two_minus = t.Chain x (t.Operation 2 binary.Subtract x (t.Operation 4 binary.Subtract x t.NoOperation))

two_minus_spelled : spell_expr two_minus [] ≡
    symbol.Identifier (codes "x") ∷ symbol.Sign m.Minus ∷ symbol.Identifier (codes "x") ∷ symbol.Sign m.Minus ∷ symbol.Identifier (codes "x") ∷ []
unfolding spell_expr
two_minus_spelled = refl

two_minus_well_formed : WellFormed [] two_minus
unfolding WellFormed after_expr
two_minus_well_formed = (lit< tt, refl, (refl, lit< tt, refl, (refl, lit< tt, refl, tt)))

minus_to_the_right : WellFormed [] (t.Chain x (t.Operation 2 binary.Subtract (t.Chain x (t.Operation 4 binary.Subtract x t.NoOperation)) t.NoOperation)) → ⊥
unfolding WellFormed
minus_to_the_right h = not_less h.2.1
  where
    not_less : 5 < 5 → ⊥
    not_less e = omega arith

-- ---- `x + x = x` has no tree of this form: the left side of an assignment is no sum

sum_assigned : WellFormed [] (t.Assign 4 assign.Plain (t.Chain x (t.Operation 2 binary.Add x t.NoOperation)) x) → ⊥
unfolding WellFormed
sum_assigned h = not_below h.0
  where
    not_below : 5 ≤ 2 → ⊥
    not_below e = omega arith

-- ---- `if (x) if (x) ; else ;`: the `else` is not the outer one's

else_to_outer : WellFormedStmt [] (t.If 1 x (t.If 5 x (t.Empty 9) t.NoElse) (t.Otherwise (t.Empty 11))) → ⊥
unfolding WellFormedStmt
else_to_outer h = cc

-- ---- `T * x;` declares x where T is a typedef name, and else is a product

abbrev declares_x : t.Decl
declares_x = record {
  specifiers = t.TypedefName (record { token = 1; text = codes "T" }) t.NoSpecifier;
  declarators = record { declarator = t.Declaring (record { token = 2; qualifiers = [] } ∷ []) (t.Name (record { token = 3; text = codes "x" })) t.NoSuffix; initializer = None } ∷ [];
}

declares_x_spelled : spell_decl declares_x [] ≡ symbol.Identifier (codes "T") ∷ symbol.Sign m.Star ∷ symbol.Identifier (codes "x") ∷ symbol.Sign m.Semicolon ∷ []
unfolding spell_expr
declares_x_spelled = refl

declares_x_well_formed : WellFormedDecl with_t declares_x
unfolding WellFormed after_expr
declares_x_well_formed = (tt, (refl, refl, tt), ((refl, tt), tt, tt))

declares_x_numbered : NumberedDecl 1 declares_x
unfolding Numbered spell_expr
declares_x_numbered = ((refl, tt), (((refl, tt), refl, tt), tt, tt))

product_of_a_type : WellFormed with_t (t.Chain (t.Identifier (record { token = 1; text = codes "T" })) (t.Operation 2 binary.Multiply x t.NoOperation)) → ⊥
unfolding WellFormed
product_of_a_type h = cc

-- ---- `int T;` declares T anew, and `const T;` does not: there T is the type

redeclares : WellFormedDeclarator with_t true Named (plain_name 2 (codes "T"))
unfolding WellFormed
redeclares = (refl, tt)

no_type_before : WellFormedDeclarator with_t false Named (plain_name 2 (codes "T")) → ⊥
unfolding WellFormed
no_type_before h = cc

-- ---- in `f(int (T))` the parameter is a function that takes T, and not a T in parentheses

name_in_parentheses : WellFormedDeclarator with_t true Either (t.Declaring [] (t.Enclosed 4 (plain_name 5 (codes "T"))) t.NoSuffix) → ⊥
unfolding WellFormed
name_in_parentheses h = cc

-- ---- `sizeof(enum { T })` hides the typedef name T in the rest of its scope

hidden_inside : is_typedef_name (after_expr with_t (t.SizeofType 1 (t.Enum 3 None (t.PlainEnumerator (record { token = 5; text = codes "T" }) t.NoEnumerator) t.NoSpecifier) (t.Declaring [] t.Absent t.NoSuffix))) (codes "T") ≡ false
unfolding after_expr
hidden_inside = refl
