-- Nodes that are made only where a list is not empty, and the level of chains.
use Rattle.std.proofs.Common.{◌≡◌, false, nat_le, nat_eq, length, List, [], ◌∷◌, refl, sym, ap, ◌∙◌, arith}
use Rattle.std.proofs.lemmas.Bool.Decides.{nat_tests}
use Rattle.std.specs.declared.alloc.Global.{Global}
use Rattle.std.specs.declared.boxed.Box.{Box}
use Rattle.std.specs.declared.vec.Vec.{Vec}
use Rattle.pw_tree.specs.Levels.{level, chain_level, binary_level, unary}
use Rattle.pw_tree.specs.Trees as tree
use Rattle.pw_tree.specs.Views.{view_expr, view_postfixes, view_operations}
use Rattle.pw_tree.specs.declared.expr.Expr.{Expr}
use Rattle.pw_tree.specs.declared.expr.Expr as expr
use Rattle.pw_tree.specs.declared.expr.Operation.{Operation}
use Rattle.pw_tree.specs.declared.expr.PostfixOperation.{PostfixOperation}
use Rattle.pw_tree.specs.declared.expr.PostfixOperation as postfix
use Rattle.pw_tree.specs.declared.operator.BinaryOperator.{BinaryOperator}
use Rattle.pw_tree.specs.declared.operator.BinaryOperator.TheVariants as binary
use Rattle.pw_parse_grammar.specs.Expressions.{with_postfixes, with_operations}

some_postfixes : (e : tree.Expr) (ps : List PostfixOperation) → (length ps ≡ 0 → ⊥) → tree.Postfix e (view_postfixes ps) ≡ with_postfixes e (view_postfixes ps)
unfolding view_expr
some_postfixes e [] some = absurd (some refl)
some_postfixes e (postfix.Index n x ∷ ps) some = refl
some_postfixes e (postfix.Call' n l es ∷ ps) some = refl
some_postfixes e (postfix.Member n a w ∷ ps) some = refl
some_postfixes e (postfix.Step n op ∷ ps) some = refl

some_operations : (e : tree.Expr) (os : List Operation) → (length os ≡ 0 → ⊥) → tree.Chain e (view_operations os) ≡ with_operations e (view_operations os)
some_operations e [] some = absurd (some refl)
some_operations e (o ∷ os) some = refl

pub postfix_made : ((b : Box Expr Global) (ps : Vec PostfixOperation Global) → view_expr (expr.Postfix b ps) ≡ tree.Postfix (view_expr b.value) (view_postfixes ps.items))
    → (b : Box Expr Global) (ps : Vec PostfixOperation Global) → (length ps.items ≡ 0 → ⊥) → view_expr (expr.Postfix b ps) ≡ with_postfixes (view_expr b.value) (view_postfixes ps.items)
postfix_made law b ps some = law b ps ∙ some_postfixes (view_expr b.value) ps.items some

-- what a chain shows
abbrev ChainShown : Type 0
ChainShown = (b : Box Expr Global) (os : Vec Operation Global) → view_expr (expr.Chain b os) ≡ tree.Chain (view_expr b.value) (view_operations os.items)

pub chain_made : ChainShown → (b : Box Expr Global) (os : Vec Operation Global) → (length os.items ≡ 0 → ⊥) → view_expr (expr.Chain b os) ≡ with_operations (view_expr b.value) (view_operations os.items)
chain_made law b os some = law b os ∙ some_operations (view_expr b.value) os.items some

above_unary : (op : BinaryOperator) → nat_le (binary_level op) unary ≡ false
above_unary binary.Multiply = refl
above_unary binary.Divide = refl
above_unary binary.Remainder = refl
above_unary binary.Add = refl
above_unary binary.Subtract = refl
above_unary binary.LeftShift = refl
above_unary binary.RightShift = refl
above_unary binary.Less = refl
above_unary binary.Greater = refl
above_unary binary.LessEqual = refl
above_unary binary.GreaterEqual = refl
above_unary binary.Equal = refl
above_unary binary.NotEqual = refl
above_unary binary.BitAnd = refl
above_unary binary.BitXor = refl
above_unary binary.BitOr = refl
above_unary binary.And = refl
above_unary binary.Or = refl
above_unary binary.Comma = refl

is_none : (os : List Operation) → nat_eq (length os) 0 ≡ nat_le (chain_level (view_operations os)) unary
is_none [] = refl
is_none (o ∷ os) = let e : nat_eq (length (o ∷ os)) 0 ≡ false = grind (arith, nat_tests) in e ∙ sym (above_unary o.operator)

pub chain_is_unary : ChainShown → (b : Box Expr Global) (os : Vec Operation Global) → nat_eq (length os.items) 0 ≡ nat_le (level (view_expr (expr.Chain b os))) unary
chain_is_unary law b os = is_none os.items ∙ ap (λ e. nat_le (level e) unary) (sym (law b os))
