-- What stands in a list within an expression: the first item, and then those behind it.
use Rattle.std.specs.Prelude.{◌≡◌, Result, Ok, List, [], ◌∷◌, ◌++◌, map, refl}
use Rattle.std.specs.declared.alloc.Global.{Global}
use Rattle.std.specs.declared.boxed.Box.{Box}
use Rattle.std.proofs.Common.{ap, sym, ◌∙◌}
use Rattle.std.proofs.lemmas.List.{append-nil, append_assoc, map-append}
use Rattle.pw_tree.specs.declared.expr.Expr.{Expr}
use Rattle.pw_tree.specs.declared.expr.Operation.{Operation}
use Rattle.pw_tree.specs.declared.expr.PostfixOperation.{PostfixOperation}
use Rattle.pw_tree.specs.declared.expr.PostfixOperation as postfix
use Rattle.pw_tree.specs.declared.operator.Access.TheVariants.{Dot, Arrow}
use Rattle.pw_tree.specs.declared.operator.StepOperator.TheVariants as J
use Rattle.pw_tree.specs.Trees as S
use Rattle.pw_tree.specs.Views.{view_arguments, view_expr, view_operations, view_postfix, view_postfixes}
use Rattle.pw_typed.specs.Views.{view_expr as view_value}
use Rattle.pw_typed.specs.declared.tree.TExpr.{TExpr}
use Rattle.pw_types.specs.TypedTrees.{Expression}
use Rattle.pw_check_walk.specs.Walks.{Walk, Done, Passing, Closed, bind, outcome}
use Rattle.pw_check_walk.proofs.BindLaws.{bind_made}
use Rattle.pw_check_walk.proofs.CallLaws.{bind_assoc, made_by}
use Rattle.pw_check_walk.specs.Calls.{Obeys}
use Rattle.pw_check_walk.specs.declared.constraints.CheckFault.{CheckFault}
use Rattle.pw_check_state.specs.Views.{view_node}
use Rattle.pw_check_rules.specs.Operands.{Operand}
use Rattle.pw_check_rules.specs.Phrases.{arguments_rule, operations_rule, postfixes_rule}
use Rattle.pw_check_rules.specs.States.{Rule, State}
use Rattle.pw_check_rules.specs.Statements.{whole_rule}
use Rattle.pw_check_primary.specs.Turns.{first_postfix, one_argument, one_operation, values_behind}

-- ---- chains of operators

abbrev pub of_operation : Operation → List Operation → Operand → Rule Operand
of_operation o rest a = one_operation o.token o.operator (view_expr o.operand) a

abbrev pub along_operations : List Operation → Operand → Rule Operand
along_operations os a = operations_rule (view_operations os) a

pub operations_split : (o : Operation) (os : List Operation) (a : Operand) (s : State)
    → along_operations (o ∷ os) a s ≡ bind (of_operation o os a s) (λ t. along_operations os t.0 t.1)
unfolding operations_rule whole_rule
operations_split o os a s = simp bind_assoc

pub no_operations : (a : Operand) (s : State) → outcome (along_operations [] a s) ≡ Ok (a, s)
unfolding operations_rule outcome
no_operations a s = refl

-- ---- what stands behind a primary expression

abbrev pub of_postfix : PostfixOperation → List PostfixOperation → Operand → Rule Operand
of_postfix p rest a = first_postfix (view_postfix p S.NoPostfix) a

abbrev pub along_postfixes : List PostfixOperation → Operand → Rule Operand
along_postfixes ps a = postfixes_rule (view_postfixes ps) a

pub postfixes_split : (p : PostfixOperation) (ps : List PostfixOperation) (a : Operand) (s : State)
    → along_postfixes (p ∷ ps) a s ≡ bind (of_postfix p ps a s) (λ t. along_postfixes ps t.0 t.1)
unfolding postfixes_rule first_postfix whole_rule view_expr
postfixes_split (postfix.Index t e) ps a s = simp bind_assoc
postfixes_split (postfix.Call' t l es) ps a s = simp bind_assoc
postfixes_split (postfix.Member t Dot w) ps a s = refl
postfixes_split (postfix.Member t Arrow w) ps a s = simp bind_assoc
postfixes_split (postfix.Step t J.Increment) ps a s = refl
postfixes_split (postfix.Step t J.Decrement) ps a s = refl

pub no_postfixes : (a : Operand) (s : State) → outcome (along_postfixes [] a s) ≡ Ok (a, s)
unfolding postfixes_rule outcome
no_postfixes a s = refl

-- ---- arguments

abbrev pub of_argument : Expr → List Expr → List Expression → Rule (List Expression)
of_argument e rest vs = one_argument (view_expr e) vs

abbrev pub along_arguments : List Expr → List Expression → Rule (List Expression)
along_arguments es vs = values_behind vs (view_arguments es)

bind_pure : {A : Type 0} (w : Walk A) → bind w (λ t. Done t) ≡ w
unfolding bind
bind_pure (Done a) = refl
bind_pure (Passing p rest) = ap (Passing p) (bind_pure rest)
bind_pure (Closed constraint token) = refl

pub all_arguments : (es : List Expr) (s : State) → arguments_rule (view_arguments es) s ≡ along_arguments es [] s
all_arguments es s = sym (bind_pure (arguments_rule (view_arguments es) s))

pub arguments_split : (e : Expr) (es : List Expr) (vs : List Expression) (s : State)
    → along_arguments (e ∷ es) vs s ≡ bind (of_argument e es vs s) (λ t. along_arguments es t.0 t.1)
unfolding arguments_rule whole_rule bind
arguments_split e es vs s = simp (bind_assoc, append_assoc)

pub no_arguments : (vs : List Expression) (s : State) → outcome (along_arguments [] vs s) ≡ Ok (vs, s)
unfolding arguments_rule outcome bind
no_arguments vs s = ap (λ v. Ok (v, s)) (append-nil vs)

-- the value of an argument behind those of the others
pub argument_made : {first : Result (Box TExpr Global) CheckFault} (e : Expr) (rest : List Expr) (vs more : List TExpr) (node : Box TExpr Global) (s mid : State)
    → Obeys view_node (whole_rule (view_expr e) s) first mid → first ≡ Ok node → more ≡ vs ++ node.value ∷ []
    → outcome (of_argument e rest (map view_value vs) s) ≡ Ok (map view_value more, mid)
unfolding outcome
argument_made e rest vs more node s mid o ok is =
    bind_made (whole_rule (view_expr e) s) (λ t. Done (map view_value vs ++ t.0 ∷ [], t.1)) (view_node node, mid) (made_by o ok)
    ∙ ap (λ ys. Ok (ys, mid)) (sym (ap (map view_value) is ∙ map-append view_value vs (node.value ∷ [])))
