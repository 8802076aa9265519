-- What the rule of an expression's form does, call by call.
use Rattle.std.specs.Prelude.{◌≡◌, ◌⊎◌, ℕ, None, List}
use mathlib.Core.Logic.{inl, inr}
use Rattle.std.proofs.Common.{ap, sym, ◌∙◌}
use Rattle.pw_tree.specs.declared.operator.AssignOperator.{AssignOperator}
use Rattle.pw_tree.specs.declared.operator.UnaryOperator.{UnaryOperator}
use Rattle.pw_tree.specs.declared.operator.UnaryOperator.TheVariants as P
use Rattle.pw_tree.specs.Trees.{Declarator, Expr, Specifiers}
use Rattle.pw_tree.specs.Trees as S
use Rattle.pw_tree.specs.Views.{view_specifiers}
use Rattle.pw_tree.specs.declared.expr.Specifier.{Specifier}
use Rattle.pw_check_walk.specs.Walks.{Done, bind, ◌>>=◌}
use Rattle.pw_check_walk.proofs.CallLaws.{bind_assoc}
use Rattle.pw_check_rules.specs.Declarations.{specified_rule}
use Rattle.pw_check_rules.specs.Operators.{assignment_rule, cast_rule, conditional_rule, deref_rule, type_size_rule}
use Rattle.pw_check_rules.specs.Derivations.{spot_of}
use Rattle.pw_check_rules.specs.Leaves.{first_of_declaration, named_type}
use Rattle.pw_check_rules.specs.Operands.{Operand}
use Rattle.pw_check_rules.specs.Phrases.{declarator_rule, expr_rule, specifiers_rule}
use Rattle.pw_check_rules.specs.SpecifierLists.{nothing_gathered, specified}
use Rattle.pw_check_rules.specs.States.{Rule, State, uncounted}
use Rattle.pw_check_rules.specs.Statements.{whole_rule}
use Rattle.pw_check_primary.specs.Named.{named_rule, sized_rule}
use Rattle.pw_check_primary.specs.Turns.{sign_of}

pub dereference_form : (t : ℕ) (e : Expr) (s : State)
    → expr_rule (S.Unary t P.Dereference e) s ≡ bind (whole_rule e s) (λ x. deref_rule t x.0 x.1)
unfolding expr_rule whole_rule
dereference_form t e s = simp bind_assoc

plus_form : (t : ℕ) (e : Expr) (s : State) → expr_rule (S.Unary t P.Plus e) s ≡ sign_of t P.Plus e s
unfolding expr_rule whole_rule
plus_form t e s = simp bind_assoc

minus_form : (t : ℕ) (e : Expr) (s : State) → expr_rule (S.Unary t P.Minus e) s ≡ sign_of t P.Minus e s
unfolding expr_rule whole_rule
minus_form t e s = simp bind_assoc

complement_form : (t : ℕ) (e : Expr) (s : State) → expr_rule (S.Unary t P.Complement e) s ≡ sign_of t P.Complement e s
unfolding expr_rule whole_rule
complement_form t e s = simp bind_assoc

not_form : (t : ℕ) (e : Expr) (s : State) → expr_rule (S.Unary t P.Not e) s ≡ sign_of t P.Not e s
unfolding expr_rule whole_rule
not_form t e s = simp bind_assoc

-- the same operator by another name
renamed : (t : ℕ) (a b : UnaryOperator) (e : Expr) (s : State) → a ≡ b
    → expr_rule (S.Unary t b e) s ≡ sign_of t b e s → expr_rule (S.Unary t a e) s ≡ sign_of t a e s
renamed t a b e s is form = ap (λ op. expr_rule (S.Unary t op e) s) is ∙ form ∙ ap (λ op. sign_of t op e s) (sym is)

pub sign_form : (t : ℕ) (op : UnaryOperator) (e : Expr) (s : State)
    → (op ≡ P.Plus) ⊎ (op ≡ P.Minus) ⊎ (op ≡ P.Complement) ⊎ (op ≡ P.Not)
    → expr_rule (S.Unary t op e) s ≡ sign_of t op e s
sign_form t op e s (inl is) = renamed t op P.Plus e s is (plus_form t e s)
sign_form t op e s (inr (inl is)) = renamed t op P.Minus e s is (minus_form t e s)
sign_form t op e s (inr (inr (inl is))) = renamed t op P.Complement e s is (complement_form t e s)
sign_form t op e s (inr (inr (inr is))) = renamed t op P.Not e s is (not_form t e s)

pub conditional_form : (t : ℕ) (c a b : Expr) (s : State)
    → expr_rule (S.Conditional t c a b) s
    ≡ bind (whole_rule c s) (λ u. bind (whole_rule a u.1) (λ v. bind (whole_rule b v.1) (λ w. conditional_rule t u.0 v.0 w.0 w.1)))
unfolding expr_rule whole_rule
conditional_form t c a b s = simp bind_assoc

pub assign_form : (t : ℕ) (op : AssignOperator) (a b : Expr) (s : State)
    → expr_rule (S.Assign t op a b) s ≡ bind (expr_rule a s) (λ x. bind (whole_rule b x.1) (λ v. assignment_rule t op x.0 v.0 v.1))
unfolding expr_rule whole_rule
assign_form t op a b s = simp bind_assoc

pub cast_form : (t : ℕ) (specifiers : Specifiers) (d : Declarator) (e : Expr) (s : State)
    → expr_rule (S.Cast t specifiers d e) s
    ≡ bind (named_rule specifiers d s) (λ n. bind (whole_rule e n.1) (λ x. cast_rule t n.0.ty x.0 x.1))
unfolding expr_rule whole_rule named_rule specified_rule bind
cast_form t specifiers d e s = simp bind_assoc

-- the same within, where it is not counted
abbrev pub sized_inner : ℕ → Specifiers → Declarator → Rule Operand
sized_inner t specifiers d =
    specifiers_rule specifiers (first_of_declaration specifiers d) nothing_gathered >>= λ g.
    specified (first_of_declaration specifiers d) g >>= λ b.
    declarator_rule d >>= λ c.
    named_type b c >>= λ q.
    type_size_rule t (spot_of None b.first b.tag) q

sized_form : (t : ℕ) (specifiers : Specifiers) (d : Declarator) (s : State)
    → sized_inner t specifiers d s ≡ sized_rule t specifiers d s
unfolding named_rule specified_rule bind
sized_form t specifiers d s = simp bind_assoc

pub sizeof_type_form : (t : ℕ) (specifiers : Specifiers) (d : Declarator) (s : State)
    → expr_rule (S.SizeofType t specifiers d) s ≡ uncounted (sized_rule t specifiers d) s
unfolding expr_rule
sizeof_type_form t specifiers d s = λ j. uncounted (λ r. sized_form t specifiers d r j) s

-- a type name, by its list of specifiers and the first token of all
pub named_form : (specifiers found : List Specifier) (d : Declarator) (first : ℕ) (s : State)
    → found ≡ specifiers → first ≡ first_of_declaration (view_specifiers found) d
    → named_rule (view_specifiers specifiers) d s
    ≡ bind (specified_rule (view_specifiers found) first s) (λ b. bind (declarator_rule d b.1) (λ c. bind (named_type b.0 c.0 c.1) (λ q.
    Done (record { spot = spot_of None b.0.first b.0.tag; ty = q.0 }, q.1))))
unfolding named_rule
named_form specifiers found d first s same is =
    ap (λ l. named_rule (view_specifiers l) d s) (sym same)
    ∙ ap (λ n. bind (specified_rule (view_specifiers found) n s) (λ b. bind (declarator_rule d b.1) (λ c. bind (named_type b.0 c.0 c.1) (λ q.
    Done (record { spot = spot_of None b.0.first b.0.tag; ty = q.0 }, q.1))))) (sym is)
