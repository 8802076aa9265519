-- The rules of labels, in the order in which the code has their parts.
use Rattle.std.proofs.Common.{◌≡◌, ℕ, List, [], ◌∷◌, refl, ap, sym, ◌∙◌}
use Rattle.pw_tree.specs.FirstTokens.{first_of_expr}
use Rattle.pw_tree.specs.Trees.{CaseLabel, Expr}
use Rattle.pw_tree.specs.Views.{view_label, view_labels}
use Rattle.pw_tree.specs.declared.stmt.Label.{Label}
use Rattle.pw_types.specs.TypedTrees.{Expression}
use Rattle.pw_check_walk.specs.Walks.{Walk, Done, bind}
use Rattle.pw_check_walk.proofs.CallLaws.{bind_assoc}
use Rattle.pw_check_rules.specs.Phrases.{expr_rule}
use Rattle.pw_check_rules.specs.Operators.{value_rule}
use Rattle.pw_check_rules.specs.States.{State}
use Rattle.pw_check_rules.specs.Statements.{case_rule, inside_switch, label_rule, labels_rule, whole_rule}
use Rattle.pw_check_labels.specs.Gathered.{gathered}
use Rattle.pw_check_labels.proofs.Gathering.{behind_one}

-- an expression, and its value, and what follows
pub whole_then : {B : Type 0} (e : Expr) (s : State) (next : Expression × State → Walk (B × State))
    → bind (expr_rule e s) (λ a. bind (value_rule a.0 a.1) next) ≡ bind (whole_rule e s) next
unfolding whole_rule
whole_then e s next = sym (bind_assoc (expr_rule e s) (λ a. value_rule a.0 a.1) next)

pub case_split : (t : ℕ) (e : Expr) (s : State)
    → label_rule (CaseLabel t e) s ≡ bind (inside_switch t s) (λ u. bind (whole_rule e u.1) (λ x. case_rule (first_of_expr e) x.0 x.1))
unfolding label_rule
case_split t e s =
    bind_assoc (inside_switch t s) (λ u. expr_rule e u.1) (λ a. bind (value_rule a.0 a.1) (λ x. case_rule (first_of_expr e) x.0 x.1))
    ∙ ap (bind (inside_switch t s)) (λ j u. whole_then e u.1 (λ x. case_rule (first_of_expr e) x.0 x.1) j)

-- ---- lists of labels

pub labels_more : (x : Label) (xs : List Label) (s : State)
    → labels_rule (view_labels (x ∷ xs)) s ≡ bind (label_rule (view_label x) s) (λ t. behind_one ◌∷◌ t.0 (labels_rule (view_labels xs) t.1))
unfolding labels_rule
labels_more x xs s = refl

pub labels_none : (s : State) → labels_rule [] s ≡ Done ([], s)
unfolding labels_rule
labels_none s = refl

pub all_numbers : (xs : List ℕ) → gathered ◌∷◌ xs [] ≡ xs
all_numbers [] = refl
all_numbers (x ∷ xs) = ap (λ ys. x ∷ ys) (all_numbers xs)
