-- The rules of `if`, in the order in which the code has their parts.
use Rattle.std.proofs.Common.{◌≡◌, ℕ, List, [], ◌∷◌, refl, ap, sym, ◌∙◌}
use Rattle.pw_tree.specs.Trees as S
use Rattle.pw_tree.specs.Trees.{Alternative, Expr}
use Rattle.pw_tree.specs.Views.{view_else_ifs, view_expr, view_stmt}
use Rattle.pw_tree.specs.declared.stmt.ElseIf.{ElseIf}
use Rattle.pw_types.specs.TypedTrees as T
use Rattle.pw_typed.specs.Views as typed
use Rattle.pw_typed.specs.declared.tree.Arm.{Arm}
use Rattle.pw_check_walk.specs.Walks.{Done, bind}
use Rattle.pw_check_walk.proofs.CallLaws.{bind_assoc, bind_done}
use Rattle.pw_check_rules.specs.States.{State}
use Rattle.pw_check_rules.specs.Statements.{Behind, arms_behind, alternative_rule, stmt_rule}
use Rattle.pw_check_labels.specs.Gathered.{gathered}
use Rattle.pw_check_labels.proofs.Gathering.{behind_one}
use Rattle.pw_check_choice.specs.Parts.{OneArm, alternative_after, arm_rule, with_arm}
use Rattle.pw_check_choice.specs.Views.{view_arm, view_arm_list, view_behind}
use Rattle.pw_check_choice.specs.declared.branches.Behind.{Behind as Made}
use Rattle.pw_typed.proofs.Rows.{if_view}
use Rattle.pw_typed.specs.Views.{view_stmt_form}
use Rattle.pw_typed.specs.declared.tree.TStmtForm as TStmtForm

pub arms_more : (a : Alternative) (x : ElseIf) (xs : List ElseIf) (s : State)
    → alternative_rule (view_else_ifs (x ∷ xs) a) s
    ≡ bind (arm_rule x.token (view_expr x.condition) (view_stmt x.chosen) s) (λ t. behind_one with_arm t.0 (alternative_rule (view_else_ifs xs a) t.1))
unfolding stmt_rule arm_rule
arms_more a x xs s = simp (bind_assoc, bind_done)

pub all_arms : (xs : List Arm) (o : T.Otherwise)
    → gathered with_arm (view_arm_list xs) (arms_behind T.NoArm o) ≡ arms_behind (typed.view_arms xs) o
all_arms [] o = refl
all_arms (x ∷ xs) o = ap (with_arm (view_arm x)) (all_arms xs o)

pub none_after : (arms : List OneArm) (s : State) → alternative_after arms S.NoElse s ≡ Done (gathered with_arm arms (arms_behind T.NoArm T.NoElse), s)
unfolding alternative_after stmt_rule
none_after arms s = bind_done _ _

pub otherwise_after : (arms : List OneArm) (x : S.Stmt) (s : State)
    → alternative_after arms (S.Otherwise x) s ≡ bind (stmt_rule x s) (λ t. Done (gathered with_arm arms (arms_behind T.NoArm (T.Else t.0)), t.1))
unfolding alternative_after stmt_rule
otherwise_after arms x s = simp (bind_assoc, bind_done)

-- an `if` is its first arm, and then what stands behind it
pub if_split : (t : ℕ) (c : Expr) (x : S.Stmt) (a : Alternative) (s : State)
    → stmt_rule (S.If t c x a) s
    ≡ bind (arm_rule t c x s) (λ u. bind (alternative_after (u.0 ∷ []) a u.1) (λ v. Done (T.If t v.0.arms v.0.otherwise, v.1)))
unfolding stmt_rule arm_rule alternative_after
if_split t c x a s = simp (bind_assoc, bind_done)

pub if_made : (t : ℕ) (b : Made) → view_stmt_form t (TStmtForm.If b.arms b.otherwise) ≡ T.If t (view_behind b).arms (view_behind b).otherwise
if_made t b =
    if_view t b.arms b.otherwise
    ∙ ap (λ (x : Behind). T.If t x.arms x.otherwise) (sym (all_arms b.arms.items (typed.view_otherwise b.otherwise)))
