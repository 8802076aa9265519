-- Labels among those of lists, and of statements and arms one at a time.
use Rattle.std.proofs.Common.{ℕ, ◌≡◌, ◌<◌, ◌+◌, sym, ap, ◌∙◌, length, drop, get_or, Bool, true, false, List, ◌++◌, ◌||◌, arith}
use Rattle.std.proofs.lemmas.Grind.{common_steps}
use Rattle.std.proofs.lemmas.List.{at_drop_more}
use Rattle.pw_typed.specs.Views.{view_arms, view_stmt, view_stmts}
use Rattle.pw_typed.specs.declared.tree.Arm.{Arm}
use Rattle.pw_typed.specs.declared.tree.TStmt.{TStmt}
use Rattle.pw_types.specs.Labels.{labels_in, labels_among, labels_of_arms}
use Rattle.pw_cmean.specs.Execution.{holds}

pub holds_append : (a b : List ℕ) (l : ℕ) → holds (a ++ b) l ≡ (holds a l || holds b l)
holds_append a b l = grind (arith, common_steps)

pub among_at : (l : ℕ) (all : List TStmt) (i : ℕ) (s : TStmt) → i < length all → s ≡ get_or all i s
    → holds (labels_among (view_stmts (drop i all))) l ≡ (holds (labels_in (view_stmt s)) l || holds (labels_among (view_stmts (drop (i + 1) all))) l)
among_at l all i s within is =
    at_drop_more (λ ss. holds (labels_among (view_stmts ss)) l) all i s within
    ∙ ap (λ x. holds (labels_in (view_stmt x) ++ labels_among (view_stmts (drop (i + 1) all))) l) (sym is)
    ∙ holds_append (labels_in (view_stmt s)) (labels_among (view_stmts (drop (i + 1) all))) l

pub arms_at : (l : ℕ) (all : List Arm) (i : ℕ) (a : Arm) → i < length all → a ≡ get_or all i a
    → holds (labels_of_arms (view_arms (drop i all))) l ≡ (holds (labels_in (view_stmt a.body)) l || holds (labels_of_arms (view_arms (drop (i + 1) all))) l)
arms_at l all i a within is =
    at_drop_more (λ ss. holds (labels_of_arms (view_arms ss)) l) all i a within
    ∙ ap (λ x. holds (labels_in (view_stmt x.body) ++ labels_of_arms (view_arms (drop (i + 1) all))) l) (sym is)
    ∙ holds_append (labels_in (view_stmt a.body)) (labels_of_arms (view_arms (drop (i + 1) all))) l

pub found : (a b : Bool) → a ≡ true → (a || b) ≡ true
found a b e = ap (λ x. x || b) e

pub passed : (a b : Bool) → a ≡ false → (a || b) ≡ b
passed a b e = ap (λ x. x || b) e
