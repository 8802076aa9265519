use Rattle.std.proofs.Common.{refl, ap, ◌∙◌, rules}
use Rattle.pw_check_walk.proofs.CallLaws.{step_ok, step_err}
use Rattle.pw_check_labels.proofs.Steps.{from, ends}
use Rattle.pw_check_labels.specs.Views.{view_made}
use Rattle.pw_check_rules.specs.Statements.{stmt_rule}
use Rattle.pw_check_stmt.specs.Items.{view_items}
use Rattle.pw_typed.proofs.Rows.{block_view}
use Rattle.pw_types.specs.TypedTrees as T
use Rattle.pw_check_stmt.proofs.stmt.block_rule.Goals as goal

pub returns-in_err-initialisers : goal.returns-in_err-initialisers
unfolding stmt_rule
returns-in_err-initialisers g c =
    from _ c.in_ok-first.ensures.place refl (step_err _ (rw c.deref.ensures.value at c.decls.ensures) c.in_err-initialisers.was (search rules))

pub returns-in_err-items : goal.returns-in_err-items
unfolding stmt_rule
returns-in_err-items g c =
    from _ c.in_ok-first.ensures.place refl
    (step_ok _ (rw c.deref.ensures.value at c.decls.ensures) c.in_ok-initialisers.was
    (from _ c.in_ok-end.ensures.place refl
    (step_err _ (rw c.deref-2.ensures.value at c.stmts_rule.ensures) c.in_err-items.was (search rules))))

pub returns : goal.returns
unfolding stmt_rule
returns g c =
    from _ c.in_ok-first.ensures.place refl
    (step_ok _ (rw c.deref.ensures.value at c.decls.ensures) c.in_ok-initialisers.was
    (from _ c.in_ok-end.ensures.place refl
    (step_ok _ (rw c.deref-2.ensures.value at c.stmts_rule.ensures) c.in_ok-items.was
    (ends
    (block_view c.args.block.now.token c.in_ok-first.first c.saturating_sub.result c.in_ok-initialisers.initialisers c.in_ok-items.items
    ∙ ap (λ n. T.Block c.args.block.now.token c.in_ok-first.first n (view_made c.in_ok-initialisers.initialisers) (view_items c.in_ok-items.items)) c.saturating_sub.ensures)
    refl))))
