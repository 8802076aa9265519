use Rattle.std.proofs.Common.{ap, sym, ◌∙◌, rules}
use Rattle.std.proofs.Common.{◌+◌, Ok, drop, map}
use Rattle.pw_check_state.specs.StateViews.{view_state}
use Rattle.pw_check_state.proofs.PlaceLemmas.{map_push}
use Rattle.pw_check_walk.specs.Walks.{outcome}
use Rattle.pw_check_walk.proofs.CallLaws.{made_by}
use Rattle.pw_check_labels.proofs.Gathering.{behind_all, behind_none, item_made, item_stopped, all_made}
use Rattle.pw_check_rules.specs.Statements.{stmt_rule, stmts_rule}
use Rattle.pw_tree.specs.Views.{view_stmt, view_stmts}
use Rattle.pw_typed.specs.Views as typed
use Rattle.pw_types.specs.TypedTrees.{OneStatement, NoStatement}
use Rattle.pw_check_stmt.proofs.StatementLaws.{all_statements, stmts_more, stmts_none}
use Rattle.pw_check_stmt.proofs.stmt.stmts_rule.Goals as goal

pub loop-next-init : goal.loop-next-init
loop-next-init g c =
    ap outcome (sym (behind_none OneStatement (stmts_rule (view_stmts c.args.statements.now) (view_state c.args.state.now))))
    ∙ ap (λ xs. outcome (behind_all OneStatement (map typed.view_stmt xs) (stmts_rule (view_stmts c.args.statements.now) (view_state c.args.state.now)))) (sym c.new-items.ensures.items)

pub returns-in_err-made : goal.returns-in_err-made
returns-in_err-made g c =
    item_stopped (λ ss. stmts_rule (view_stmts ss)) (λ x. stmt_rule (view_stmt x)) OneStatement stmts_more
    _ c.args.statements.now c.loop-next.next-index (map typed.view_stmt c.loop-next.items.items) _ c.next-item.result
    c.loop-next.invariant c.loop-next-test.true c.next-item.is c.stmt.ensures c.in_err-made.was (search rules)

pub loop-next-preserved : goal.loop-next-preserved
loop-next-preserved g c =
    item_made (λ ss. stmts_rule (view_stmts ss)) (λ x. stmt_rule (view_stmt x)) OneStatement stmts_more
    c.args.statements.now c.loop-next.next-index (map typed.view_stmt c.loop-next.items.items) _ _ c.next-item.result _
    c.loop-next.invariant c.loop-next-test.true c.next-item.is (made_by c.stmt.ensures c.in_ok-made.was)
    ∙ ap (λ xs. outcome (behind_all OneStatement xs (stmts_rule (view_stmts (drop (c.loop-next.next-index + 1) c.args.statements.now)) (view_state c.stmt.new.state))))
    (sym (map_push typed.view_stmt c.loop-next.items.items c.in_ok-made.made) ∙ ap (map typed.view_stmt) (sym c.in_ok-push.ensures.items))

pub returns : goal.returns
returns g c =
    record {
      made = all_made (λ ss. stmts_rule (view_stmts ss)) (λ x. stmt_rule (view_stmt x)) OneStatement stmts_more
          c.args.statements.now c.loop-next.next-index (map typed.view_stmt c.loop-next.items.items) (view_state c.loop-next.state) NoStatement
          c.loop-next.invariant c.loop-next-test.false (stmts_none (view_state c.loop-next.state))
          ∙ ap (λ x. Ok (x, view_state c.loop-next.state)) (all_statements c.loop-next.items.items);
      told = tt;
    }
