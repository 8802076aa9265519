use Rattle.std.proofs.Common.{◌∷◌, [], ◌+◌, Ok, drop, ap, sym, ◌∙◌, rules}
use Rattle.pw_check_state.specs.StateViews.{view_state}
use Rattle.pw_check_walk.specs.Walks.{outcome}
use Rattle.pw_check_walk.proofs.CallLaws.{made_by}
use Rattle.pw_check_labels.proofs.Gathering.{behind_all, behind_none, item_made, item_stopped, all_made}
use Rattle.pw_check_rules.specs.Statements.{label_rule, labels_rule}
use Rattle.pw_tree.specs.Views.{view_label, view_labels}
use Rattle.pw_check_labels.proofs.LabelLaws.{all_numbers, labels_more, labels_none}
use Rattle.pw_check_labels.proofs.labels.labels_rule.Goals as goal

pub loop-label-init : goal.loop-label-init
loop-label-init g c =
    let whole = labels_rule (view_labels c.args.labels.now) (view_state c.args.state.now) in
    ap outcome (sym (behind_none ◌∷◌ whole)) ∙ ap (λ xs. outcome (behind_all ◌∷◌ xs whole)) (sym c.new-numbers.ensures.items)

pub returns-in_err-number : goal.returns-in_err-number
returns-in_err-number g c =
    item_stopped (λ ls. labels_rule (view_labels ls)) (λ l. label_rule (view_label l)) ◌∷◌ labels_more
    _ c.args.labels.now c.loop-label.label-index c.loop-label.numbers.items _ c.label-item.result
    c.loop-label.invariant c.loop-label-test.true c.label-item.is c.label_rule.ensures c.in_err-number.was (search rules)

pub loop-label-preserved : goal.loop-label-preserved
loop-label-preserved g c =
    item_made (λ ls. labels_rule (view_labels ls)) (λ l. label_rule (view_label l)) ◌∷◌ labels_more
    c.args.labels.now c.loop-label.label-index c.loop-label.numbers.items _ _ c.label-item.result _
    c.loop-label.invariant c.loop-label-test.true c.label-item.is (made_by c.label_rule.ensures c.in_ok-number.was)
    ∙ ap (λ xs. outcome (behind_all ◌∷◌ xs (labels_rule (view_labels (drop (c.loop-label.label-index + 1) c.args.labels.now)) (view_state c.label_rule.new.state))))
    (sym c.in_ok-push.ensures.items)

pub returns : goal.returns
returns g c =
    record {
      made = all_made (λ ls. labels_rule (view_labels ls)) (λ l. label_rule (view_label l)) ◌∷◌ labels_more
          c.args.labels.now c.loop-label.label-index c.loop-label.numbers.items (view_state c.loop-label.state) []
          c.loop-label.invariant c.loop-label-test.false (labels_none (view_state c.loop-label.state))
          ∙ ap (λ x. Ok (x, view_state c.loop-label.state)) (all_numbers c.loop-label.numbers.items);
      told = tt;
    }
