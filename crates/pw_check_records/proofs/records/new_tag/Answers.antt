use Rattle.std.proofs.Common.{◌≡◌, ℕ, [], ◌∷◌, length, rules, ap, sym, ◌∙◌}
use Rattle.pw_tree.specs.Trees.{Word}
use Rattle.pw_tree.specs.Views.{view_word}
use Rattle.pw_types.specs.Records.{declared}
use Rattle.pw_types.specs.declared.record.RecordKind.{RecordKind}
use Rattle.pw_check_state.specs.StateViews.{view_state}
use Rattle.pw_check_walk.specs.Found.{found}
use Rattle.pw_check_walk.proofs.FindingLaws.{point_ok, point_err}
use Rattle.pw_check_walk.specs.Walks.{Walk, Done, bind}
use Rattle.pw_check_rules.specs.Leaves.{new_record, new_tag}
use Rattle.pw_check_rules.specs.Limits.{name_within}
use Rattle.pw_check_rules.specs.States.{State, records_in, add_record, enter_tag}
use Rattle.pw_check_rules.specs.declared.names.Tag.TheVariants as named
use Rattle.pw_check_records.proofs.RuleLaws.{made_ok}
use Rattle.pw_check_records.proofs.records.new_tag.Goals as goal

-- behind the point
abbrev tagged : Word → RecordKind → State → Walk (ℕ × State)
tagged w kind s =
    Done (length (records_in s), enter_tag w.text (named.Record (length (records_in s))) (add_record (declared kind) s))

pub returns-in_err-end : goal.returns-in_err-end
unfolding new_tag new_record bind
returns-in_err-end c =
    let w = view_word c.args.word.now in
    let seen : c.name_within.result.least ≡ found (name_within w.token w.text ∷ []) = cc in
    point_err (name_within w.token w.text ∷ []) (tagged w c.args.kind) (view_state c.args.state.now) seen c.end.ensures c.in_err-end.was (search rules)

pub returns : goal.returns
unfolding new_tag new_record bind
returns c =
    let w = view_word c.args.word.now in
    let s = view_state c.args.state.now in
    let seen : c.name_within.result.least ≡ found (name_within w.token w.text ∷ []) = cc in
    point_ok (name_within w.token w.text ∷ []) (tagged w c.args.kind) s seen c.end.ensures c.in_ok-end.was
    (made_ok (λ n. n) c.in_ok-number.number (length (records_in s)) _ _ (sym c.in_ok-number.ensures.number)
    (sym (c.in_ok-enter_tag.ensures
    ∙ ap (λ t. enter_tag t (named.Record c.in_ok-number.number) (view_state c.add_record.new.self)) c.as_slice-name.ensures.value
    ∙ ap (enter_tag w.text (named.Record c.in_ok-number.number)) c.in_ok-number.ensures.state
    ∙ ap (λ n. enter_tag w.text (named.Record n) (add_record (declared c.args.kind) s)) c.in_ok-number.ensures.number)))
