use Rattle.std.proofs.Common.{◌≡◌, ℕ, refl, ap, sym, subst, ◌∙◌, rules}
use Rattle.pw_tree.specs.Views.{view_word}
use Rattle.pw_check_state.specs.StateViews.{view_state}
use Rattle.pw_check_walk.specs.Calls.{Obeys}
use Rattle.pw_check_walk.specs.Walks.{Done, Walk, bind}
use Rattle.pw_check_walk.proofs.CallLaws.{step_ok, step_err}
use Rattle.pw_check_rules.specs.Leaves.{open_record, opening_by, opening_rule}
use Rattle.pw_check_rules.specs.States.{State, tag_here}
use Rattle.pw_check_records.proofs.RuleLaws.{made_ok}
use Rattle.pw_check_records.proofs.records.opening_tagged.Goals as goal

-- behind the type
abbrev begun : ℕ × State → Walk (ℕ × State)
begun t = Done (t.0, open_record t.0 t.1)

pub returns-in_err-number : goal.returns-in_err-number
unfolding opening_rule bind
returns-in_err-number c =
    let s = view_state c.args.state.now in
    let w = view_word c.args.word.now in
    let found : c.tag_here-found.result ≡ tag_here s w.text = c.tag_here-found.ensures ∙ ap (tag_here s) c.as_slice.ensures.value in
    step_err begun
    (subst (λ o. Obeys (λ n. n) (opening_by c.args.kind w o s) c.opening_by.result (view_state c.opening_by.new.state)) found c.opening_by.ensures)
    c.in_err-number.was (search rules)

pub returns : goal.returns
unfolding opening_rule bind
returns c =
    let s = view_state c.args.state.now in
    let w = view_word c.args.word.now in
    let found : c.tag_here-found.result ≡ tag_here s w.text = c.tag_here-found.ensures ∙ ap (tag_here s) c.as_slice.ensures.value in
    step_ok begun
    (subst (λ o. Obeys (λ n. n) (opening_by c.args.kind w o s) c.opening_by.result (view_state c.opening_by.new.state)) found c.opening_by.ensures)
    c.in_ok-number.was (made_ok (λ n. n) _ _ _ _ refl (sym c.open_record.ensures))
