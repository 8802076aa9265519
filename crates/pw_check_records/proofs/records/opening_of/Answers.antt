use Rattle.std.proofs.Common.{◌≡◌, [], ◌∷◌, not, rules, refl, sym, ◌∙◌}
use Rattle.pw_tree.specs.Views.{view_word}
use Rattle.pw_check_state.specs.StateViews.{view_state}
use Rattle.pw_check_walk.specs.Found.{found}
use Rattle.pw_check_walk.proofs.FindingLaws.{end_err, no_want, point_ok, point_err}
use Rattle.pw_check_walk.specs.Causes.{needs, OneContent}
use Rattle.pw_check_walk.specs.Walks.{bind, pure}
use Rattle.pw_check_rules.specs.Leaves.{is_opened, kind_point, opening_by}
use Rattle.pw_check_rules.specs.States.{records_in}
use Rattle.pw_check_records.proofs.RuleLaws.{made_ok}
use Rattle.pw_check_records.proofs.records.opening_of.Goals as goal

pub returns-in_err-end-clause-follows : goal.returns-in_err-end-clause-follows
unfolding opening_by bind
returns-in_err-end-clause-follows c =
    let w = view_word c.args.word.now in
    let s = view_state c.args.state.now in
    let point = kind_point (records_in s) c.args.kind c.args.number w.token ∷ needs OneContent w.token (not (is_opened s c.args.number)) ∷ [] in
    let seen : c.needs.result.least ≡ found point = cc in
    point_err point (pure c.args.number) s seen c.end.ensures c.in_err-end.was (search rules)

pub returns-in_err-end-clause-no_memory : goal.returns-in_err-end-clause-no_memory
returns-in_err-end-clause-no_memory c =
    let w = view_word c.args.word.now in
    let s = view_state c.args.state.now in
    let point = kind_point (records_in s) c.args.kind c.args.number w.token ∷ needs OneContent w.token (not (is_opened s c.args.number)) ∷ [] in
    let seen : c.needs.result.least ≡ found point = cc in
    no_want point (sym seen ∙ end_err _ _ (sym c.end.ensures ∙ c.in_err-end.was)) (search rules)

pub returns-clause-follows : goal.returns-clause-follows
unfolding opening_by bind
returns-clause-follows c =
    let w = view_word c.args.word.now in
    let s = view_state c.args.state.now in
    let point = kind_point (records_in s) c.args.kind c.args.number w.token ∷ needs OneContent w.token (not (is_opened s c.args.number)) ∷ [] in
    let seen : c.needs.result.least ≡ found point = cc in
    point_ok point (pure c.args.number) s seen c.end.ensures c.in_ok-end.was (made_ok (λ n. n) _ _ s s refl refl)
