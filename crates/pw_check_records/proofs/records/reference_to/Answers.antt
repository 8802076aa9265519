use Rattle.std.proofs.Common.{◌≡◌, None, [], ◌∷◌, rules, refl, ap, sym, ◌∙◌}
use Rattle.pw_tree.specs.Views.{view_word}
use Rattle.pw_types.specs.TypeTrees.{Record}
use Rattle.pw_types.specs.Views.{view_type}
use Rattle.pw_check_state.specs.StateViews.{view_state}
use Rattle.pw_check_walk.specs.Found.{found}
use Rattle.pw_check_walk.proofs.FindingLaws.{end_err, no_want, point_ok, point_err}
use Rattle.pw_check_walk.specs.Walks.{bind, pure}
use Rattle.pw_check_rules.specs.Kinds.{plain}
use Rattle.pw_check_rules.specs.Leaves.{kind_point, reference_by}
use Rattle.pw_check_rules.specs.States.{records_in}
use Rattle.pw_check_records.specs.Views.{view_tagged}
use Rattle.pw_check_records.proofs.RuleLaws.{made_ok}
use Rattle.pw_check_records.proofs.records.reference_to.Goals as goal

pub returns-in_err-end-clause-follows : goal.returns-in_err-end-clause-follows
unfolding reference_by bind
returns-in_err-end-clause-follows c =
    let w = view_word c.args.word.now in
    let s = view_state c.args.state.now in
    let point = kind_point (records_in s) c.args.kind c.args.number w.token ∷ [] in
    let seen : c.kind_point.result.least ≡ found point = cc in
    point_err point (pure (plain (Record c.args.number), None)) s seen c.end.ensures c.in_err-end.was (search rules)

pub returns-in_err-end-clause-no_memory : goal.returns-in_err-end-clause-no_memory
returns-in_err-end-clause-no_memory c =
    let w = view_word c.args.word.now in
    let s = view_state c.args.state.now in
    let point = kind_point (records_in s) c.args.kind c.args.number w.token ∷ [] in
    let seen : c.kind_point.result.least ≡ found point = cc in
    no_want point (sym seen ∙ end_err _ _ (sym c.end.ensures ∙ c.in_err-end.was)) (search rules)

pub returns-clause-follows : goal.returns-clause-follows
unfolding reference_by bind view_type
returns-clause-follows c =
    let w = view_word c.args.word.now in
    let s = view_state c.args.state.now in
    let point = kind_point (records_in s) c.args.kind c.args.number w.token ∷ [] in
    let seen : c.kind_point.result.least ≡ found point = cc in
    point_ok point (pure (plain (Record c.args.number), None)) s seen c.end.ensures c.in_ok-end.was
    (made_ok view_tagged _ _ s s (ap (λ q. (q, None)) (sym c.plain.ensures)) refl)
