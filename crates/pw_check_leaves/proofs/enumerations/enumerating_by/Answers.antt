use Rattle.std.proofs.Common.{rules, refl}
use Rattle.pw_check_state.specs.StateViews.{view_state}
use Rattle.pw_tree.specs.Views.{view_word}
use Rattle.pw_check_walk.proofs.FindingLaws.{point_ok, point_err}
use Rattle.pw_check_rules.specs.Leaves.{enumerating_rule}
use Rattle.pw_check_rules.specs.States.{enter_tag}
use Rattle.pw_check_rules.specs.declared.names.Tag.TheVariants as G
use Rattle.pw_check_walk.specs.Walks.{bind, change}
use Rattle.pw_check_leaves.specs.Parts.{enumerating_point}
use Rattle.pw_check_leaves.proofs.PointLaws.{done}
use Rattle.pw_check_leaves.proofs.enumerations.enumerating_by.Goals as goal

pub returns-in_err-end : goal.returns-in_err-end
unfolding enumerating_rule bind
returns-in_err-end c =
    let s = view_state c.args.state.now in
    let w = view_word c.args.word.now in
    point_err (enumerating_point w s) (change (enter_tag w.text G.Enumeration)) s c.enumerating_found.ensures c.end.ensures c.in_err-end.was (search rules)

pub returns : goal.returns
unfolding enumerating_rule bind
returns c =
    let s = view_state c.args.state.now in
    let w = view_word c.args.word.now in
    point_ok (enumerating_point w s) (change (enter_tag w.text G.Enumeration)) s c.enumerating_found.ensures c.end.ensures c.in_ok-end.was
    (done tt (enter_tag w.text G.Enumeration s) refl refl (search rules))
