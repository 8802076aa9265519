use Rattle.std.proofs.Common.{◌≡◌, None, Some, refl, rules}
use Rattle.pw_check_state.specs.StateViews.{view_state}
use Rattle.pw_tree.specs.Views.{view_word}
use Rattle.pw_check_walk.proofs.FindingLaws.{point_ok, point_err}
use Rattle.pw_check_rules.specs.Leaves.{enumerator_name, enumerator_rule, name_point}
use Rattle.pw_check_walk.specs.Walks.{bind}
use Rattle.pw_check_leaves.specs.Parts.{counted_enumerator}
use Rattle.pw_check_leaves.proofs.EnumeratorLaws.{with_value, without_value}
use Rattle.pw_check_leaves.proofs.enumerations.enumerator_rule.Goals as goal

pub returns-in_err-end : goal.returns-in_err-end
unfolding enumerator_rule enumerator_name bind
returns-in_err-end c =
    let s = view_state c.args.state.now in
    let w = view_word c.args.word.now in
    point_err (name_point s w) (counted_enumerator w c.args.value) s c.name_point.ensures c.end.ensures c.in_err-end.was (search rules)

pub returns-in_default : goal.returns-in_default
unfolding enumerator_rule enumerator_name bind
returns-in_default c =
    let s = view_state c.args.state.now in
    let w = view_word c.args.word.now in
    let none : c.args.value ≡ None = cc in
    point_ok (name_point s w) (counted_enumerator w c.args.value) s c.name_point.ensures c.end.ensures c.in_ok-end.was
    (without_value w c.args.value s none (search rules))

pub returns : goal.returns
unfolding enumerator_rule enumerator_name bind
returns c =
    let s = view_state c.args.state.now in
    let w = view_word c.args.word.now in
    let n = c.in-Some.number in
    let some : c.args.value ≡ Some n = cc in
    point_ok (name_point s w) (counted_enumerator w c.args.value) s c.name_point.ensures c.end.ensures c.in_ok-end.was
    (with_value w n c.args.value s some refl (search rules) (search rules))
