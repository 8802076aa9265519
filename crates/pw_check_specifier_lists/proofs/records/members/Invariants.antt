use Rattle.std.proofs.Common.{◌≡◌, [], drop}
use Rattle.pw_check_walk.specs.Walks.{outcome}
use Rattle.pw_check_state.specs.StateViews.{view_state}
use Rattle.pw_check_rules.specs.Phrases.{members_rule}
use Rattle.pw_tree.specs.Views.{view_members}
use Rattle.pw_check_records.specs.Views.{view_member_list}
use Rattle.pw_check_specifier_lists.proofs.records.members.Given as goal

-- what is left of the list comes to what all of it does
abbrev pub invariant-loop-next : goal.invariant-loop-next
invariant-loop-next g l =
    outcome (members_rule (view_members l.list) [] (view_state l.initial.state))
    ≡ outcome (members_rule (view_members (drop l.next-index l.list)) (view_member_list l.found) (view_state l.state))
