use Rattle.std.proofs.Common.{◌≡◌, drop}
use Rattle.pw_check_walk.specs.Walks.{outcome}
use Rattle.pw_check_state.specs.StateViews.{view_state}
use Rattle.pw_check_rules.specs.Phrases.{member_declarators_rule}
use Rattle.pw_tree.specs.Views.{view_member_declarators}
use Rattle.pw_check_state.specs.PhraseViews.{view_specified}
use Rattle.pw_check_records.specs.Views.{view_member_list}
use Rattle.pw_check_specifier_lists.proofs.records.member_declarators.Given as goal

-- what is left of the list comes to what all of it does
abbrev pub invariant-loop-next : goal.invariant-loop-next
invariant-loop-next g l =
    outcome (member_declarators_rule (view_member_declarators l.declarators) (view_specified l.specified) (view_member_list l.initial.found) (view_state l.initial.state))
    ≡ outcome (member_declarators_rule (view_member_declarators (drop l.next-index l.declarators)) (view_specified l.specified) (view_member_list l.found) (view_state l.state))
