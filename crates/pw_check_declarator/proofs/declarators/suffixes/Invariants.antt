use Rattle.std.proofs.Common.{◌≡◌, drop}
use Rattle.pw_check_walk.specs.Walks.{outcome}
use Rattle.pw_check_state.specs.StateViews.{view_state}
use Rattle.pw_check_rules.specs.Phrases.{suffixes_rule}
use Rattle.pw_tree.specs.Views.{view_suffixes}
use Rattle.pw_check_declarator.specs.Declaring.{suffixes_behind}
use Rattle.pw_check_declarator.specs.Views.{view_suffixed}
use Rattle.pw_check_declarator.proofs.declarators.suffixes.Given as goal

-- what is left of the list, behind what was read, comes to what all of it does
abbrev pub invariant-loop-next : goal.invariant-loop-next
invariant-loop-next g l =
    outcome (suffixes_rule (view_suffixes l.list) (view_state l.initial.state))
    ≡ outcome (suffixes_behind (view_suffixes (drop l.next-index l.list)) (view_suffixed l.read) (view_state l.state))
