use Rattle.std.proofs.Common.{◌≡◌, drop}
use Rattle.pw_check_walk.specs.Walks.{outcome}
use Rattle.pw_check_state.specs.StateViews.{view_state}
use Rattle.pw_check_rules.specs.Phrases.{specifiers_rule}
use Rattle.pw_check_rules.specs.SpecifierLists.{nothing_gathered}
use Rattle.pw_tree.specs.Views.{view_specifiers}
use Rattle.pw_check_specifier_facts.specs.Rows.{AreAtMost}
use Rattle.pw_check_state.specs.PhraseViews.{view_gathered}
use Rattle.pw_check_specifier_lists.proofs.specifiers.gather.Given as goal

-- what is left of the list comes to what all of it does, and each specifier before is one qualifier at most
abbrev pub invariant-loop-next : goal.invariant-loop-next
invariant-loop-next g l =
    (outcome (specifiers_rule (view_specifiers l.specifiers) l.first nothing_gathered (view_state l.initial.state))
    ≡ outcome (specifiers_rule (view_specifiers (drop l.next-index l.specifiers)) l.first (view_gathered l.gathered) (view_state l.state)))
    × AreAtMost l.next-index (view_gathered l.gathered)
