use Rattle.std.proofs.Common.{rules}
use Rattle.pw_check_walk.proofs.CallLaws.{step_ok, step_err}
use Rattle.pw_check_specifier_lists.specs.Specifying.{record_tag_rule}
use Rattle.pw_check_specifier_lists.proofs.specifiers.record_tag.Goals as goal

pub returns-in_err-tagged : goal.returns-in_err-tagged
unfolding record_tag_rule
returns-in_err-tagged c = step_err _ (rw c.record_kind.ensures at c.reference_rule.ensures) c.in_err-tagged.was (search rules)

pub returns : goal.returns
unfolding record_tag_rule
returns c = step_ok _ (rw c.record_kind.ensures at c.reference_rule.ensures) c.in_ok-tagged.was c.type_gathered.ensures
