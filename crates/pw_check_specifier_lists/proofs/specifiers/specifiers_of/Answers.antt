use Rattle.std.proofs.Common.{rules}
use Rattle.pw_check_walk.proofs.CallLaws.{step_ok, step_err}
use Rattle.pw_check_rules.specs.Declarations.{specified_rule}
use Rattle.pw_check_specifier_lists.proofs.specifiers.specifiers_of.Goals as goal

pub returns-in_err-gathered : goal.returns-in_err-gathered
unfolding specified_rule
returns-in_err-gathered g c = step_err _ c.gather.ensures c.in_err-gathered.was (search rules)

pub returns : goal.returns
unfolding specified_rule
returns g c = step_ok _ c.gather.ensures c.in_ok-gathered.was c.specified.ensures.follows
