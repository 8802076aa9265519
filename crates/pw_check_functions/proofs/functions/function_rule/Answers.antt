use Rattle.std.proofs.Common.{rules}
use Rattle.pw_check_walk.proofs.CallLaws.{step_ok, step_err}
use Rattle.pw_check_labels.proofs.Steps.{same}
use Rattle.pw_check_functions.proofs.FunctionLaws.{function_split}
use Rattle.pw_check_functions.proofs.functions.function_rule.Goals as goal

pub returns-in_err-head : goal.returns-in_err-head
returns-in_err-head c = same (function_split _ _) (step_err _ c.head_rule.ensures c.in_err-head.was (search rules))

pub returns : goal.returns
returns c = same (function_split _ _) (step_ok _ c.head_rule.ensures c.in_ok-head.was c.behind_head.ensures)
