-- `++` and `--` as operators on values (6.3.2.4, 6.3.3.1).
use Rattle.pw_types.specs.declared.tree.BinaryOperator.{BinaryOperator}
use Rattle.pw_types.specs.declared.tree.BinaryOperator.TheVariants.{Add, Subtract}
use Rattle.pw_types.specs.declared.tree.StepOperator.{StepOperator}
use Rattle.pw_types.specs.declared.tree.StepOperator.TheVariants.{IncrementBefore, DecrementBefore, IncrementBehind, DecrementBehind}

-- `++` adds 1 and `--` takes it away
abbrev pub step_operator : StepOperator → BinaryOperator
step_operator IncrementBefore = Add
step_operator IncrementBehind = Add
step_operator DecrementBefore = Subtract
step_operator DecrementBehind = Subtract
