use Rattle.std.proofs.Common.{ℕ, ◌≡◌, [], length, reverse}
use Rattle.pw_cmean.specs.Evaluation.{Env}
use Rattle.pw_interp_todo.specs.Resuming.{Rest, Listed, resume}
use Rattle.pw_interp_pushes.proofs.arguments.take_arguments.Given as goal

-- with the values that left the list what is left is as it was
abbrev pub invariant-loop-last : goal.invariant-loop-last
invariant-loop-last l = (e : Env) (n : ℕ) (rest : Rest) → resume l.fn.todo.items rest e n (Listed []) ≡ resume l.todo.items rest e n (Listed (reverse l.values.items))

abbrev pub decreases-loop-last : goal.decreases-loop-last
decreases-loop-last l = length l.todo.items
