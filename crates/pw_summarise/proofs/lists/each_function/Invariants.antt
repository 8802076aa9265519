use Rattle.std.proofs.Common.{◌≡◌, map, take}
use Rattle.pw_summarise.proofs.lists.each_function.Given as goal

abbrev pub invariant-loop-function : goal.invariant-loop-function
invariant-loop-function l = map (λ f. f.now) l.all.items ≡ take l.function-index l.functions
