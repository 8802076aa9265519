use Rattle.std.proofs.Common.{◌≡◌, map, take}
use Rattle.pw_summarise.specs.Summarises.{function_entry}
use Rattle.pw_summarise.proofs.lists.function_entries.Given as goal

abbrev pub invariant-loop-function : goal.invariant-loop-function
invariant-loop-function l = l.entries ≡ map (λ f. function_entry f.now) (take l.function-index l.functions)
