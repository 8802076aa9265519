use Rattle.std.proofs.Common.{take}
use Rattle.std.specs.List.{AllZip}
use Rattle.pw_summarise.specs.Summarises.{IsUsesOf}
use Rattle.pw_summarise.proofs.uses.all_uses.Given as goal

abbrev pub invariant-loop-function : goal.invariant-loop-function
invariant-loop-function l = AllZip (λ f u. IsUsesOf f.now u) (take l.function-index l.functions) l.all
