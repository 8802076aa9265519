use Rattle.std.proofs.Common.{◌≡◌, map, take}
use Rattle.pw_summarise.specs.Summarises.{global_entry}
use Rattle.pw_summarise.proofs.lists.each_global.Given as goal

abbrev pub invariant-loop-global : goal.invariant-loop-global
invariant-loop-global l = map (λ g. global_entry g.now) l.all.items ≡ map global_entry (take l.global-index l.globals)
