use Rattle.std.proofs.Common.{◌≡◌, map, take}
use Rattle.pw_summarise.specs.Summarises.{global_entry}
use Rattle.pw_summarise.proofs.lists.global_entries.Given as goal

abbrev pub invariant-loop-global : goal.invariant-loop-global
invariant-loop-global l = l.entries ≡ map (λ g. global_entry g.now) (take l.global-index l.globals)
