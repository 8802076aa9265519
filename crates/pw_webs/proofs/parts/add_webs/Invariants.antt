use Rattle.std.proofs.Common.{◌≡◌, ◌++◌, List}
use Rattle.pw_webs.specs.declared.web.RawWeb.{RawWeb}
use Rattle.pw_webs.proofs.Gather.{IsGathered}
use Rattle.pw_webs.proofs.parts.add_webs.Given as goal

abbrev pub invariant-loop-root : goal.invariant-loop-root
invariant-loop-root l = record { same : l.done.len ≡ l.region.len; gathered : (ws : List RawWeb) × (l.found.items ≡ l.fn.found.items ++ ws) × IsGathered l.graph l.global l.root ws l.done }
