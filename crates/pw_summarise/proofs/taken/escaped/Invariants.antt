use Rattle.std.proofs.Common.{◌≡◌, take}
use Rattle.pw_summarise.specs.Summarises.{escaped_of}
use Rattle.pw_summarise.proofs.taken.escaped.Given as goal

abbrev pub invariant-loop-name : goal.invariant-loop-name
invariant-loop-name l = l.escaped ≡ escaped_of l.functions l.declared (take l.name-index l.names)
