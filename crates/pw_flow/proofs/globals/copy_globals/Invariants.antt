use Rattle.std.proofs.Common.{◌≡◌, take}
use Rattle.pw_flow.proofs.globals.copy_globals.Given as goal

abbrev pub invariant-loop-global : goal.invariant-loop-global
invariant-loop-global l = l.copies ≡ take l.global-index l.globals
