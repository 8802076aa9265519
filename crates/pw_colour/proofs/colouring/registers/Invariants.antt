use Rattle.std.proofs.Common.{take}
use Rattle.pw_colour.proofs.Given.{AreGiven}
use Rattle.pw_colour.proofs.colouring.registers.Given as goal

abbrev pub invariant-loop-web : goal.invariant-loop-web
invariant-loop-web l = AreGiven l.colours l.functions (take l.web-index l.webs) l.busy l.found.items
