-- The words so far are decoded.
use Rattle.std.proofs.Common.{take}
use Rattle.pw_machine.specs.Decoded.{AreDecoded}
use Rattle.pw_machine.proofs.start.decoded.Given as goal

abbrev pub invariant-loop-word : goal.invariant-loop-word
invariant-loop-word l = AreDecoded (take l.word-index l.words) l.code.items
