-- The bytes so far stand in the memory.
use Rattle.std.proofs.Common.{◌≡◌, take}
use Rattle.pw_pages.specs.Bytes.{overwritten}
use Rattle.pw_pages.proofs.pages.Pages.put_bytes.Given as goal

abbrev pub invariant-loop-i : goal.invariant-loop-i
invariant-loop-i l = l.self ≡ overwritten l.initial.self l.at (take l.i l.bytes)
