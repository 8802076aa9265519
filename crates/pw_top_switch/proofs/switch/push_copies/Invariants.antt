use Rattle.std.proofs.Common.{◌≡◌, ◌++◌, map, string_bytes, take}
use Rattle.pw_top_switch.proofs.switch.push_copies.Given as goal

abbrev pub invariant-loop-word : goal.invariant-loop-word
invariant-loop-word l = map string_bytes l.line.items ≡ map string_bytes l.fn.line.items ++ map string_bytes (take l.word-index l.words)
