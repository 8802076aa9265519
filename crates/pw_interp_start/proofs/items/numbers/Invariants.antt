use Rattle.std.proofs.Common.{◌≡◌, take, map}
use Rattle.pw_value.specs.declared.value.Byte.TheVariants as B
use Rattle.pw_interp_start.proofs.items.numbers.Given as goal

abbrev pub invariant-loop-byte : goal.invariant-loop-byte
invariant-loop-byte l = l.numbers.items ≡ map B.Num (take l.byte-index l.bytes)
