use Rattle.std.proofs.Common.{◌≡◌, ◌+◌, drop, map}
use Rattle.pw_store_sources.specs.Bytes.{bytes_of}
use Rattle.pw_cpp_sources.specs.Sources.{texts_of}
use Rattle.pw_store_sources.proofs.sums.header_bytes.Given as goal

-- the bytes so far, with those of the texts that are left, are all
abbrev pub invariant-loop-header : goal.invariant-loop-header
invariant-loop-header l = l.bytes + bytes_of (drop l.header-index (texts_of l.headers)) ≡ bytes_of (texts_of l.headers)
