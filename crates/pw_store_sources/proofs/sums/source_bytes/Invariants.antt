use Rattle.std.proofs.Common.{◌≡◌, ◌+◌, drop, map}
use Rattle.pw_store_sources.specs.Bytes.{bytes_of}
use Rattle.pw_store_sources.specs.Views.{named_text}
use Rattle.pw_store_sources.proofs.sums.source_bytes.Given as goal

-- the bytes so far, with those of the texts that are left, are all
abbrev pub invariant-loop-source : goal.invariant-loop-source
invariant-loop-source l = l.bytes + bytes_of (drop l.source-index (map named_text l.sources)) ≡ bytes_of (map named_text l.sources)
