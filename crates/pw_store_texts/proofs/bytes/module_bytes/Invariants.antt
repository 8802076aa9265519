use Rattle.std.proofs.Common.{◌≡◌, ◌+◌, drop, map}
use Rattle.std.specs.Prelude.{string_bytes}
use Rattle.std.specs.FinMap as finite
use Rattle.pw_io.specs.Files.{Files}
use Rattle.pw_store_modules.specs.Views.{source}
use Rattle.pw_store_texts.specs.Bytes.{module_bytes}
use Rattle.pw_store_texts.proofs.bytes.module_bytes.Given as goal

-- the bytes so far, with those of the modules that are left, are all
abbrev pub invariant-loop-one : goal.invariant-loop-one
invariant-loop-one l = (files : Files) → map string_bytes l.names ≡ finite.keys files → l.bytes + module_bytes files (drop l.one-index (map source l.modules)) ≡ module_bytes files (map source l.modules)
