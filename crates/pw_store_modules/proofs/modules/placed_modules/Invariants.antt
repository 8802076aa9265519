use Rattle.std.proofs.Common.{◌≡◌, drop, map}
use Rattle.std.specs.Prelude.{string_bytes, fold}
use Rattle.pw_store_modules.specs.Reading.{with_file, module_files}
use Rattle.pw_store_modules.proofs.modules.placed_modules.Given as goal

-- the names that are left, put to the files so far, make all of them
abbrev pub invariant-loop-name : goal.invariant-loop-name
invariant-loop-name l = fold with_file (map string_bytes l.files.items) (drop l.name-index (map string_bytes l.names)) ≡ module_files (map string_bytes l.names)
