use Rattle.std.proofs.Common.{◌≡◌, ◌+◌, drop, map}
use Rattle.std.specs.Prelude.{string_bytes}
use Rattle.std.specs.List.{position_or_len}
use Rattle.pw_store_modules.specs.Reading.{is_file_before}
use Rattle.pw_store_modules.proofs.modules.first_behind.Given as goal

-- none of the files so far stands behind
abbrev pub invariant-loop-i : goal.invariant-loop-i
invariant-loop-i l = l.i + position_or_len (is_file_before l.file) (drop l.i (map string_bytes l.files)) ≡ position_or_len (is_file_before l.file) (map string_bytes l.files)
