use Rattle.std.proofs.Common.{◌≡◌, drop}
use Rattle.pw_cpp.specs.Answers.{number_from}
use Rattle.pw_cpp.proofs.reader.Reader.file_named.Given as goal

-- none of the files before has the name
abbrev pub invariant-loop-other : goal.invariant-loop-other
invariant-loop-other l = (l.number ≡ l.other-index) × (number_from l.number (drop l.other-index l.files) l.name ≡ number_from 0 l.files l.name)
