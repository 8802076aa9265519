-- The map has the files of the entries so far.
use Rattle.std.proofs.Common.{◌≡◌, take}
use Rattle.pw_io.specs.Shelf.{files_in, files_of}
use Rattle.pw_io.proofs.kept.kept_files.Given as goal

abbrev pub invariant-loop-name : goal.invariant-loop-name
invariant-loop-name l = files_in l.kept ≡ files_of (take l.name-index l.files)
