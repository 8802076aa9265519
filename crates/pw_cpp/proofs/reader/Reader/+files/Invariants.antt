use Rattle.std.proofs.Common.{◌+◌, ◌-◌, ◌*◌, length}
use Rattle.pw_cpp.specs.Answers.{IsWithin, Keeps}
use Rattle.pw_cpp.proofs.OneFile.{LeadsFrom}
use Rattle.pw_cpp.proofs.reader.Reader.+files.Given as goal

-- each call is of what comes later here, or one deeper
abbrev pub decreases-read_file : goal.decreases-read_file
decreases-read_file l = 5 * (16 - l.depth) + 4

abbrev pub decreases-read_line : goal.decreases-read_line
decreases-read_line l = 5 * (16 - l.depth) + 3

abbrev pub decreases-include : goal.decreases-include
decreases-include l = 5 * (16 - l.depth) + 2

abbrev pub decreases-quoted : goal.decreases-quoted
decreases-quoted l = 5 * (16 - l.depth) + 1

abbrev pub decreases-read_header : goal.decreases-read_header
decreases-read_header l = 5 * (16 - l.depth)

abbrev pub decreases-read_file-loop-at : goal.decreases-read_file-loop-at
decreases-read_file-loop-at l = length l.text - l.at

-- what is read of the file leads to what it comes to
abbrev pub invariant-read_file-loop-at : goal.invariant-read_file-loop-at
invariant-read_file-loop-at l = Keeps l.fn.self l.self × IsWithin l.self × LeadsFrom l.fn.self l.self l.text l.number l.depth l.at
