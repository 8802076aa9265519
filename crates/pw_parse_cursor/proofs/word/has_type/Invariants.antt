use Rattle.std.proofs.Common.{◌≡◌, length}
use Rattle.std.specs.List.{list_any}
use Rattle.pw_parse_cursor.proofs.Types.{is_type}
use Rattle.pw_parse_cursor.proofs.word.has_type.Given as goal

-- what is left gives the answer
abbrev pub invariant-loop-rest : goal.invariant-loop-rest
invariant-loop-rest l = list_any is_type l.rest ≡ list_any is_type l.specifiers

abbrev pub decreases-loop-rest : goal.decreases-loop-rest
decreases-loop-rest l = length l.rest
