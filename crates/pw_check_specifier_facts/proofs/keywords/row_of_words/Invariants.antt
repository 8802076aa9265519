use Rattle.std.proofs.Common.{◌≡◌, map, length}
use Rattle.pw_check_specifier_facts.specs.Rows.{row_found}
use Rattle.pw_check_specifier_facts.proofs.keywords.row_of_words.Given as goal

-- what is left has the row that is looked for
abbrev pub invariant-loop-rest : goal.invariant-loop-rest
invariant-loop-rest l = row_found (map (λ row. (row.0.now, row.1)) l.rest) l.words ≡ row_found (map (λ row. (row.0.now, row.1)) l.table) l.words

abbrev pub decreases-loop-rest : goal.decreases-loop-rest
decreases-loop-rest l = length l.rest
