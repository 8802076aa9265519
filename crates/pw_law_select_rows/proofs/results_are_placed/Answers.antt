use Rattle.pw_law_select_rows.proofs.Results.{results_placed, one_taken, two_taken}
use Rattle.pw_law_select_rows.proofs.results_are_placed.Goals as goal

pub returns-clause-none : goal.returns-clause-none
returns-clause-none c = results_placed

pub returns-clause-one : goal.returns-clause-one
returns-clause-one c = one_taken

pub returns-clause-two : goal.returns-clause-two
returns-clause-two c = two_taken
