use Rattle.pw_law_select_rows.proofs.Straight as straight
use Rattle.pw_law_select_rows.proofs.straight_words_run.Goals as goal

pub returns-clause-joined : goal.returns-clause-joined
returns-clause-joined c = straight.joined

pub returns-clause-run : goal.returns-clause-run
returns-clause-run c = straight.straight_run

pub returns-clause-lines : goal.returns-clause-lines
returns-clause-lines c = straight.straight_lines

pub returns-clause-noted : goal.returns-clause-noted
returns-clause-noted c = straight.noted_joined
