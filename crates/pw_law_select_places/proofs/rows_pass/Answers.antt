use Rattle.pw_law_select_places.proofs.Rows.{straight_passes, passes_compose}
use Rattle.pw_law_select_places.proofs.rows_pass.Goals as goal

pub returns-clause-straight : goal.returns-clause-straight
returns-clause-straight c = λ p w scratch. straight_passes p w scratch c.straight_words_run.ensures.run

pub returns-clause-compose : goal.returns-clause-compose
returns-clause-compose c = passes_compose
