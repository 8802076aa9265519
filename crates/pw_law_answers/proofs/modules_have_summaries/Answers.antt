use Rattle.pw_summarise.proofs.LawfulLaws.{lawful}
use Rattle.pw_law_answers.proofs.Names.{summary_named}
use Rattle.pw_law_answers.proofs.Summaries.{summary_exists}
use Rattle.pw_law_answers.proofs.modules_have_summaries.Goals as goal

pub returns-clause-one : goal.returns-clause-one
returns-clause-one c = λ m valid. let s = summary_exists m valid in (s.0, s.1, lawful m s.0 valid s.1)

pub returns-clause-names : goal.returns-clause-names
returns-clause-names c = summary_named
