use Rattle.std.proofs.Common.{sym, subst}
use Rattle.pw_front_end.specs.Fronts.{FrontEndAnswers}
use Rattle.pw_front_end.proofs.FrontLaws.{front-fronts, front-only, no-want}
use Rattle.pw_front_end.proofs.laws.front_is_exact.Goals as goal

pub returns-clause-exact : goal.returns-clause-exact
returns-clause-exact c = λ text answer. (λ h. front-only c.reading_is_exact.ensures text answer h, λ e. subst (FrontEndAnswers text) (sym e) (front-fronts c.reading_is_exact.ensures text))

pub returns-clause-no_want : goal.returns-clause-no_want
returns-clause-no_want c = λ text refusal e. no-want text refusal (subst (FrontEndAnswers text) e (front-fronts c.reading_is_exact.ensures text))
