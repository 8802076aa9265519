use Rattle.std.proofs.Common.{ℕ, Option, refl, ap, subst}
use Rattle.pw_top_words.specs.CommandLine.{Reads, number_or, steps, steps_limit, usual_steps}
use Rattle.pw_top_words.proofs.Said.{option_said}
use Rattle.pw_top_words.proofs.reading.steps.Goals as goal

pub returns-clause-read : goal.returns-clause-read
returns-clause-read c = λ parts same.
    subst (λ (o : Option ℕ). Reads o c.number_or.result) (ap (number_or 1 steps_limit usual_steps) (option_said steps parts c.args.matches.now refl same)) c.number_or.ensures.read
