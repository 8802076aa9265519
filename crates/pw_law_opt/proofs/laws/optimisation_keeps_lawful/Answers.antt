use Rattle.pw_law_opt.proofs.Lawful.{lawful_stays}
use Rattle.pw_law_opt.proofs.laws.optimisation_keeps_lawful.Goals as goal

pub returns : goal.returns
returns c = lawful_stays (record {
  quotient = c.results_are_words.ensures.quotient;
  remainder = c.results_are_words.ensures.remainder;
  shift = c.results_are_words.ensures.shift;
})
