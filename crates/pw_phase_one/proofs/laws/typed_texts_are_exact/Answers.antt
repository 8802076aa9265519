use Rattle.pw_phase_one.proofs.PhaseLaws.{typed_exact, typed_lowers, typed_refused}
use Rattle.pw_phase_one.proofs.laws.typed_texts_are_exact.Goals as goal

pub returns-clause-exact : goal.returns-clause-exact
returns-clause-exact c = typed_exact c.front_is_exact.ensures.exact c.checks_is_exact.ensures

pub returns-clause-lowers : goal.returns-clause-lowers
returns-clause-lowers c = typed_lowers

pub returns-clause-refused : goal.returns-clause-refused
returns-clause-refused c = typed_refused
