use Rattle.pw_law_link_run.proofs.Making.{divs_makes, divu_makes, mul_makes, rems_makes, remu_makes}
use Rattle.pw_law_link_run.proofs.laws.routines_leave_results.Goals as goal

pub returns-clause-divs : goal.returns-clause-divs
returns-clause-divs c = λ a s e. divs_makes a s (c.divs_divides.ensures a s e)

pub returns-clause-divu : goal.returns-clause-divu
returns-clause-divu c = λ a s e. divu_makes a s (c.divu_divides.ensures a s e)

pub returns-clause-mul : goal.returns-clause-mul
returns-clause-mul c = λ a s e. mul_makes a s (c.mul_multiplies.ensures a s e)

pub returns-clause-rems : goal.returns-clause-rems
returns-clause-rems c = λ a s e. rems_makes a s (c.rems_divides.ensures a s e)

pub returns-clause-remu : goal.returns-clause-remu
returns-clause-remu c = λ a s e. remu_makes a s (c.remu_divides.ensures a s e)
