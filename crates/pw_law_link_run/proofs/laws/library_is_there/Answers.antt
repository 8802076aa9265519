use Rattle.pw_law_link_run.proofs.Behind as behind
use Rattle.pw_law_link_run.proofs.laws.library_is_there.Goals as goal

pub returns-clause-library : goal.returns-clause-library
returns-clause-library c = behind.library_is_there

pub returns-clause-routines : goal.returns-clause-routines
returns-clause-routines c = λ x fr h. behind.routines_are_there x fr h (record {
  divs = c.routines_leave_results.ensures.divs (x.addresses.routine 0);
  divu = c.routines_leave_results.ensures.divu (x.addresses.routine 1);
  mul = c.routines_leave_results.ensures.mul (x.addresses.routine 2);
  rems = c.routines_leave_results.ensures.rems (x.addresses.routine 3);
  remu = c.routines_leave_results.ensures.remu (x.addresses.routine 4);
})
