use Rattle.std.proofs.Common.{ap, refl, sym, ◌∙◌}
use Rattle.pw_cmean.specs.Acts.{wrong}
use Rattle.pw_cmean.specs.Evaluation.{library_call}
use Rattle.pw_cmean.specs.Worlds as worlds
use Rattle.pw_interp_todo.proofs.LeadLaws.{followed, named}
use Rattle.pw_interp_functions.proofs.LibraryLaws.{the_number, wrong_exit}
use Rattle.pw_interp_functions.proofs.Continuing.{ends_continue}
use Rattle.pw_interp_functions.proofs.library.exiting.Goals as goal

pub returns-in-Some : goal.returns-in-Some
unfolding library_call
returns-in-Some c world w =
    followed (named (ap (library_call worlds.ExitRun) (the_number c.args.args.now c.in-Some.n (sym c.only_number.ensures ∙ c.in-Some.is)))) (ends_continue refl)

pub returns-in-None : goal.returns-in-None
unfolding wrong
returns-in-None c world w = followed (named (wrong_exit c.args.args.now (sym c.only_number.ensures ∙ c.in-None.is))) (ends_continue refl)
