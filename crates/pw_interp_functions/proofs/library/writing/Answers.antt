use Rattle.std.proofs.Common.{refl, sym, ◌%◌, ◌∙◌}
use Rattle.pw_cmean.specs.Acts.{wrong}
use Rattle.pw_interp_todo.specs.declared.todo.Transfer.TheVariants as T
use Rattle.pw_interp_todo.proofs.LeadLaws.{followed, left_so, named}
use Rattle.pw_interp_functions.proofs.LibraryLaws.{right_put, wrong_put}
use Rattle.pw_interp_functions.proofs.Continuing.{ends_continue}
use Rattle.pw_interp_functions.proofs.library.writing.Goals as goal

pub returns-in-Some : goal.returns-in-Some
returns-in-Some c world w = left_so (T.Write (c.in-Some.n % 256)) refl (named (right_put c.args.args.now c.in-Some.n (sym c.only_number.ensures ∙ c.in-Some.is)))

pub returns-in-None : goal.returns-in-None
unfolding wrong
returns-in-None c world w = followed (named (wrong_put c.args.args.now (sym c.only_number.ensures ∙ c.in-None.is))) (ends_continue refl)
