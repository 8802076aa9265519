use Rattle.std.proofs.Common.{refl, sym, ◌∙◌}
use Rattle.pw_cmean.specs.Acts.{wrong}
use Rattle.pw_interp_todo.specs.declared.todo.Transfer.TheVariants as T
use Rattle.pw_interp_todo.proofs.LeadLaws.{followed, left_so, named}
use Rattle.pw_interp_functions.proofs.LibraryLaws.{right_read, wrong_read}
use Rattle.pw_interp_functions.proofs.Continuing.{ends_continue}
use Rattle.pw_interp_functions.proofs.library.reading.Goals as goal

pub returns-then-are_none : goal.returns-then-are_none
returns-then-are_none c world w = left_so T.Read refl (named (right_read c.args.args.now (sym c.are_none.ensures ∙ c.if-are_none.true)))

pub returns-else-are_none : goal.returns-else-are_none
unfolding wrong
returns-else-are_none c world w = followed (named (wrong_read c.args.args.now (sym c.are_none.ensures ∙ c.if-are_none.false))) (ends_continue refl)
