use Rattle.std.proofs.Common.{ap, ◌∙◌}
use Rattle.pw_cpp_directives.proofs.Judging.{said-one, said-zero}
use Rattle.pw_cpp_directives.proofs.condition.truth_token.Goals as goal
use Rattle.pw_cpp_macros.specs.Macros.{find}

pub returns-in-Some : goal.returns-in-Some
returns-in-Some c = said-one c.args.digits c.args.macros.now _ _ (c.in-Some.ensures ∙ ap (find c.args.macros.now) c.spelled.ensures)

pub returns-in-None : goal.returns-in-None
returns-in-None c = said-zero c.args.digits c.args.macros.now _ (c.in-None.ensures ∙ ap (find c.args.macros.now) c.spelled.ensures)
