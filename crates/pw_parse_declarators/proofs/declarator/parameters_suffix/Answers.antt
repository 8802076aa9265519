use Rattle.std.proofs.Common.{arith}
use Rattle.std.proofs.lemmas.Grind.{common_steps}
use Rattle.pw_parse_declarators.proofs.Shown.{prototype_shown, variadic_shown}
use Rattle.pw_parse_declarators.proofs.declarator.parameters_suffix.Goals as goal

pub returns-then-variadic : goal.returns-then-variadic
returns-then-variadic c = grind (arith, common_steps, variadic_shown c.declarators_show_their_lists.ensures.variadic)

pub returns-else-variadic : goal.returns-else-variadic
returns-else-variadic c = grind (arith, common_steps, prototype_shown c.declarators_show_their_lists.ensures.prototypes)
