use Rattle.std.proofs.Common.{arith}
use Rattle.std.proofs.lemmas.Grind.{common_steps}
use Rattle.pw_check_init_parts.proofs.FormLemmas.{list_alone}
use Rattle.pw_check_init_parts.proofs.forms.braced_string.Goals as goal

pub returns-in-List : goal.returns-in-List
returns-in-List c = grind (arith, common_steps, list_alone c.statements_show_their_lists.ensures.braces)
