use Rattle.std.proofs.Common.{arith}
use Rattle.std.proofs.lemmas.Grind.{common_steps}
use Rattle.pw_parse_specifiers.proofs.Shown.{bit_field_shown}
use Rattle.pw_parse_specifiers.proofs.specifier.bit_field.Goals as goal

pub returns : goal.returns
returns c = grind (arith, common_steps, bit_field_shown c.declarators_show_their_lists.ensures.bit_fields)
