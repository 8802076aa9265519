use Rattle.std.proofs.Common.{arith}
use Rattle.std.proofs.lemmas.Grind.{common_steps}
use Rattle.pw_parse_specifiers.proofs.Shown.{plain_member_shown}
use Rattle.pw_parse_specifiers.proofs.specifier.plain_member.Goals as goal

pub returns : goal.returns
returns c = grind (arith, common_steps, plain_member_shown c.declarators_show_their_lists.ensures.plain_members)
