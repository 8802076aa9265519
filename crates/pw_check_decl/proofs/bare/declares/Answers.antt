use Rattle.std.proofs.Common.{arith}
use Rattle.std.proofs.lemmas.Grind.{common_steps}
use Rattle.pw_check_rules.specs.Declarations.{declares_something}
use Rattle.pw_check_decl.proofs.bare.declares.Goals as goal

pub returns-in-Record : goal.returns-in-Record
unfolding declares_something
returns-in-Record c = grind (arith, common_steps, c.declarators_show_their_lists.ensures.records)

pub returns-in-RecordTag-3 : goal.returns-in-RecordTag-3
unfolding declares_something
returns-in-RecordTag-3 c = grind (arith, common_steps, c.declarators_show_their_lists.ensures.enumerations)
