use Rattle.pw_law_levels.proofs.Leveling.{leveled, loops}
use Rattle.pw_law_levels.proofs.pointed_functions_are_leveled.Goals as goal

pub returns-clause-leveled : goal.returns-clause-leveled
returns-clause-leveled c = leveled c.loops_go_over_words.ensures.over

pub returns-clause-loops : goal.returns-clause-loops
returns-clause-loops c = loops c.loops_go_over_words.ensures.over
