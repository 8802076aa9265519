use Rattle.pw_law_select_calls.proofs.Walking.{WalkLaws, webs_entered, webs_left}
use Rattle.pw_law_select_calls.proofs.webs_are_walked.Goals as goal

pub returns-clause-entered : goal.returns-clause-entered
returns-clause-entered c = let laws : WalkLaws = record { loads = c.webs_do.ensures.loaded; stores = c.webs_do.ensures.stored; shape = c.webs_keep_shape.ensures; lines = c.states_amid_go_on.ensures.lines; compose = c.states_amid_go_on.ensures.compose; passes = c.rows_pass.ensures.compose } in webs_entered laws

pub returns-clause-left : goal.returns-clause-left
returns-clause-left c = let laws : WalkLaws = record { loads = c.webs_do.ensures.loaded; stores = c.webs_do.ensures.stored; shape = c.webs_keep_shape.ensures; lines = c.states_amid_go_on.ensures.lines; compose = c.states_amid_go_on.ensures.compose; passes = c.rows_pass.ensures.compose } in webs_left laws
