use Rattle.pw_law_select_calls.proofs.Walking.{WalkLaws}
use Rattle.pw_law_select_calls.proofs.GoingIn.{arguments_clear, function_goes_in}
use Rattle.pw_law_select_calls.proofs.functions_go_in.Goals as goal

pub returns-clause-clear : goal.returns-clause-clear
returns-clause-clear c = arguments_clear c.frames_are_laid_out.ensures.sizes

pub returns-clause-inside : goal.returns-clause-inside
returns-clause-inside c = let laws : WalkLaws = record { loads = c.webs_do.ensures.loaded; stores = c.webs_do.ensures.stored; shape = c.webs_keep_shape.ensures; lines = c.states_amid_go_on.ensures.lines; compose = c.states_amid_go_on.ensures.compose; passes = c.rows_pass.ensures.compose } in λ p functions w scratch site f b args m n l may goes. function_goes_in laws c.webs_are_in_order.ensures.loaded c.first_blocks_begin.ensures c.frames_are_laid_out.ensures.places c.frames_are_laid_out.ensures.sizes p functions w scratch site f b args m n l may goes
