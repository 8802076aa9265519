use Rattle.pw_law_select_calls.proofs.Walking.{WalkLaws}
use Rattle.pw_law_select_calls.proofs.GoingBack.{EndLaws, function_goes_back}
use Rattle.pw_law_select_calls.proofs.returns_are_reached.Goals as goal

pub returns : goal.returns
returns c = let laws : WalkLaws = record { loads = c.webs_do.ensures.loaded; stores = c.webs_do.ensures.stored; shape = c.webs_keep_shape.ensures; lines = c.states_amid_go_on.ensures.lines; compose = c.states_amid_go_on.ensures.compose; passes = c.rows_pass.ensures.compose } in let ends : EndLaws = record { walk = laws; lines = c.straight_words_run.ensures.lines; loads = c.operands_are_loaded.ensures.temporary; places = c.places_stand.ensures.temporaries; words = c.rows_pass.ensures.straight; over = c.states_amid_go_on.ensures.over; whole = c.states_amid_go_on.ensures.whole; epilogue = c.functions_are_shaped.ensures.epilogue; straight = c.functions_are_shaped.ensures.loaded; order = c.webs_are_in_order.ensures.stored } in λ p functions w scratch site t m n l may goes. function_goes_back ends p functions w scratch site t m n l may goes
