use Rattle.pw_law_select_frames.proofs.Stepping.{all_active, links_stand, frames_are_stacked, objects_below}
use Rattle.pw_law_select_frames.proofs.Amid.{goes_on_whole}
use Rattle.pw_law_select_frames.proofs.whole_states_go_on.Goals as goal

pub returns-clause-active : goal.returns-clause-active
returns-clause-active c = all_active

pub returns-clause-links : goal.returns-clause-links
returns-clause-links c = links_stand

pub returns-clause-stacked : goal.returns-clause-stacked
returns-clause-stacked c = frames_are_stacked

pub returns-clause-objects : goal.returns-clause-objects
returns-clause-objects c = objects_below

pub returns-clause-operations : goal.returns-clause-operations
returns-clause-operations c = λ p w functions scratch site m n l o ops lawful h known is follows keeps count room. goes_on_whole p w functions scratch site m n l o ops lawful h known is follows keeps count room
