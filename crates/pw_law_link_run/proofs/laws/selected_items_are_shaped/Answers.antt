use Rattle.pw_law_link_run.proofs.Shapes.{words_begin, words_go_on, frame_holds}
use Rattle.pw_law_link_run.proofs.laws.selected_items_are_shaped.Goals as goal

pub returns-clause-begin : goal.returns-clause-begin
returns-clause-begin c = words_begin

pub returns-clause-go_on : goal.returns-clause-go_on
returns-clause-go_on c = words_go_on

pub returns-clause-frame : goal.returns-clause-frame
returns-clause-frame c = frame_holds
