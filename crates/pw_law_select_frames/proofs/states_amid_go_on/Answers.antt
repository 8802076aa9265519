use Rattle.pw_law_select_frames.proofs.Amid.{leaves_compose, whole_is_amid, amid_is_whole, operation_is_next, goes_amid}
use Rattle.pw_law_select_frames.proofs.Turning.{stands_over}
use Rattle.pw_law_select_frames.proofs.states_amid_go_on.Goals as goal

pub returns-clause-over : goal.returns-clause-over
returns-clause-over c = stands_over

pub returns-clause-compose : goal.returns-clause-compose
returns-clause-compose c = leaves_compose

pub returns-clause-lines : goal.returns-clause-lines
returns-clause-lines c = λ p w site xs rest m n l core more log lawful h known same stands leaves. goes_amid p w site xs rest m n l core lawful h known same stands leaves more log

pub returns-clause-whole : goal.returns-clause-whole
returns-clause-whole c = whole_is_amid

pub returns-clause-amid : goal.returns-clause-amid
returns-clause-amid c = amid_is_whole

pub returns-clause-operation : goal.returns-clause-operation
returns-clause-operation c = operation_is_next
