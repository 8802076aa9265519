use Rattle.pw_law_select_rows.proofs.Computing.{copy_got, constant_got, address_got, frame_address_got}
use Rattle.pw_law_select_rows.proofs.registers_get_words.Goals as goal

pub returns-clause-copy : goal.returns-clause-copy
returns-clause-copy c = copy_got

pub returns-clause-constant : goal.returns-clause-constant
returns-clause-constant c = constant_got

pub returns-clause-address : goal.returns-clause-address
returns-clause-address c = address_got

pub returns-clause-frame : goal.returns-clause-frame
returns-clause-frame c = frame_address_got
