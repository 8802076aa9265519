use Rattle.pw_law_select_frames.proofs.Globals.{globals_alike, given_registers_hold}
use Rattle.pw_law_select_frames.proofs.globals_stand_in_words.Goals as goal

pub returns-clause-alike : goal.returns-clause-alike
returns-clause-alike c = globals_alike c.bytes_stand.ensures.alike

pub returns-clause-given : goal.returns-clause-given
returns-clause-given c = given_registers_hold
