use Rattle.pw_law_layers.proofs.Guarding.{guards}
use Rattle.pw_law_layers.proofs.sound_directives_guard.Goals as goal

pub returns : goal.returns
returns c = guards c.callers_leave_free_registers_alone.ensures
