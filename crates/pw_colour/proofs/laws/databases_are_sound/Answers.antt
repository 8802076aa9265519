use Rattle.pw_colour.proofs.Start.{database_sound}
use Rattle.pw_colour.proofs.laws.databases_are_sound.Goals as goal

pub returns : goal.returns
returns c = database_sound c.free_registers_are_saved_above.ensures.of_no_web c.free_registers_are_saved_by_name.ensures
