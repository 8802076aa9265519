use Rattle.pw_law_temps.proofs.Serving.{serves}
use Rattle.pw_law_temps.proofs.laws.temporaries_serve.Goals as goal

pub returns : goal.returns
returns c =
    serves c.longer_paths_add_nothing.ensures.front c.operations_interfere.ensures.written c.operations_interfere.ensures.held
    c.registers_keep_apart.ensures.count c.registers_keep_apart.ensures.apart
