use Rattle.pw_law_temps.proofs.Programs.{serve_programs}
use Rattle.pw_law_temps.proofs.laws.temporaries_serve_programs.Goals as goal

pub returns : goal.returns
returns c = serve_programs c.temporaries_serve.ensures
