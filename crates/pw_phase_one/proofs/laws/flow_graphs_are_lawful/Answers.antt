use Rattle.std.proofs.Common.{Ok, sym}
use Rattle.pw_phase_one.proofs.PhaseLaws.{compiles_lawful}
use Rattle.pw_phase_one.proofs.laws.flow_graphs_are_lawful.Goals as goal

pub returns : goal.returns
returns c = λ name text flow e. compiles_lawful c.accepted_texts_are_lawful.ensures name text flow ((c.phase_one_is_exact.ensures name text (Ok flow)).1 (sym e))
