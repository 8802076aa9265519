use Rattle.pw_law_never.proofs.Programs.{never-wrong}
use Rattle.pw_law_never.proofs.resolved_programs_are_never_wrong.Goals as goal

pub returns : goal.returns
returns g = λ p frame_of stack input n well resolved bytes. never-wrong (record {
  types = record { expressions = g.values_have_types.ensures.expressions; places = g.values_have_types.ensures.places };
  calls_give = g.values_have_types.ensures.calls;
}) p frame_of stack input n well resolved bytes
