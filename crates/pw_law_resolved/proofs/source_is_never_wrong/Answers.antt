use Rattle.std.specs.Prelude.{◌<◌}
use Rattle.std.proofs.lemmas.List.Elements.{All-from_recursion}
use Rattle.pw_law_resolved.proofs.source_is_never_wrong.Goals as goal

pub returns : goal.returns
returns g = λ p frame_of stack input checked accepted bytes n.
    g.resolved_programs_are_never_wrong.ensures p frame_of stack input n accepted.typed (g.accepted_programs_are_resolved.ensures p frame_of stack checked accepted) (All-from_recursion (λ byte. byte < 256) input bytes)
