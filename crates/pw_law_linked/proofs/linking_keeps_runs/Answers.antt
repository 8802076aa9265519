use Rattle.pw_law_linked.specs.Given.{IsGiven}
use Rattle.pw_law_linked.proofs.linking_keeps_runs.Goals as goal

pub returns : goal.returns
returns c =
    λ p d functions objects input program apart directives serve made fits read.
    let given : IsGiven p d functions objects = record { program = program; apart = apart; directives = directives; serve = serve; made = made; fits = fits } in
    let memory = c.given_programs_are_in_memory.ensures p d functions objects input given read in
    c.linked_programs_run.ensures p functions objects input (c.given_programs_are_in_place.ensures p d functions objects input given memory)
