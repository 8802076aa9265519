use Rattle.pw_law_linked.proofs.GivenInMemory.{in_memory}
use Rattle.pw_law_linked.proofs.given_programs_are_in_memory.Goals as goal

pub returns : goal.returns
returns c =
    in_memory c.modules_stand_in_order.ensures.stay
    (λ p d functions objects behind given. c.linked_addresses_are_lawful.ensures p d functions objects behind given.program given.apart given.serve given.made given.fits)
    (λ p d functions objects given. c.programs_have_lawful_parts.ensures p d functions objects given.program given.directives given.serve given.made given.fits)
    c.linked_memories_are_lawful.ensures.memory
    c.data_bytes.ensures.other
    c.runs_keep_lawful_states.ensures.start
