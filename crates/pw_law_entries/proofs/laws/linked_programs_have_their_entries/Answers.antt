use Rattle.std.proofs.Common.{arith}
use Rattle.pw_law_entries.proofs.Entries.{entries_are}
use Rattle.pw_law_entries.proofs.laws.linked_programs_have_their_entries.Goals as goal

pub returns : goal.returns
returns c = λ p d functions objects is apart serve of fits.
    entries_are p d functions objects apart serve of
    (c.linked_addresses_are_lawful.ensures p d functions objects (λ f n. 0) is apart serve of fits (λ f n. omega arith))
    (c.maps_name_the_program.ensures.functions p d functions objects is serve of)
