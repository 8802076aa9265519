use Rattle.pw_law_link.proofs.Lawful.{memory_is_lawful, parts_are_lawful}
use Rattle.pw_law_link.proofs.laws.linked_memories_are_lawful.Goals as goal

pub returns-clause-memory : goal.returns-clause-memory
returns-clause-memory c = memory_is_lawful

pub returns-clause-parts : goal.returns-clause-parts
returns-clause-parts c = parts_are_lawful
