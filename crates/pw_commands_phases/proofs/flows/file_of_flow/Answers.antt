use Rattle.pw_commands_phases.proofs.flows.file_of_flow.Goals as goal

pub returns : goal.returns
returns c = record {
  file = record { lawful = c.requires.database; object = c.in_ok-object.object; made = c.in_ok-object.ensures.object; file = c.in_ok-bytes.ensures };
  made = record { fits = rw c.deref.ensures.value at c.are_bytes.ensures; object = c.in_ok-object.object; made = c.in_ok-object.ensures.made; file = c.in_ok-bytes.ensures };
}
