use Rattle.pw_commands_interp.proofs.interpreting.interpret_seen.Given as goal

abbrev pub ghosts-interpret_counted : goal.ghosts-interpret_counted
ghosts-interpret_counted g a = record { name = a.blank.name; parts = a.blank.parts }
