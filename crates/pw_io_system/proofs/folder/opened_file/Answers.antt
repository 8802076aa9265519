use Rattle.std.proofs.Common.{rules}
use Rattle.pw_io_system.proofs.folder.opened_file.Goals as goal

pub returns-clause-file : goal.returns-clause-file
returns-clause-file g c =
    rw c.in_ok-file.was (c.ask-told.result, search rules, c.unless_folder.ensures)
