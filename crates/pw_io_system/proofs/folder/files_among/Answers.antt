use Rattle.std.proofs.lemmas.Fn.{FoldsTo-push}
use Rattle.pw_io_system.proofs.folder.files_among.Goals as goal

pub loop-entry-preserved : goal.loop-entry-preserved
loop-entry-preserved g c =
    FoldsTo-push _ _ _ _ _ _ c.loop-entry.invariant c.in_ok-push_entry.ensures.puts
