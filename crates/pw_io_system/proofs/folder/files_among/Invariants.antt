use Rattle.std.proofs.Common.{[]}
use Rattle.std.specs.Fn.{FnReturnsAt}
use Rattle.std.specs.List.{FoldsTo}
use Rattle.pw_io_system.specs.Entries.{PutsEntry}
use Rattle.pw_io_system.proofs.folder.files_among.Given as goal

-- the names are those of the entries so far, of which none had a fault
abbrev pub invariant-loop-entry : goal.invariant-loop-entry
invariant-loop-entry g l = FoldsTo (PutsEntry (FnReturnsAt g.F.Fn l.ask)) [] l.yielded l.names.items
