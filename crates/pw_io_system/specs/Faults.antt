-- The count of faults, by the fault that is answered, and the kind of a folder's fault.
use Rattle.std.specs.Prelude.{◌≡◌, ℕ, None, Some, Ok, Err, Option, Result}
use Rattle.std.specs.IoError.{error_kind}
use Rattle.std.specs.declared.io.Error.{Error}
use Rattle.std.specs.declared.io.ErrorKind.{ErrorKind}
use Rattle.pw_io.specs.Faults.{Rose}
use Rattle.pw_io.specs.declared.StoreError.{StoreError}
use Rattle.pw_io.specs.declared.StoreError.TheVariants.{Failed, NoMemory}

-- a fault raises the count, and want of memory leaves it
abbrev pub IsCounted : ℕ → ℕ → StoreError → Type 0
IsCounted before now Failed = Rose before now
IsCounted before now NoMemory = now ≡ before

-- this is the kind of the fault that was answered, or `None` where none was
abbrev pub TellsKind : {T : Type 0} → Result T Error → Option ErrorKind → Type 0
TellsKind (Ok _) kind = kind ≡ None
TellsKind (Err fault) kind = kind ≡ Some (error_kind fault)
