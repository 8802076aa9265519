-- How the code's answers stand for what reading finds.
use Rattle.std.specs.Prelude.{◌≡◌, ℕ, ◌-◌, Result, Ok, Err}
use Rattle.pw_fields.specs.declared.fault.FieldFault.{FieldFault}
use Rattle.pw_fields.specs.declared.fault.FieldFault.TheVariants as field
use Rattle.pw_value.specs.declared.fault.FileError.{FileError}
use Rattle.pw_value.specs.declared.fault.FileError.TheVariants as file

-- an error is the fault that reading finds, unless it is want of memory
abbrev pub Fails : {Y : Type 0} → FieldFault → Result Y ℕ → Type 0
Fails field.NoMemory found = Unit {0}
Fails (field.Fault left) found = found ≡ Err left

-- what a function returned, seen by view, is what reading finds, unless memory ran out
abbrev pub AnswersField : {X Y : Type 0} → (X → Y) → Result X FieldFault → Result Y ℕ → Type 0
AnswersField view (Ok x) found = found ≡ Ok (view x)
AnswersField view (Err e) found = Fails e found

-- ---- the same of a whole file, whose faults are told by their offset

abbrev pub FailsFile : {Y : Type 0} → FileError → Result Y ℕ → Type 0
FailsFile file.NoMemory found = Unit {0}
FailsFile (file.FileFault at) found = found ≡ Err at

abbrev pub GivesFile : {X Y : Type 0} → (X → Y) → Result X FileError → Result Y ℕ → Type 0
GivesFile view (Ok x) found = found ≡ Ok (view x)
GivesFile view (Err e) found = FailsFile e found

-- a fault of bytes that end at an offset of the file, told by its own offset
abbrev pub told_at : ℕ → FieldFault → FileError
told_at end (field.Fault left) = file.FileFault (end - left)
told_at end field.NoMemory = file.NoMemory
