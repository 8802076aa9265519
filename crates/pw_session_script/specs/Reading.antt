-- What is read of a script from an input.
use Rattle.std.specs.Prelude.{◌≡◌, ◌≢◌, ℕ, ◌+◌, ◌<◌, List, [], ◌++◌, length, Option, Some, None, Result, Ok, Err, IsSomeAnd, Vec, string_bytes}
use Rattle.std.specs.declared.alloc.Global.{Global}
use Rattle.pw_io.specs.Faults.{Rose}
use Rattle.pw_session_script.specs.declared.line.Line.{Line}
use Rattle.pw_session_script.specs.declared.line.Line.TheVariants.{Put, Remove, Build, Run}
use Rattle.pw_session_script.specs.declared.line.TakenLine.{TakenLine}
use Rattle.pw_session_script.specs.declared.line.ScriptFault.{ScriptFault}
use Rattle.pw_session_script.specs.declared.line.ScriptFault.TheVariants.{BadLine, ReadFault, NoMemory}
use Rattle.pw_session_script.specs.declared.command.Command as code
use Rattle.pw_session_script.specs.declared.command.Command.TheVariants as code_command
use Rattle.pw_session_script.specs.Script.{Command, LineValue, PutFile, RemoveFile, BuildAll, RunWith, PutText, RemoveText, BuildProgram, RunProgram, by_command, command_of, content_of, first_line, line_within, line_limit, with_content}

abbrev pub line_view : Line → LineValue
line_view (Put file text) = PutText (string_bytes file) text.items
line_view (Remove file) = RemoveText (string_bytes file)
line_view Build = BuildProgram
line_view (Run input) = RunProgram input.items

abbrev pub command_view : code.Command → Command
command_view (code_command.Put file count) = PutFile file.now count
command_view (code_command.Remove file) = RemoveFile file.now
command_view code_command.Build = BuildAll
command_view (code_command.Run count) = RunWith count

-- ---- what is read

-- the count of faults of an input, where a value came or a fault in its place
abbrev pub ScriptCount : {T : Type 0} → ℕ → ℕ → Result T ScriptFault → Type 0
ScriptCount before now (Ok value) = now ≡ before
ScriptCount before now (Err BadLine) = now ≡ before
ScriptCount before now (Err ReadFault) = Rose before now
ScriptCount before now (Err NoMemory) = now ≡ before

-- the input tells what is left of its bytes, of which a prefix was read
abbrev pub IsReadInPart : List ℕ → Option (List ℕ) → Type 0
IsReadInPart rest new = IsSomeAnd new (λ later. (front : List ℕ) × (rest ≡ front ++ later))

-- a line of a command was read, or the end of the script stood there; else there is no newline where one may be
abbrev pub ReadsHead : List ℕ → Option (List ℕ) → Result (Option (Vec ℕ Global)) ScriptFault → Type 0
ReadsHead rest new (Ok None) = (rest ≡ []) × (new ≡ Some [])
ReadsHead rest new (Ok (Some head)) = (rest ≢ []) × IsSomeAnd new (λ later. line_within line_limit rest ≡ Some (head.items, later))
ReadsHead rest new (Err BadLine) = (rest ≢ []) × (line_within line_limit rest ≡ None)
ReadsHead rest new (Err ReadFault) = Unit {0}
ReadsHead rest new (Err NoMemory) = Unit {0}

-- the end of the script stands behind so many bytes of a line only where there are none
abbrev pub EndsHead : ℕ → Result (Option (Vec ℕ Global)) ScriptFault → Type 0
EndsHead read (Ok None) = read ≡ 0
EndsHead read (Ok (Some head)) = ⊥
EndsHead read (Err BadLine) = 0 < read
EndsHead read (Err ReadFault) = ⊥
EndsHead read (Err NoMemory) = ⊥

-- so many bytes and a newline were read; else they do not stand there
abbrev pub ReadsContent : ℕ → List ℕ → Option (List ℕ) → Result (Vec ℕ Global) ScriptFault → Type 0
ReadsContent count rest new (Ok content) = IsSomeAnd new (λ later. content_of count rest ≡ Some (content.items, later))
ReadsContent count rest new (Err BadLine) = content_of count rest ≡ None
ReadsContent count rest new (Err ReadFault) = Unit {0}
ReadsContent count rest new (Err NoMemory) = Unit {0}

-- the bytes behind a command were read; else they do not stand there
abbrev pub ReadsCommand : Command → List ℕ → Option (List ℕ) → Result Line ScriptFault → Type 0
ReadsCommand command rest new (Ok line) = IsSomeAnd new (λ later. with_content command rest ≡ Some (line_view line, later))
ReadsCommand command rest new (Err BadLine) = with_content command rest ≡ None
ReadsCommand command rest new (Err ReadFault) = Unit {0}
ReadsCommand command rest new (Err NoMemory) = Unit {0}

-- the same, with the count of bytes of the line, of which so many stood before
abbrev pub ReadsTaken : Command → ℕ → List ℕ → Option (List ℕ) → Result TakenLine ScriptFault → Type 0
ReadsTaken command before rest new (Ok taken) =
    IsSomeAnd new (λ later. (with_content command rest ≡ Some (line_view taken.line, later)) × (before + length rest ≡ taken.length + length later))
ReadsTaken command before rest new (Err BadLine) = with_content command rest ≡ None
ReadsTaken command before rest new (Err ReadFault) = Unit {0}
ReadsTaken command before rest new (Err NoMemory) = Unit {0}

-- the bytes behind a line were read, whose newline was read before
abbrev pub ReadsBehind : List ℕ → List ℕ → Option (List ℕ) → Result TakenLine ScriptFault → Type 0
ReadsBehind head rest new (Ok taken) =
    IsSomeAnd new (λ later. (by_command (command_of head) rest ≡ Some (line_view taken.line, later)) × (length head + 1 + length rest ≡ taken.length + length later))
ReadsBehind head rest new (Err BadLine) = by_command (command_of head) rest ≡ None
ReadsBehind head rest new (Err ReadFault) = Unit {0}
ReadsBehind head rest new (Err NoMemory) = Unit {0}

-- the first line of a script was read, with the count of its bytes, or its end stood there; else no lawful line stands there
abbrev pub ReadsLine : List ℕ → Option (List ℕ) → Result (Option TakenLine) ScriptFault → Type 0
ReadsLine rest new (Ok None) = (rest ≡ []) × (new ≡ Some [])
ReadsLine rest new (Ok (Some taken)) =
    (rest ≢ []) × IsSomeAnd new (λ later. (first_line rest ≡ Some (line_view taken.line, later)) × (length rest ≡ taken.length + length later))
ReadsLine rest new (Err BadLine) = (rest ≢ []) × (first_line rest ≡ None)
ReadsLine rest new (Err ReadFault) = Unit {0}
ReadsLine rest new (Err NoMemory) = Unit {0}
