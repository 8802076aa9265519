-- The script of a session: lines of commands, some with bytes behind them.
use Rattle.std.specs.Prelude.{◌≡◌, ℕ, zero, suc, ◌+◌, ◌==◌, ◌≤◌, Bool, true, ◌&&◌, if◌then◌else◌, List, [], ◌∷◌, take, drop, codes, Option, Some, None, option_map, option_and_then}
use Rattle.std.specs.List.{position}
use Rattle.std.specs.Str.{bytes_eq, is_utf8}
use Rattle.pw_store_texts.specs.Names.{is_text_file}
use Rattle.pw_top_words.specs.CommandLine.{number_in}

-- ---- the bytes of a line

abbrev pub newline_byte : ℕ
newline_byte = 10

-- a byte before others
abbrev pub before_rest : ℕ → Option (List ℕ × List ℕ) → Option (List ℕ × List ℕ)
before_rest byte = option_map (λ cut. (byte ∷ cut.0, cut.1))

-- the bytes before the first newline, and those behind it, where it stands among so many bytes
abbrev pub line_within : ℕ → List ℕ → Option (List ℕ × List ℕ)
line_within zero script = None
line_within (suc n) [] = None
line_within (suc n) (byte ∷ bytes) = if byte == newline_byte then Some ([], bytes) else before_rest byte (line_within n bytes)

-- a line of a command has at most so many bytes, with its newline
abbrev pub line_limit : ℕ
line_limit = 512

-- so many bytes, which a newline ends, and those behind it
abbrev pub content_of : ℕ → List ℕ → Option (List ℕ × List ℕ)
content_of count [] = None
content_of zero (byte ∷ bytes) = if byte == newline_byte then Some ([], bytes) else None
content_of (suc n) (byte ∷ bytes) = before_rest byte (content_of n bytes)

-- ---- commands

-- the command that a line says: put so many bytes into a text's file, remove such a file, build, or run on so many bytes
pub data Command : Type 0 where
  PutFile : List ℕ → ℕ → Command
  RemoveFile : List ℕ → Command
  BuildAll : Command
  RunWith : ℕ → Command

abbrev pub put_limit : ℕ
put_limit = 2097152

abbrev pub run_limit : ℕ
run_limit = 1048576

abbrev pub is_space : ℕ → Bool
is_space byte = byte == 32

-- what stands before a place, and what stands behind it; where there is none, all
abbrev pub before_place : List ℕ → Option ℕ → List ℕ
before_place line None = line
before_place line (Some at) = take at line

abbrev pub behind_place : List ℕ → Option ℕ → Option (List ℕ)
behind_place line = option_map (λ at. drop (at + 1) line)

-- the word before the first space, and the words behind it, where there is one
abbrev pub first_word : List ℕ → List ℕ
first_word line = before_place line (position is_space line)

abbrev pub words_behind : List ℕ → Option (List ℕ)
words_behind line = behind_place line (position is_space line)

-- the name of a text's file: of a module's, or of a header; the names of a store's files are in UTF-8
abbrev pub file_in : List ℕ → Option (List ℕ)
file_in word = if is_text_file word && is_utf8 word then Some word else None

-- `FILE COUNT`, with COUNT in one to nineteen decimal digits
abbrev pub put_in : List ℕ → Option (List ℕ) → Option Command
put_in word None = None
put_in word (Some digits) = option_and_then (λ file. option_map (PutFile file) (number_in 0 put_limit digits)) (file_in word)

abbrev pub put_of : List ℕ → Option Command
put_of words = put_in (first_word words) (words_behind words)

-- the command of a word and the words behind it
abbrev pub long_command : List ℕ → List ℕ → Option Command
long_command word words =
    if bytes_eq word (codes "put") then put_of words else
    if bytes_eq word (codes "remove") then option_map RemoveFile (file_in words) else
    if bytes_eq word (codes "run") then option_map RunWith (number_in 0 run_limit words) else None

abbrev pub command_in : List ℕ → Option (List ℕ) → Option Command
command_in word None = if bytes_eq word (codes "build") then Some BuildAll else None
command_in word (Some words) = long_command word words

-- the command of a line, whose words are separated by one space each
abbrev pub command_of : List ℕ → Option Command
command_of line = command_in (first_word line) (words_behind line)

-- it names a text's file, and no more bytes stand behind it than may
abbrev pub IsLawfulCommand : Command → Type 0
IsLawfulCommand (PutFile file count) = (is_text_file file ≡ true) × (count ≤ put_limit)
IsLawfulCommand (RemoveFile file) = is_text_file file ≡ true
IsLawfulCommand BuildAll = Unit {0}
IsLawfulCommand (RunWith count) = count ≤ run_limit

-- ---- lines

-- a command with its bytes: a text's, or a run's input
pub data LineValue : Type 0 where
  PutText : List ℕ → List ℕ → LineValue
  RemoveText : List ℕ → LineValue
  BuildProgram : LineValue
  RunProgram : List ℕ → LineValue

-- the file that is put or removed is that of a text
abbrev pub NamesText : LineValue → Type 0
NamesText (PutText file text) = is_text_file file ≡ true
NamesText (RemoveText file) = is_text_file file ≡ true
NamesText BuildProgram = Unit {0}
NamesText (RunProgram input) = Unit {0}

-- a command with the bytes that stand behind it
abbrev pub with_content : Command → List ℕ → Option (LineValue × List ℕ)
with_content (PutFile file count) script = option_map (λ cut. (PutText file cut.0, cut.1)) (content_of count script)
with_content (RemoveFile file) script = Some (RemoveText file, script)
with_content BuildAll script = Some (BuildProgram, script)
with_content (RunWith count) script = option_map (λ cut. (RunProgram cut.0, cut.1)) (content_of count script)

-- how many bytes stand behind the line of a command, with their newline
abbrev pub content_length : Command → ℕ
content_length (PutFile file count) = count + 1
content_length (RemoveFile file) = 0
content_length BuildAll = 0
content_length (RunWith count) = count + 1

-- no line takes more bytes with those behind it
abbrev pub taken_limit : ℕ
taken_limit = line_limit + (put_limit + 1)

abbrev pub by_command : Option Command → List ℕ → Option (LineValue × List ℕ)
by_command None script = None
by_command (Some command) script = with_content command script

abbrev pub by_line : Option (List ℕ × List ℕ) → Option (LineValue × List ℕ)
by_line None = None
by_line (Some cut) = by_command (command_of cut.0) cut.1

-- the line that stands first in a script, and the script behind it; none where no lawful line stands there
abbrev pub first_line : List ℕ → Option (LineValue × List ℕ)
first_line script = by_line (line_within line_limit script)
