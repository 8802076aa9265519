-- What the calls of the preprocessor answer.
use Rattle.std.specs.Prelude.{◌≡◌, slice_get, ℕ, ◌≤◌, Bool, true, false, take, drop, if◌then◌else◌, ◌&&◌, ◌||◌, ◌==◌, nat_le, bytes_eq, All, ◌+◌, reverse, map, length, codes, ◌⊎◌, List, [], ◌∷◌, ◌++◌, Option, Some, None, Result, Ok, Err}
use Rattle.std.specs.Global.{Vec}
use Rattle.std.specs.List.{flat_map}
use Rattle.pw_token.specs.Roles.{spelling}
use Rattle.pw_token.specs.declared.token.Token.{Token}
use Rattle.pw_token.specs.declared.token.TokenKind.TheVariants as token
use Rattle.pw_cpp_directives.specs.Directives.{Becomes, Effect, Fails, Standing, fault, standing}
use Rattle.pw_cpp.specs.Files.{Faulted, Result_of, ObeysTokens, after_effect, GoesOn, Includes, IncludesQuoted, after_unquoted, quoted_name, Obeys, Preprocesses, Read, Reading, ReadsFile, ReadsLine, ReadsText, Step, Stops, after_passed, begins, name_of, passing, progress, with_standing}
use Rattle.pw_cpp.specs.declared.way.Way.{Way}
use Rattle.pw_cpp.specs.declared.way.Way.TheVariants.{Pragma, Include, Whole, Passed}
use Rattle.pw_cpp_directives.specs.Groups.{is_reading, is_turn}
use Rattle.pw_cpp_directives.specs.Obeying.{IsFaultOf, standing_of}
use Rattle.pw_cpp.specs.declared.reader.Reader.{Reader}
use Rattle.pw_cpp.specs.declared.fault.CppFault.{CppFault}
use Rattle.pw_cpp_sources.specs.declared.source.Place.{Place}
use Rattle.pw_cpp_directives.specs.declared.directive.Fault.{Fault}
use Rattle.pw_cpp_directives.specs.declared.directive.Standing.{Standing as Kept}
use Rattle.pw_cpp_directives.specs.declared.fault.CppKind.{CppKind}
use Rattle.pw_cpp_directives.specs.declared.fault.CppKind.TheVariants as kind
use Rattle.pw_cpp_directives.specs.declared.condition.Digits.{Digits}
use Rattle.pw_cpp_expand.specs.AtHand.{IsWithinLimits}
use Rattle.pw_cpp_expand.specs.Expansion.{Done, Expands, Outcome, Stopped, produced_limit}
use Rattle.pw_cpp_expand.specs.Lookahead.{Further, ReadsOn, Tokens, Fault as Unread, fresh, output_limit}
use Rattle.pw_cpp_expand.specs.Numbered.{HaveEmpty, IsFault, all_named}
use Rattle.pw_cpp_expand.specs.declared.progress.Lexeme.{Lexeme as Numbered}
use Rattle.pw_cpp_expand.specs.declared.progress.ExpandFault.{ExpandFault}
use Rattle.pw_cpp_expand.specs.declared.progress.Mode.TheVariants.{InText}
use Rattle.pw_cpp_expand.specs.declared.progress.Progress.{Progress}
use Rattle.pw_cpp_macros.specs.Macros.{Macros}
use Rattle.pw_cpp_sets.specs.Sets.{Keeps as KeepsSets}
use Rattle.pw_cpp_lines.specs.Heads.{IsHead}
use Rattle.pw_cpp_lines.specs.Lines.{Lexes, PassesSpace}
use Rattle.pw_cpp_lines.specs.Passing.{PassesLine}
use Rattle.pw_cpp_lines.specs.declared.head.Head.{Head}
use Rattle.pw_cpp_lines.specs.declared.head.Span.{Span}
use Rattle.pw_cpp_lines.specs.declared.line.Line.{Line}
use Rattle.pw_cpp_lines.specs.declared.line.LineFault.{LineFault}
use Rattle.pw_cpp_lines.specs.declared.line.LineFault.TheVariants.{Bad}
use Rattle.pw_cpp_values.specs.declared.arithmetic.Number.{Number}
use Rattle.pw_cpp_sources.specs.Sources.{File, text_of, file_named, line_of, files_of, names_of, IsPlaceOf, digits_of, Texts, source_of, spans_of}
use Rattle.pw_cpp_sources.specs.Rows.{AreInRows, output_of}

-- ---- files

-- What a reader has come to is how reading stands: the output is the bytes of its rows.
pub record StandsAs (reader : Reader) (reading : Reading) : Type 0 where
  pub standing_is : reading.standing_is ≡ standing_of reader.standing
  pub nested_is : reading.nested ≡ reverse reader.standing.nested
  pub out_is : output_of reader.source.now reading.out ≡ reader.out.items
  pub size_is : reading.size ≡ reader.size

-- what files a reader reads
abbrev pub reads_of : Reader → List File
reads_of reader = files_of (names_of reader.files.now) reader.spans.now

-- a file that is the first of its name
abbrev pub IsFirst : Reader → File → Type 0
IsFirst reader file = file_named (reads_of reader) file.name ≡ Some file

-- the file at hand, which is the first of its name
abbrev pub IsAt : Reader → File → Type 0
IsAt reader file = (slice_get (reads_of reader) reader.file ≡ Some file) × IsFirst reader file

-- what is not how things stand is the same
pub record IsStill (old new : Reader) : Type 0 where
  pub source : new.source.now ≡ old.source.now
  pub files : new.files.now ≡ old.files.now
  pub spans : new.spans.now ≡ old.spans.now
  pub file : new.file ≡ old.file
  pub out : new.out.items ≡ old.out.items
  pub size : new.size ≡ old.size

-- What a call answers that does a step of a file: where reading goes on, in the same file, and how it stands there; or a fault, in the file
-- that is at hand then.
abbrev pub AnswersStep : Reader → Reader → (Reading → Step → Type 0) → Result ℕ Fault → Type 0
AnswersStep old new Does (Ok next) = (new.file ≡ old.file) × ((r : Reading) → StandsAs old r → (s : Reading) × StandsAs new s × Does r (GoesOn next s))
AnswersStep old new Does (Err fault) = IsFaultOf fault (λ f. (inner : File) × IsAt new inner × ((r : Reading) → StandsAs old r → Does r (Stops inner.name f)))

-- the same of one that stays in its line
abbrev pub AnswersTokens : Reader → Reader → (Reading → Effect → Type 0) → Result (Unit {0}) Fault → Type 0
AnswersTokens old new Does (Ok done) = (r : Reading) → StandsAs old r → (s : Standing) × StandsAs new (with_standing r s) × Does r (Becomes s)
AnswersTokens old new Does (Err fault) = IsFaultOf fault (λ f. (r : Reading) → StandsAs old r → Does r (Fails f))

-- what a directive's tokens come to
abbrev pub DoesTokens : List ℕ → Digits → ℕ → List ℕ → List Token → Reading → Effect → Type 0
DoesTokens source digits hash name tokens r effect =
    (file : File) (next : ℕ) → ObeysTokens source digits file r hash name next tokens (after_effect file r next effect)

-- ---- a text line

-- nothing but the sets changes
pub record IsSame (old new : Kept) : Type 0 where
  pub macros : new.macros ≡ old.macros
  pub sections : new.sections ≡ old.sections
  pub nested : new.nested ≡ old.nested
  pub produced : new.produced ≡ old.produced
  pub sets : KeepsSets old.sets new.sets

-- how far the text has come before a text line of a file is read
abbrev pub starts : ℕ → Reader → Progress
starts at reader = record { next = at; rows = []; produced = reader.standing.produced; size = reader.size }

-- a line's tokens, and what they come to
pub record Expanded (source text : List ℕ) (macros : Macros) (at : ℕ) (p : Progress) (outcome : Outcome) : Type 0 where
  pub tokens : List Token
  pub middle : Progress
  pub reads : ReadsOn text at p (Tokens tokens middle)
  pub expands : Expands source text macros InText (map fresh tokens) middle outcome

abbrev pub AnswersText : List ℕ → Kept → Kept → List ℕ → ℕ → Progress → Progress → Result (List Numbered) ExpandFault → Type 0
AnswersText source old new text at p q (Ok out) =
    Expanded source text old.macros at p (Done (all_named new.sets out) q) × (q.next ≤ length text) × IsWithinLimits q × AreInRows q.rows out
AnswersText source old new text at p q (Err fault) = IsFault fault (λ f. ReadsOn text at p (Unread f) ⊎ Expanded source text old.macros at p (Stopped f))

-- ---- lines

-- what is done with the line at a place of a file
abbrev pub DoesLine : List ℕ → List File → Digits → ℕ → File → ℕ → Reading → Step → Type 0
DoesLine source files digits depth file at r step = (what : Head) × IsHead (text_of source file) at what × ReadsLine source files digits depth file at r what step

abbrev pub DoesText : List ℕ → File → ℕ → Reading → Step → Type 0
DoesText source file at r step = (further : Further) × ReadsOn (text_of source file) at (progress r at) further × ReadsText source file r further step

abbrev pub DoesWhole : List ℕ → Digits → File → ℕ → Span → Reading → Step → Type 0
DoesWhole source digits file hash name r step = (found : Result Line LineFault) × Lexes (text_of source file) hash found × Obeys source digits file r hash (name_of (text_of source file) name) found step

abbrev pub DoesPassed : List ℕ → File → ℕ → ℕ → Span → Reading → Step → Type 0
DoesPassed source file at hash name r step = (next : ℕ) × PassesLine (text_of source file) at next × (step ≡ after_passed file hash next r (passing (name_of (text_of source file) name) r.nested))

abbrev pub DoesInclude : List ℕ → List File → Digits → ℕ → File → ℕ → Span → Reading → Step → Type 0
DoesInclude source files digits depth file hash name r step =
    (start : ℕ) × PassesSpace (text_of source file) (name.at + name.len) start
    × Includes source files digits depth file r hash (name.at + name.len) (quoted_name (text_of source file) start) step

abbrev pub DoesQuoted : List ℕ → List File → Digits → ℕ → File → ℕ → Span → Reading → Step → Type 0
DoesQuoted source files digits depth file hash name r step =
    (found : Result Line LineFault) × Lexes (text_of source file) (name.at + name.len + 1) found × IncludesQuoted source files digits depth file r hash name found step

-- the fault of an include whose header does not stand in quotes
abbrev pub IsUnquoted : List ℕ → ℕ → ℕ → Fault → Type 0
IsUnquoted text hash behind fault =
    IsFaultOf fault (λ f. (found : Result Line LineFault) × Lexes text behind found × ((file : File) → Stops file.name f ≡ after_unquoted file hash found))

-- a file that is read to its end
abbrev pub AnswersFile : Reader → Reader → (Reading → Result_of → Type 0) → Result (Unit {0}) Fault → Type 0
AnswersFile old new Reads (Ok done) = (r : Reading) → StandsAs old r → (s : Reading) × StandsAs new s × Reads r (Read s)
AnswersFile old new Reads (Err fault) = IsFaultOf fault (λ f. (inner : File) × IsAt new inner × ((r : Reading) → StandsAs old r → Reads r (Faulted inner.name f)))

-- the file at hand, with the source up to its end
abbrev pub IsRead : Reader → File → List ℕ → Type 0
IsRead reader file text = IsAt reader file × (text ≡ text_of reader.source.now file)

-- what reading keeps within its bounds
abbrev pub IsWithin : Reader → Type 0
IsWithin reader = (reader.standing.produced ≤ produced_limit) × HaveEmpty reader.standing.sets × (reader.size ≤ output_limit)

-- ---- parts of a line's reading

abbrev pub IsLexed : List ℕ → ℕ → Result Line Fault → Type 0
IsLexed text at (Ok line) = Lexes text at (Ok line)
IsLexed text at (Err found) = IsFaultOf found (λ f. (place : ℕ) × Lexes text at (Err (Bad place)) × (f ≡ fault kind.Lex place))

-- what is done with a directive
abbrev pub use_by : Reader → List ℕ → Way
use_by reader name =
    if is_reading (reverse reader.standing.sections) && bytes_eq name (codes "pragma") then Pragma
    else (if is_reading (reverse reader.standing.sections) && bytes_eq name (codes "include") then Include
    else (if is_reading (reverse reader.standing.sections) || (length reader.standing.nested == 0 && is_turn name) then Whole else Passed))

-- nothing but how reading stands changes
abbrev pub Keeps : Reader → Reader → Type 0
Keeps old new = (new.source.now ≡ old.source.now) × (new.files.now ≡ old.files.now) × (new.spans.now ≡ old.spans.now)

-- ---- the whole

-- What preprocessing a file, which is one of these, comes to: its output, or the kind, the file and the line of its first fault.
abbrev pub PreprocessesFile : Texts → List ℕ → Result (List ℕ) (CppKind × List ℕ × ℕ) → Type 0
PreprocessesFile files name answer = Preprocesses (source_of files) (spans_of files) digits_of name answer

-- what reading the files of a source answers: the output; or a fault with the number of its file, unless memory ran out
abbrev pub AnswersReading : List ℕ → List File → Digits → List ℕ → Result (Vec ℕ) (ℕ × Fault) → Type 0
AnswersReading source files digits name (Ok out) = Preprocesses source files digits name (Ok out.items)
AnswersReading source files digits name (Err found) =
    IsFaultOf found.1 (λ f. (file : File) × (slice_get files found.0 ≡ Some file) × Preprocesses source files digits name (Err (f.kind, file.name, line_of source file f.place)))

-- what preprocessing answers: the output; or the fault with its file and its line, unless memory ran out
abbrev pub AnswersCpp : Texts → List ℕ → Result (Vec ℕ) CppFault → Type 0
AnswersCpp files name (Ok out) = PreprocessesFile files name (Ok out.items)
AnswersCpp files name (Err fault) = (fault.kind ≡ kind.NoMemory) ⊎ PreprocessesFile files name (Err (fault.kind, fault.file, fault.line))

-- the number of the first file of a name, counted from one on
abbrev pub number_from : ℕ → List (List ℕ × Vec ℕ) → List ℕ → Option ℕ
number_from number [] name = None
number_from number (file ∷ files) name = if bytes_eq name file.0 then Some number else number_from (number + 1) files name
