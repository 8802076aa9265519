-- Files: lines, groups and includes (ISO/IEC 9899:1990, 6.8).
use Rattle.std.specs.Prelude.{◌≡◌, ℕ, suc, ◌+◌, ◌-◌, ◌≤◌, ◌<◌, Bool, true, false, not, ◌&&◌, ◌||◌, ◌==◌, if◌then◌else◌, nat_le, nat_lt, List, [], ◌∷◌, ◌++◌, take, drop, length, map, filter, codes, bytes_eq, Option, Some, None, Result, Ok, Err}
use Rattle.std.specs.List.{list_any, flat_map, starts_with}
use Rattle.pw_token.specs.Places.{line_at}
use Rattle.pw_token.specs.Roles.{spelling}
use Rattle.pw_token.specs.declared.token.Token.{Token}
use Rattle.pw_cpp_directives.specs.Directives.{DoesWord, Effect, Becomes, Fails, Standing, fault, fault_of_expansion, standing, word_of}
use Rattle.pw_cpp_directives.specs.Groups.{Nested, Sections, is_opening, is_reading, is_turn, nested_after}
use Rattle.pw_cpp_directives.specs.declared.directive.Fault.{Fault}
use Rattle.pw_cpp_directives.specs.declared.fault.CppKind.{CppKind}
use Rattle.pw_cpp_directives.specs.declared.fault.CppKind.TheVariants as kind
use Rattle.pw_cpp_directives.specs.declared.fault.CppWhich.TheVariants as which
use Rattle.pw_cpp_directives.specs.declared.condition.Digits.{Digits}
use Rattle.pw_cpp_expand.specs.Expansion.{Expands, Outcome, Done, Stopped}
use Rattle.pw_cpp_expand.specs.Lookahead.{Further, Lexeme, ReadsOn, Tokens, Fault as Unread, fresh}
use Rattle.pw_cpp_expand.specs.declared.progress.Mode.TheVariants.{InText}
use Rattle.pw_cpp_expand.specs.declared.progress.Progress.{Progress}
use Rattle.pw_cpp_expand.specs.declared.progress.ExpandFault.{ExpandFault}
use Rattle.pw_cpp_lines.specs.Heads.{IsHead, header_name}
use Rattle.pw_cpp_lines.specs.Lines.{Lexes, PassesSpace}
use Rattle.pw_cpp_lines.specs.Passing.{PassesLine, PassesRest}
use Rattle.pw_cpp_lines.specs.declared.head.Head.{Head}
use Rattle.pw_cpp_lines.specs.declared.head.Head.TheVariants as head
use Rattle.pw_cpp_lines.specs.declared.head.Span.{Span}
use Rattle.pw_cpp_lines.specs.declared.line.Line.{Line}
use Rattle.pw_cpp_lines.specs.declared.line.LineFault.{LineFault}
use Rattle.pw_cpp_lines.specs.declared.line.LineFault.TheVariants as no
use Rattle.pw_cpp_lines.specs.declared.line.LineFault.TheVariants.{Bad}
use Rattle.pw_cpp_sources.specs.Sources.{File, text_of, size_of, file_named, depth_limit, header_name_limit, length_limit, header_of, line_of}
use Rattle.pw_cpp_sources.specs.Rows.{Row, rows_of, output_of}
use Rattle.pw_cpp.specs.declared.way.Way.{Way}
use Rattle.pw_cpp.specs.declared.way.Way.TheVariants.{Pragma, Include, Whole, Passed}

-- ---- reading a file

-- What is known while files are read: macros, open sections of the file at hand, tokens produced; the sections that are open within a
-- group that is passed over; and the output so far with its length.
pub record Reading : Type 0 where
  pub standing_is : Standing
  pub nested : Nested
  pub out : List Row
  pub size : ℕ

-- what reading comes to: how things stand behind a file, or a fault with its file's name
pub data Result_of : Type 0 where
  Read : Reading → Result_of
  Faulted : List ℕ → Fault → Result_of

abbrev pub progress : Reading → ℕ → Progress
progress r at = record { next = at; rows = []; produced = r.standing_is.produced; size = r.size }

abbrev pub begins : Sections → Standing → Standing
begins sections s = standing s.macros sections s.produced

-- a text's rows behind the output so far, and where reading goes on
abbrev pub with_text : Reading → List Lexeme → Progress → Reading
with_text r out p = record { standing_is = standing r.standing_is.macros r.standing_is.sections p.produced; nested = r.nested; out = r.out ++ rows_of p.rows out; size = p.size }

abbrev pub with_standing : Reading → Standing → Reading
with_standing r s = record { standing_is = s; nested = r.nested; out = r.out; size = r.size }

abbrev pub with_nested : Reading → Nested → Reading
with_nested r nested = record { standing_is = r.standing_is; nested = nested; out = r.out; size = r.size }

-- ---- which directives are looked at

abbrev pub name_of : List ℕ → Span → List ℕ
name_of source name = take name.len (drop name.at source)

-- A directive is looked at where lines are read; in a group that is passed over, where it goes on with the section of the group.
abbrev pub is_looked_at : Reading → List ℕ → Bool
is_looked_at r name = is_reading r.standing_is.sections || (length r.nested == 0 && is_turn name)

-- What is done with a directive: `#pragma` and `#include` have lines of their own, the line of any other that is looked at lexes whole,
-- and the others are passed over.
abbrev pub use_of : Reading → List ℕ → Way
use_of r name =
    if is_reading r.standing_is.sections && bytes_eq name (codes "pragma") then Pragma
    else (if is_reading r.standing_is.sections && bytes_eq name (codes "include") then Include
    else (if is_looked_at r name then Whole else Passed))

-- what the name of a directive that is passed over does to the sections within the group; None where it may not stand there
abbrev pub passing : List ℕ → Nested → Option Nested
passing name [] = if is_opening name then Some (false ∷ []) else Some []
passing name (behind_else ∷ outer) = nested_after name behind_else outer

-- ---- what a line does

-- reading goes on at a place, or there is a fault of a file
pub data Step : Type 0 where
  GoesOn : ℕ → Reading → Step
  Stops : List ℕ → Fault → Step

-- a line has no tokens
abbrev pub unlexed : File → LineFault → Step
unlexed file (Bad place) = Stops file.name (fault kind.Lex place)
unlexed file no.NoMemory = Stops file.name (fault kind.NoMemory 0)

-- a text line with what its calls read further is expanded
abbrev pub after_text : File → Reading → Outcome → Step
after_text file r (Done out q) = GoesOn q.next (with_text r out q)
after_text file r (Stopped f) = Stops file.name (fault_of_expansion f)

-- a directive is obeyed
abbrev pub after_effect : File → Reading → ℕ → Effect → Step
after_effect file r next (Becomes s) = GoesOn next (with_standing r s)
after_effect file r next (Fails f) = Stops file.name f

-- a header is read, and the sections of the file that includes it are at hand again
abbrev pub after_header : Reading → ℕ → Result_of → Step
after_header r next (Read s) = GoesOn next (with_standing s (begins r.standing_is.sections s.standing_is))
after_header r next (Faulted name f) = Stops name f

-- an include whose header does not stand in quotes
abbrev pub after_unquoted : File → ℕ → Result Line LineFault → Step
after_unquoted file hash (Ok found) = Stops file.name (fault kind.Directive hash)
after_unquoted file hash (Err f) = unlexed file f

-- a header's name that is empty or too long, or with tokens behind it
abbrev pub is_wrong_include : Span → Line → Bool
is_wrong_include x found = x.len == 0 || nat_lt header_name_limit x.len || nat_lt 0 (length found.tokens)

-- the name of the header that stands in quotes at a place
abbrev pub quoted_name : List ℕ → ℕ → Option Span
quoted_name text start = if nat_lt start (length text) then header_name text start else None

-- a group that is passed over has a directive
abbrev pub after_passed : File → ℕ → ℕ → Reading → Option Nested → Step
after_passed file hash next r (Some nested) = GoesOn next (with_nested r nested)
after_passed file hash next r None = Stops file.name (fault kind.Condition hash)

-- the end of a file, where no section may be open
abbrev pub ended_in : File → Reading → Sections → Result_of
ended_in file r [] = Read r
ended_in file r (section ∷ outer) = Faulted file.name (fault kind.Condition file.end)

pub data ReadsText (source : List ℕ) : File → Reading → Further → Step → Type 0 where
  unread : (file : File) (r : Reading) (f : ExpandFault) → ReadsText source file r (Unread f) (Stops file.name (fault_of_expansion f))
  expands : (file : File) (r : Reading) (tokens : List Token) (p : Progress) (outcome : Outcome) (step : Step)
      → Expands source (text_of source file) r.standing_is.macros InText (map fresh tokens) p outcome → step ≡ after_text file r outcome
      → ReadsText source file r (Tokens tokens p) step

-- A line that lexes whole begins with a `#` alone, and is empty behind it, or a directive with its word.
pub data ObeysTokens (source : List ℕ) (digits : Digits) : File → Reading → ℕ → List ℕ → ℕ → List Token → Step → Type 0 where
  nothing : (file : File) (r : Reading) (hash : ℕ) (name : List ℕ) (next : ℕ) → ObeysTokens source digits file r hash name next [] (Stops file.name (fault kind.Directive hash))
  empty : (file : File) (r : Reading) (hash : ℕ) (name : List ℕ) (next : ℕ) (first : Token) (step : Step)
      → step ≡ (if first.len == 1 then GoesOn next r else Stops file.name (fault kind.Directive hash)) → ObeysTokens source digits file r hash name next (first ∷ []) step
  two_hashes : (file : File) (r : Reading) (hash : ℕ) (name : List ℕ) (next : ℕ) (first word : Token) (others : List Token) → (first.len == 1) ≡ false
      → ObeysTokens source digits file r hash name next (first ∷ word ∷ others) (Stops file.name (fault kind.Directive hash))
  directive : (file : File) (r : Reading) (hash : ℕ) (name : List ℕ) (next : ℕ) (first word : Token) (others : List Token) (effect : Effect) (step : Step)
      → (first.len == 1) ≡ true → DoesWord source digits r.standing_is hash others (word_of name) effect → step ≡ after_effect file r next effect
      → ObeysTokens source digits file r hash name next (first ∷ word ∷ others) step

pub data Obeys (source : List ℕ) (digits : Digits) : File → Reading → ℕ → List ℕ → Result Line LineFault → Step → Type 0 where
  no_tokens : (file : File) (r : Reading) (hash : ℕ) (name : List ℕ) (f : LineFault) (step : Step) → step ≡ unlexed file f
      → Obeys source digits file r hash name (Err f) step
  tokens : (file : File) (r : Reading) (hash : ℕ) (name : List ℕ) (found : Line) (step : Step) → ObeysTokens source digits file r hash name found.next found.tokens step
      → Obeys source digits file r hash name (Ok found) step

mutual
  -- A file at a depth of includes is read whole, from its beginning on; no section of a file is another's.
  pub data ReadsFile (source : List ℕ) (files : List File) (digits : Digits) : ℕ → File → Reading → Result_of → Type 0 where
    too_long : (depth : ℕ) (file : File) (r : Reading) (found : Result_of) → length_limit < size_of file
        → found ≡ Faulted file.name (fault (kind.Limit which.Length (length_limit + 1)) file.from) → ReadsFile source files digits depth file r found
    whole : (depth : ℕ) (file : File) (r : Reading) (found : Result_of) → size_of file ≤ length_limit
        → ReadsLines source files digits depth file file.from (with_standing r (begins [] r.standing_is)) found → ReadsFile source files digits depth file r found

  -- the lines of a file from a place on
  pub data ReadsLines (source : List ℕ) (files : List File) (digits : Digits) : ℕ → File → ℕ → Reading → Result_of → Type 0 where
    ends : (depth : ℕ) (file : File) (at : ℕ) (r : Reading) (found : Result_of) → length (text_of source file) ≤ at → found ≡ ended_in file r r.standing_is.sections
        → ReadsLines source files digits depth file at r found
    line : (depth : ℕ) (file : File) (at : ℕ) (r : Reading) (what : Head) (step : Step) (found : Result_of) → at < length (text_of source file) → IsHead (text_of source file) at what
        → ReadsLine source files digits depth file at r what step → Continues source files digits depth file step found → ReadsLines source files digits depth file at r found

  pub data Continues (source : List ℕ) (files : List File) (digits : Digits) : ℕ → File → Step → Result_of → Type 0 where
    goes_on : (depth : ℕ) (file : File) (next : ℕ) (r : Reading) (found : Result_of) → ReadsLines source files digits depth file next r found
        → Continues source files digits depth file (GoesOn next r) found
    stops : (depth : ℕ) (file : File) (name : List ℕ) (f : Fault) → Continues source files digits depth file (Stops name f) (Faulted name f)

  -- A line is read where the group is taken. A marker is passed over anywhere.
  pub data ReadsLine (source : List ℕ) (files : List File) (digits : Digits) : ℕ → File → ℕ → Reading → Head → Step → Type 0 where
    marker : (depth : ℕ) (file : File) (at : ℕ) (r : Reading) (hash next : ℕ) → PassesRest (text_of source file) hash next
        → ReadsLine source files digits depth file at r (head.Marker hash) (GoesOn next r)
    text : (depth : ℕ) (file : File) (at : ℕ) (r : Reading) (further : Further) (step : Step) → is_reading r.standing_is.sections ≡ true
        → ReadsOn (text_of source file) at (progress r at) further → ReadsText source file r further step → ReadsLine source files digits depth file at r head.Text step
    passed_text : (depth : ℕ) (file : File) (at : ℕ) (r : Reading) (next : ℕ) → is_reading r.standing_is.sections ≡ false → PassesLine (text_of source file) at next
        → ReadsLine source files digits depth file at r head.Text (GoesOn next r)
    directive_line : (depth : ℕ) (file : File) (at : ℕ) (r : Reading) (hash : ℕ) (name : Span) (step : Step)
        → ReadsDirective source files digits depth file at r hash name (use_of r (name_of (text_of source file) name)) step
        → ReadsLine source files digits depth file at r (head.Directive hash name) step

  pub data ReadsDirective (source : List ℕ) (files : List File) (digits : Digits) : ℕ → File → ℕ → Reading → ℕ → Span → Way → Step → Type 0 where
    pragma : (depth : ℕ) (file : File) (at : ℕ) (r : Reading) (hash : ℕ) (name : Span) (next : ℕ) → PassesRest (text_of source file) (name.at + name.len) next
        → ReadsDirective source files digits depth file at r hash name Pragma (GoesOn next r)
    include : (depth : ℕ) (file : File) (at : ℕ) (r : Reading) (hash : ℕ) (name : Span) (start : ℕ) (step : Step)
        → PassesSpace (text_of source file) (name.at + name.len) start
        → Includes source files digits depth file r hash (name.at + name.len) (quoted_name (text_of source file) start) step
        → ReadsDirective source files digits depth file at r hash name Include step
    whole_line : (depth : ℕ) (file : File) (at : ℕ) (r : Reading) (hash : ℕ) (name : Span) (found : Result Line LineFault) (step : Step)
        → Lexes (text_of source file) hash found → Obeys source digits file r hash (name_of (text_of source file) name) found step
        → ReadsDirective source files digits depth file at r hash name Whole step
    passed : (depth : ℕ) (file : File) (at : ℕ) (r : Reading) (hash : ℕ) (name : Span) (next : ℕ) (step : Step) → PassesLine (text_of source file) at next
        → step ≡ after_passed file hash next r (passing (name_of (text_of source file) name) r.nested) → ReadsDirective source files digits depth file at r hash name Passed step

  -- The header of an include stands in quotes, with nothing behind it.
  pub data Includes (source : List ℕ) (files : List File) (digits : Digits) : ℕ → File → Reading → ℕ → ℕ → Option Span → Step → Type 0 where
    unquoted : (depth : ℕ) (file : File) (r : Reading) (hash behind : ℕ) (found : Result Line LineFault) (step : Step) → Lexes (text_of source file) behind found
        → step ≡ after_unquoted file hash found → Includes source files digits depth file r hash behind None step
    quoted : (depth : ℕ) (file : File) (r : Reading) (hash behind : ℕ) (x : Span) (found : Result Line LineFault) (step : Step)
        → Lexes (text_of source file) (x.at + x.len + 1) found → IncludesQuoted source files digits depth file r hash x found step
        → Includes source files digits depth file r hash behind (Some x) step

  pub data IncludesQuoted (source : List ℕ) (files : List File) (digits : Digits) : ℕ → File → Reading → ℕ → Span → Result Line LineFault → Step → Type 0 where
    no_rest : (depth : ℕ) (file : File) (r : Reading) (hash : ℕ) (x : Span) (f : LineFault) (step : Step) → step ≡ unlexed file f
        → IncludesQuoted source files digits depth file r hash x (Err f) step
    wrong : (depth : ℕ) (file : File) (r : Reading) (hash : ℕ) (x : Span) (found : Line) → is_wrong_include x found ≡ true
        → IncludesQuoted source files digits depth file r hash x (Ok found) (Stops file.name (fault kind.Directive hash))
    named : (depth : ℕ) (file : File) (r : Reading) (hash : ℕ) (x : Span) (found : Line) (step : Step) → is_wrong_include x found ≡ false
        → IncludesHeader source files digits depth file r hash found.next (name_of (text_of source file) x) (header_of files (name_of (text_of source file) x)) step
        → IncludesQuoted source files digits depth file r hash x (Ok found) step

  -- The header is read one deeper, if it is there and not too deep.
  pub data IncludesHeader (source : List ℕ) (files : List File) (digits : Digits) : ℕ → File → Reading → ℕ → ℕ → List ℕ → Option File → Step → Type 0 where
    no_header : (depth : ℕ) (file : File) (r : Reading) (hash next : ℕ) (name : List ℕ)
        → IncludesHeader source files digits depth file r hash next name None (Stops file.name (fault (kind.Include name) hash))
    too_deep : (depth : ℕ) (file header : File) (r : Reading) (hash next : ℕ) (name : List ℕ) → depth_limit ≤ depth
        → IncludesHeader source files digits depth file r hash next name (Some header) (Stops file.name (fault (kind.Limit which.Depth (depth_limit + 1)) hash))
    header : (depth : ℕ) (file inner : File) (r : Reading) (hash next : ℕ) (name : List ℕ) (found : Result_of) (step : Step) → depth < depth_limit
        → ReadsFile source files digits (suc depth) inner r found → step ≡ after_header r next found
        → IncludesHeader source files digits depth file r hash next name (Some inner) step

-- ---- all

abbrev pub at_first : Reading
at_first = record { standing_is = standing [] [] 0; nested = []; out = []; size = 0 }

-- What preprocessing a file comes to: its output, or the kind, the file and the line of its first fault.
pub data Preprocesses (source : List ℕ) (files : List File) (digits : Digits) (name : List ℕ) : Result (List ℕ) (CppKind × List ℕ × ℕ) → Type 0 where
  output : (file : File) (r : Reading) → file_named files name ≡ Some file → ReadsFile source files digits 0 file at_first (Read r)
      → Preprocesses source files digits name (Ok (output_of source r.out))
  faulted : (file inner : File) (f : Fault) → file_named files name ≡ Some file → file_named files inner.name ≡ Some inner
      → ReadsFile source files digits 0 file at_first (Faulted inner.name f) → Preprocesses source files digits name (Err (f.kind, inner.name, line_of source inner f.place))
