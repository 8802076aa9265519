-- Text that is read as it is needed (ISO/IEC 9899:1990, 6.8.3): the lines behind the tokens at hand, up to the next directive.
use Rattle.std.specs.Prelude.{◌≡◌, ℕ, ◌+◌, ◌≤◌, ◌<◌, nat_le, if◌then◌else◌, List, [], ◌∷◌, ◌++◌, length, map, Result, Ok, Err}
use Rattle.pw_token.specs.declared.token.Token.{Token}
use Rattle.pw_cpp_lines.specs.Heads.{IsHead}
use Rattle.pw_cpp_lines.specs.Lines.{Lexes}
use Rattle.pw_cpp_lines.specs.Passing.{PassesRest}
use Rattle.pw_cpp_lines.specs.declared.head.Head.{Head}
use Rattle.pw_cpp_lines.specs.declared.head.Head.TheVariants as head
use Rattle.pw_cpp_lines.specs.declared.head.Span.{Span}
use Rattle.pw_cpp_lines.specs.declared.line.Line.{Line}
use Rattle.pw_cpp_lines.specs.declared.line.LineFault.{LineFault}
use Rattle.pw_cpp_lines.specs.declared.line.LineFault.TheVariants as no
use Rattle.pw_cpp_lines.specs.declared.line.LineFault.TheVariants.{Bad}
use Rattle.pw_cpp_expand.specs.declared.progress.ExpandFault.{ExpandFault}
use Rattle.pw_cpp_expand.specs.declared.progress.ExpandFault.TheVariants.{Lex, Length, NoMemory}
use Rattle.pw_cpp_expand.specs.declared.progress.Mode.{Mode}
use Rattle.pw_cpp_expand.specs.declared.progress.Mode.TheVariants.{InText, Alone}
use Rattle.pw_cpp_expand.specs.declared.progress.Progress.{Progress}

-- a token that may not be replaced by the names in its set, at the place where it stands: its own, or that of the macro's name
-- that it came from
pub record Lexeme : Type 0 where
  pub token : Token
  pub hidden : List (List ℕ)
  pub place : ℕ

-- a token as it is read
abbrev pub fresh : Token → Lexeme
fresh token = record { token = token; hidden = []; place = token.at }

-- bytes of an output
abbrev pub output_limit : ℕ
output_limit = 1048576

-- the fault of a line that has to be read
abbrev pub of_line : LineFault → ExpandFault
of_line (Bad place) = Lex place
of_line no.NoMemory = NoMemory

-- ---- the next line

-- what comes of it: no text line, its tokens, or a fault
pub data Further : Type 0 where
  Nothing : Further
  Tokens : List Token → Progress → Further
  Fault : ExpandFault → Further

-- A text line counts as a newline of the output when it is read.
abbrev pub read_to : Progress → ℕ → ℕ → Progress
read_to p at next = record { next = next; rows = p.rows ++ at ∷ []; produced = p.produced; size = p.size + 1 }

-- what comes of a text line that lexes, or does not
abbrev pub of_text_line : ℕ → Progress → Result Line LineFault → Further
of_text_line at p (Ok line) = if nat_le output_limit p.size then Fault (Length at) else Tokens line.tokens (read_to p at line.next)
of_text_line at p (Err fault) = Fault (of_line fault)

mutual
  -- The next line of a text is read from its beginning: markers are passed over, and a directive or the end of the file ends the text.
  pub data ReadsOn (text : List ℕ) : ℕ → Progress → Further → Type 0 where
    ends : (at : ℕ) (p : Progress) → length text ≤ at → ReadsOn text at p Nothing
    reads : (at : ℕ) (p : Progress) (what : Head) (further : Further) → at < length text → IsHead text at what → ReadsAs text at p what further → ReadsOn text at p further

  pub data ReadsAs (text : List ℕ) : ℕ → Progress → Head → Further → Type 0 where
    directive : (at : ℕ) (p : Progress) (hash : ℕ) (name : Span) → ReadsAs text at p (head.Directive hash name) Nothing
    marker : (at : ℕ) (p : Progress) (hash next : ℕ) (further : Further) → PassesRest text hash next → ReadsOn text next p further → ReadsAs text at p (head.Marker hash) further
    text_line : (at : ℕ) (p : Progress) (found : Result Line LineFault) (further : Further) → Lexes text at found → further ≡ of_text_line at p found
        → ReadsAs text at p head.Text further

-- ---- the next token

-- what stands ahead: the tokens at hand, or those of the next line that has any; none where the text ends; or a fault
pub data Ahead : Type 0 where
  At : List Lexeme → Progress → Ahead
  Faulty : ExpandFault → Ahead

mutual
  -- Where no token is at hand, the text is read on.
  pub data LooksAhead (text : List ℕ) : Mode → List Lexeme → Progress → Ahead → Type 0 where
    here : (mode : Mode) (first : Lexeme) (rest : List Lexeme) (p : Progress) → LooksAhead text mode (first ∷ rest) p (At (first ∷ rest) p)
    alone : (p : Progress) → LooksAhead text Alone [] p (At [] p)
    on : (p : Progress) (found : Further) (ahead : Ahead) → ReadsOn text p.next p found → LooksOn text p found ahead → LooksAhead text InText [] p ahead

  pub data LooksOn (text : List ℕ) : Progress → Further → Ahead → Type 0 where
    nothing : (p : Progress) → LooksOn text p Nothing (At [] p)
    further : (p q : Progress) (tokens : List Token) (ahead : Ahead) → LooksAhead text InText (map fresh tokens) q ahead → LooksOn text p (Tokens tokens q) ahead
    faulty : (p : Progress) (fault : ExpandFault) → LooksOn text p (Fault fault) (Faulty fault)
