-- Logical lines: a text is read line by line, each as tokens with blanks and comments between them (ISO/IEC 9899:1990, 5.1.1.2 and 6.8).
use Rattle.std.specs.Prelude.{◌≡◌, ℕ, ◌+◌, ◌<◌, ◌≤◌, Bool, true, false, ◌||◌, ◌==◌, ◌⊎◌, if◌then◌else◌, nat_le, List, [], ◌∷◌, ◌++◌, drop, length, slice_index, Option, Some, None, Result, Ok, Err, ⊤}
use Rattle.pw_token.specs.Tokenization.{BeginsWith, token_in}
use Rattle.pw_token.specs.declared.piece.PieceKind.{PieceKind}
use Rattle.pw_token.specs.declared.piece.PieceKind.TheVariants as piece
use Rattle.pw_token.specs.declared.token.Token.{Token}
use Rattle.pw_cpp_lines.specs.declared.line.Line.{Line}
use Rattle.pw_cpp_lines.specs.declared.line.LineFault.{LineFault}
use Rattle.pw_cpp_lines.specs.declared.line.LineFault.TheVariants.{Bad, NoMemory}

-- a piece of a line: its kind, and its length in bytes
abbrev pub LinePiece : Type 0
LinePiece = PieceKind × ℕ

-- At a place between two pieces a line ends: its newline stands there, or the text ends. A newline behind a backslash is
-- no such place, since the two are one blank.
abbrev pub is_line_end : List ℕ → ℕ → Bool
is_line_end text at = nat_le (length text) at || slice_index text at == 10

-- where the next line begins, of a line that ends at a place
abbrev pub behind_line : List ℕ → ℕ → ℕ
behind_line text end = if nat_le (length text) end then end else end + 1

-- The next line begins behind the place where this one does, unless the text ends there.
abbrev pub IsBehind : List ℕ → ℕ → ℕ → Type 0
IsBehind text at next = (at ≤ next) × (at < length text → at < next)

-- ---- cuttings

-- which kinds of pieces are cut off
abbrev pub Kinds : Type 0
Kinds = PieceKind → Bool

abbrev pub any_kind : Kinds
any_kind kind = true

-- blanks and comments
abbrev pub is_space : Kinds
is_space piece.Blank = true
is_space piece.Comment = true
is_space piece.LineMarker = false
is_space (piece.Token kind) = false

-- From one place to another, within one line, the text is cut into pieces of these kinds. A `#` has no meaning of its own here.
abbrev pub Cuts : Kinds → List ℕ → ℕ → List LinePiece → ℕ → Type 0
Cuts kinds text at [] end = at ≡ end
Cuts kinds text at (p ∷ ps) end =
    (is_line_end text at ≡ false) × (kinds p.0 ≡ true) × BeginsWith false p.0 p.1 (drop at text) × Cuts kinds text (at + p.1) ps end

-- no piece of these kinds begins at the place
abbrev pub NothingAt : Kinds → List ℕ → ℕ → Type 0
NothingAt kinds text at = (kind : PieceKind) (len : ℕ) → kinds kind ≡ true → BeginsWith false kind len (drop at text) → ⊥

-- the tokens among pieces of which the first stands at a place
abbrev pub tokens_of : ℕ → List LinePiece → List Token
tokens_of at [] = []
tokens_of at (p ∷ ps) = token_in p.0 at p.1 ++ tokens_of (at + p.1) ps

-- ---- lines

-- The line that begins at a place is cut into pieces up to its end: its tokens, and where the next line begins.
pub record IsLine (text : List ℕ) (at : ℕ) (line : Line) : Type 0 where
  pub pieces : List LinePiece
  pub end : ℕ
  pub cut : Cuts any_kind text at pieces end
  pub ends : is_line_end text end ≡ true
  pub tokens_are : line.tokens ≡ tokens_of at pieces
  pub next_is : line.next ≡ behind_line text end

-- The line that begins at a place is cut up to another, and there no piece begins.
pub record IsBadLine (text : List ℕ) (at place : ℕ) : Type 0 where
  pub pieces : List LinePiece
  pub cut : Cuts any_kind text at pieces place
  pub goes_on : is_line_end text place ≡ false
  pub nothing : NothingAt any_kind text place

-- what the line that begins at a place comes to
abbrev pub Lexes : List ℕ → ℕ → Result Line LineFault → Type 0
Lexes text at (Ok line) = IsLine text at line
Lexes text at (Err (Bad place)) = IsBadLine text at place
Lexes text at (Err NoMemory) = ⊥

-- a call's answer: what the line comes to, unless memory ran out
abbrev pub AnswersLine : List ℕ → ℕ → Result Line LineFault → Type 0
AnswersLine text at (Ok line) = Lexes text at (Ok line)
AnswersLine text at (Err (Bad place)) = Lexes text at (Err (Bad place))
AnswersLine text at (Err NoMemory) = ⊤

-- the length of the blank or comment that was found, 0 where none was
abbrev pub space_len : Option LinePiece → ℕ
space_len (Some p) = if is_space p.0 then p.1 else 0
space_len None = 0

-- From one place to another, within one line, there are only blanks and comments, and no further one behind them.
pub record PassesSpace (text : List ℕ) (at end : ℕ) : Type 0 where
  pub pieces : List LinePiece
  pub cut : Cuts is_space text at pieces end
  pub stop : (is_line_end text end ≡ true) ⊎ NothingAt is_space text end
