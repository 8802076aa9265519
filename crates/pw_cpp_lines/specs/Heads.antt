-- How a line begins, which tells what it is: text, a line marker or a directive (ISO/IEC 9899:1990, 6.8); and where the name of
-- a header stands (6.8.2).
use Rattle.std.specs.Prelude.{◌≡◌, ℕ, ◌+◌, Bool, true, false, not, ◌&&◌, ◌==◌, if◌then◌else◌, List, drop, slice_index, Option, Some, None}
use Rattle.std.specs.List.{prefix_len}
use Rattle.pw_token.specs.Bytes.{is_in}
use Rattle.pw_token.specs.Tokenization.{BeginsWith}
use Rattle.pw_token.specs.declared.bytes.Class.TheVariants as class
use Rattle.pw_token.specs.declared.piece.PieceKind.TheVariants as piece
use Rattle.pw_cpp_lines.specs.Lines.{LinePiece, PassesSpace}
use Rattle.pw_cpp_lines.specs.declared.head.Head.{Head}
use Rattle.pw_cpp_lines.specs.declared.head.Head.TheVariants.{Text, Marker, Directive}
use Rattle.pw_cpp_lines.specs.declared.head.Span.{Span}

abbrev pub is_hash : List ℕ → ℕ → Bool
is_hash text at = slice_index text at == 35

-- At the place begins what the compiler takes for a line marker: a `#` and a digit, with blanks of the line between them.
abbrev pub IsMarker : List ℕ → ℕ → Type 0
IsMarker text at = (len : ℕ) × BeginsWith true piece.LineMarker len (drop at text)

-- whether a line marker was found
abbrev pub is_line_marker : Option LinePiece → Bool
is_line_marker (Some (piece.LineMarker, len)) = true
is_line_marker (Some (piece.Blank, len)) = false
is_line_marker (Some (piece.Comment, len)) = false
is_line_marker (Some (piece.Token kind, len)) = false
is_line_marker None = false

-- letters, digits and underscores from a place on, as many as there are
abbrev pub IsWordAt : List ℕ → Span → Type 0
IsWordAt text word = word.len ≡ prefix_len (is_in class.Word) (drop word.at text)

-- What the line is that begins at a place. Behind its blanks and comments stands no `#`; or that of a line marker; or that of
-- a directive, and behind its own blanks and comments the directive's name, which may be empty.
abbrev pub IsHead : List ℕ → ℕ → Head → Type 0
IsHead text at Text = (first : ℕ) × PassesSpace text at first × (is_hash text first ≡ false)
IsHead text at (Marker hash) = PassesSpace text at hash × (is_hash text hash ≡ true) × IsMarker text hash
IsHead text at (Directive hash name) =
    PassesSpace text at hash × (is_hash text hash ≡ true) × (IsMarker text hash → ⊥) × PassesSpace text (hash + 1) name.at × IsWordAt text name

-- ---- names of headers

-- the quote that closes what a `"` or a `<` opens
abbrev pub closing_quote : ℕ → Option ℕ
closing_quote b = if b == 34 then Some 34 else (if b == 60 then Some 62 else None)

-- a byte that may stand in a header's name before that quote
abbrev pub is_name_byte : ℕ → ℕ → Bool
is_name_byte quote b = not (b == quote) && not (b == 10)

-- the bytes up to the quote, if it stands behind them
abbrev pub name_before : List ℕ → ℕ → ℕ → Option Span
name_before text at quote =
    let len = prefix_len (is_name_byte quote) (drop at text) in
    if slice_index text (at + len) == quote then Some (record { at = at; len = len }) else None

abbrev pub name_behind : List ℕ → ℕ → Option ℕ → Option Span
name_behind text at (Some quote) = name_before text at quote
name_behind text at None = None

-- the name of a header that stands in quotes at a place
abbrev pub header_name : List ℕ → ℕ → Option Span
header_name text at = name_behind text (at + 1) (closing_quote (slice_index text at))
