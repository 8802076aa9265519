-- Lines that are passed over without tokens: line markers and `#pragma`, and the lines of a group that is left out (ISO/IEC 9899:1990, 6.8.1).
use Rattle.std.specs.Prelude.{◌≡◌, ℕ, zero, suc, ◌+◌, ◌-◌, ◌<◌, ◌≤◌, Bool, true, false, not, ◌||◌, ◌&&◌, ◌==◌, if◌then◌else◌, nat_le, List, [], ◌∷◌, drop, length, slice_index, Option, Some, None, Result, Ok, Err}
use Rattle.pw_token.specs.Scanning.{comment_len}
use Rattle.pw_token.specs.declared.piece.PieceKind.TheVariants as piece
use Rattle.pw_cpp_lines.specs.Lines.{LinePiece, behind_line}

-- a newline that has no backslash directly before it
abbrev pub is_bare_newline : List ℕ → ℕ → Bool
is_bare_newline text at = slice_index text at == 10 && not (slice_index text (at - 1) == 92)

-- where such a line ends
abbrev pub is_raw_end : List ℕ → ℕ → Bool
is_raw_end text at = nat_le (length text) at || is_bare_newline text at

-- The rest of a line from a place on, up to its end wherever that stands; and where the next line begins.
pub record PassesRest (text : List ℕ) (at next : ℕ) : Type 0 where
  pub end : ℕ
  pub behind : at ≤ end
  pub ends : is_raw_end text end ≡ true
  pub first : (k : ℕ) → at ≤ k → k < end → is_raw_end text k ≡ false
  pub next_is : next ≡ behind_line text end

-- ---- lines of a group that is left out

-- Behind an opening quote and n bytes: how long what it opens is, with both quotes; or, where the line ends before the closing one, how
-- many bytes stand before its end. `escaped` says that a backslash stands before that is no part of an escape, and `last` is the byte before.
abbrev pub quoted : ℕ → Bool → ℕ → ℕ → List ℕ → Result ℕ ℕ
quoted quote escaped last n [] = Err n
quoted quote escaped last n (b ∷ rest) =
    if escaped then quoted quote false b (n + 1) rest
    else (if b == quote then Ok (n + 1)
    else (if b == 10 && not (last == 92) then Err n
    else quoted quote (b == 92) b (n + 1) rest))

-- A quote that does not close in its line is a byte as any other.
abbrev pub quoted_len : Result ℕ ℕ → ℕ
quoted_len (Ok len) = len
quoted_len (Err before) = 1

-- how much of a text a quote that stands at a place takes
abbrev pub quoted_at : List ℕ → ℕ → ℕ → ℕ
quoted_at text quote at = quoted_len (quoted quote false 0 1 (drop (at + 1) text))

abbrev pub is_quote : ℕ → Bool
is_quote b = b == 39 || b == 34

abbrev pub opens_comment : List ℕ → ℕ → Bool
opens_comment text at = slice_index text at == 47 && slice_index text (at + 1) == 42

-- the length of the comment that was found, 0 where none was
abbrev pub comment_found : Option LinePiece → ℕ
comment_found (Some (piece.Comment, len)) = len
comment_found (Some (piece.Blank, len)) = 0
comment_found (Some (piece.LineMarker, len)) = 0
comment_found (Some (piece.Token kind, len)) = 0
comment_found None = 0

-- this, or another where it is 0
abbrev pub or_else : ℕ → ℕ → ℕ
or_else n other = if n == 0 then other else n

-- What is passed over at a place in one step: a comment, which may be open up to the end of the text; what stands in quotes
-- that close in the line, since no comment opens there; or a byte.
abbrev pub step_len : List ℕ → ℕ → ℕ
step_len text at =
    if opens_comment text at then or_else (comment_len (drop at text)) (length text - at)
    else (if is_quote (slice_index text at) then quoted_at text (slice_index text at) at
    else 1)

-- so many steps, none of which begins where the line ends, lead from one place to another
abbrev pub Steps : List ℕ → ℕ → ℕ → ℕ → Type 0
Steps text at zero end = at ≡ end
Steps text at (suc n) end = (is_raw_end text at ≡ false) × Steps text (at + step_len text at) n end

-- The line that begins at a place, passed over; and where the next line begins.
pub record PassesLine (text : List ℕ) (at next : ℕ) : Type 0 where
  pub steps : ℕ
  pub end : ℕ
  pub passed : Steps text at steps end
  pub ends : is_raw_end text end ≡ true
  pub next_is : next ≡ behind_line text end
