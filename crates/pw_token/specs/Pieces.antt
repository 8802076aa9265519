-- The piece at the beginning of a text, as the code finds it: its kind and its length.
use Rattle.std.specs.Prelude.{ℕ, ◌+◌, Bool, ◌&&◌, ◌||◌, if◌then◌else◌, ◌==◌, nat_lt, List, take, drop, slice_index, Option, Some, None}
use Rattle.pw_token.specs.Bytes.{is_in}
use Rattle.pw_token.specs.Scanning.{run, word_len, integer_len, floating_len, literal_len, wide_len, comment_len, longest_in, is_splice}
use Rattle.pw_token.specs.Words.{is_keyword, marks}
use Rattle.pw_token.specs.declared.bytes.Class.TheVariants as class
use Rattle.pw_token.specs.declared.piece.PieceKind.{PieceKind}
use Rattle.pw_token.specs.declared.piece.PieceKind.TheVariants.{Blank, Comment, LineMarker, Token}
use Rattle.pw_token.specs.declared.token.TokenKind.{TokenKind}
use Rattle.pw_token.specs.declared.token.TokenKind.TheVariants.{Identifier, Keyword, Number, Floating, Character, Text, Wide, Mark, Directive}

abbrev pub Found : Type 0
Found = TokenKind × ℕ

-- the longer of two, the first where they are as long
abbrev pub longer : Found → Found → Found
longer a b = if nat_lt a.1 b.1 then b else a

abbrev pub word_kind : List ℕ → TokenKind
word_kind s = if is_keyword s then Keyword else Identifier

abbrev pub word_at : List ℕ → Found
word_at t = (word_kind (take (word_len t) t), word_len t)

-- the longest that the kinds of tokens have to offer
unfoldable pub longest_at : List ℕ → Found
longest_at t =
    longer (longer (longer (word_at t) (Number, integer_len t)) (longer (Floating, floating_len t) (Character, literal_len 39 t)))
    (longer (longer (Text, literal_len 34 t) (Wide, wide_len t)) (Mark, longest_in 0 marks t))

abbrev pub found_piece : PieceKind → ℕ → Option (PieceKind × ℕ)
found_piece kind len = if len == 0 then None else Some (kind, len)

unfoldable pub token_at : List ℕ → Option (PieceKind × ℕ)
token_at t = found_piece (Token (longest_at t).0) (longest_at t).1

-- after the `#`, a digit behind blanks
abbrev pub begins_marker : List ℕ → Bool
begins_marker t = is_in class.Digit (slice_index t (1 + run class.Gap (drop 1 t)))

abbrev pub hash_line_at : List ℕ → Option (PieceKind × ℕ)
hash_line_at t = Some (if begins_marker t then LineMarker else Token Directive, run class.InLine t)

abbrev pub is_blank : ℕ → Bool
is_blank b = is_in class.Gap b || b == 10

unfoldable pub piece_at : Bool → List ℕ → Option (PieceKind × ℕ)
piece_at line_start t =
    if is_blank (slice_index t 0) then Some (Blank, 1)
    else (if is_splice t then Some (Blank, 2)
    else (if slice_index t 0 == 47 && slice_index t 1 == 42 then found_piece Comment (comment_len t)
    else (if line_start && slice_index t 0 == 35 then hash_line_at t
    else token_at t)))
