-- The tokens of a text as a function, piece by piece from its beginning.
use Rattle.std.specs.Prelude.{ℕ, zero, suc, ◌+◌, Bool, true, false, ◌==◌, nat_le, nat_lt, if◌then◌else◌, List, [], ◌++◌, length, take, drop, Option, Some, None, Result, Ok, Err}
use Rattle.pw_token.specs.Limits.{text_limit, token_limit}
use Rattle.pw_token.specs.Pieces.{piece_at}
use Rattle.pw_token.specs.Tokenization.{line_start_after, token_in}
use Rattle.pw_token.specs.declared.piece.PieceKind.{PieceKind}
use Rattle.pw_token.specs.declared.piece.PieceKind.TheVariants as piece
use Rattle.pw_token.specs.declared.token.LexFault.{LexFault}
use Rattle.pw_token.specs.declared.token.LexFault.TheVariants.{Bad, TooLong, TooMany}
use Rattle.pw_token.specs.declared.token.Token.{Token}

-- a text's tokens, or its fault
abbrev pub LexAnswer : Type 0
LexAnswer = Result (List Token) LexFault

-- a token behind as many others as a text may have
abbrev pub is_too_many : PieceKind → List Token → Bool
is_too_many (piece.Token kind) tokens = length tokens == token_limit
is_too_many piece.Blank tokens = false
is_too_many piece.Comment tokens = false
is_too_many piece.LineMarker tokens = false

-- The piece at a place behind these tokens, if one stands there; `onward` goes on behind it.
abbrev pub met : (ℕ → Bool → List Token → LexAnswer) → List ℕ → ℕ → Bool → List Token → Option (PieceKind × ℕ) → LexAnswer
met onward text at line_start tokens None = Err (Bad at)
met onward text at line_start tokens (Some (kind, len)) =
    if is_too_many kind tokens then Err (TooMany at)
    else onward (at + len) (line_start_after line_start kind (take len (drop at text))) (tokens ++ token_in kind at len)

-- from a place on, behind these tokens, over so many pieces at most
unfoldable pub lexed_from : ℕ → List ℕ → ℕ → Bool → List Token → LexAnswer
lexed_from zero text at line_start tokens = Ok tokens
lexed_from (suc most) text at line_start tokens =
    if nat_le (length text) at then Ok tokens
    else met (lexed_from most text) text at line_start tokens (piece_at line_start (drop at text))

-- A piece has one byte or more, so that no text has more pieces than bytes.
unfoldable pub lexed : List ℕ → LexAnswer
lexed text = if nat_lt text_limit (length text) then Err TooLong else lexed_from (length text) text 0 true []
