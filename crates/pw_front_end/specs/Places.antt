-- The place of a refusal in its text, and its line.
use Rattle.std.specs.Prelude.{ℕ, ◌-◌, List, [], length, take, Ok, Err, slice_get}
use Rattle.pw_token.specs.Limits.{text_limit}
use Rattle.pw_token.specs.Places.{line_at}
use Rattle.std.specs.Option.{option_map_or}
use Rattle.pw_token.specs.declared.token.LexFault.TheVariants.{Bad, TooLong, TooMany, NoMemory}
use Rattle.pw_token.specs.declared.token.Token.{Token}
use Rattle.pw_front_end.specs.Lexed.{LexAnswer, lexed}
use Rattle.pw_parse.specs.declared.parser.ParseFault.TheVariants as parse
use Rattle.pw_front_end.specs.declared.refusal.Refusal.{Refusal}
use Rattle.pw_front_end.specs.declared.refusal.Refusal.TheVariants.{Lex, Unsupported, Parse, Check}

-- these tokens, or none
abbrev pub or_none : LexAnswer → List Token
or_none (Ok tokens) = tokens
or_none (Err fault) = []

-- the tokens of a text that lexes to this answer; where it does not lex, those of the text before the fault
abbrev pub tokens_before : List ℕ → LexAnswer → List Token
tokens_before text (Ok tokens) = tokens
tokens_before text (Err (Bad at)) = or_none (lexed (take at text))
tokens_before text (Err (TooMany at)) = or_none (lexed (take at text))
tokens_before text (Err TooLong) = []
tokens_before text (Err NoMemory) = []

-- the tokens of a text as far as it can be cut, which are looked for in the bytes that a text may have
abbrev pub tokens_in : List ℕ → List Token
tokens_in text = tokens_before (take text_limit text) (lexed (take text_limit text))

-- the place of the token of a number, counted from 1; the end of the text where there is none
abbrev pub token_place : List ℕ → ℕ → ℕ
token_place text n = option_map_or (λ token. token.at) (slice_get (tokens_in text) (n - 1)) (length text)

abbrev pub place_of : List ℕ → Refusal → ℕ
place_of text (Lex (Bad at)) = at
place_of text (Lex (TooMany at)) = at
place_of text (Lex TooLong) = 0
place_of text (Lex NoMemory) = 0
place_of text (Unsupported n feature) = token_place text n
place_of text (Parse (parse.TooDeep n)) = token_place text n
place_of text (Parse (parse.Syntax n)) = token_place text n
place_of text (Parse parse.NoMemory) = 0
place_of text (Check fault) = token_place text fault.token

-- the line of a refusal
unfoldable pub refusal_line : List ℕ → Refusal → ℕ
refusal_line text refusal = line_at text (place_of text refusal)
