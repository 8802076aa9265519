-- The output: a row for each line of text that was read.
use Rattle.std.specs.Prelude.{◌≡◌, ℕ, suc, Bool, false, not, ◌&&◌, if◌then◌else◌, nat_le, List, [], ◌∷◌, ◌++◌, map, filter, Option, Some, None}
use Rattle.std.specs.List.{flat_map}
use Rattle.pw_token.specs.Roles.{spelling}
use Rattle.pw_token.specs.declared.token.Token.{Token}
use Rattle.pw_cpp_expand.specs.Lookahead.{Lexeme}
use Rattle.pw_cpp_expand.specs.Places.{Ascends}
use Rattle.pw_cpp_expand.specs.declared.progress.Lexeme.{Lexeme as Numbered}

-- a line of the output: where its line begins in its file, and its tokens
pub record Row : Type 0 where
  pub place : ℕ
  pub tokens : List Token

-- the tokens that stand in the line of a row: those whose places lie from its beginning on and before the next row's
abbrev pub in_row : ℕ → Option ℕ → Lexeme → Bool
in_row from (Some next) lexeme = nat_le from lexeme.place && not (nat_le next lexeme.place)
in_row from None lexeme = nat_le from lexeme.place

abbrev pub rows_of : List ℕ → List Lexeme → List Row
rows_of [] out = []
rows_of (from ∷ []) out = record { place = from; tokens = map (λ lexeme. lexeme.token) (filter (in_row from None) out) } ∷ []
rows_of (from ∷ next ∷ more) out = record { place = from; tokens = map (λ lexeme. lexeme.token) (filter (in_row from (Some next)) out) } ∷ rows_of (next ∷ more) out

-- each token, a space behind it, and a newline behind all
abbrev pub spelled_row : List ℕ → Row → List ℕ
spelled_row source row = flat_map (λ token. spelling source token ++ 32 ∷ []) row.tokens ++ 10 ∷ []

abbrev pub output_of : List ℕ → List Row → List ℕ
output_of source rows = flat_map (spelled_row source) rows

-- ---- rows that are put out one by one

-- a place is that of the next row or behind it, if there is one
abbrev pub is_reached : Option ℕ → ℕ → Bool
is_reached (Some next) place = nat_le next place
is_reached None place = false

-- how many tokens stand before the next row
abbrev pub row_len : Option ℕ → List Numbered → ℕ
row_len next [] = 0
row_len next (l ∷ others) = if is_reached next l.place then 0 else suc (row_len next others)

-- the first of some rows
abbrev pub first_row : List ℕ → Option ℕ
first_row [] = None
first_row (first ∷ rows) = Some first

-- the bytes of some tokens, each with a space behind it
abbrev pub spelled_tokens : List ℕ → List Numbered → List ℕ
spelled_tokens source tokens = flat_map (λ l. spelling source l.token ++ 32 ∷ []) tokens

-- Rows and tokens stand in the order of their places, no token before the first row; where there are no rows there are no tokens.
abbrev pub AreInRows : List ℕ → List Numbered → Type 0
AreInRows [] tokens = tokens ≡ []
AreInRows (first ∷ rows) tokens = (high : ℕ) × Ascends first rows high × Ascends first (map (λ l. l.place) tokens) high
