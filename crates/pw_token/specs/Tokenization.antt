-- Tokenization: a text is cut into blanks, comments, line markers and tokens.
use Rattle.std.specs.Prelude.{◌≡◌, ℕ, ◌+◌, ◌<◌, ◌≤◌, Bool, true, false, ◌&&◌, ◌||◌, ◌==◌, ◌⊎◌, List, [], ◌∷◌, ◌++◌, length, take, drop, Result, Ok, Err, ⊤}
use Rattle.pw_token.specs.Limits.{text_limit, token_limit}
use Rattle.std.specs.List.{list_any}
use Rattle.pw_token.specs.Bytes.{is_in, AllIn}
use Rattle.pw_token.specs.Spelling.{Spells}
use Rattle.pw_token.specs.declared.bytes.Class.TheVariants as class
use Rattle.pw_token.specs.declared.piece.PieceKind.{PieceKind}
use Rattle.pw_token.specs.declared.piece.PieceKind.TheVariants as piece
use Rattle.pw_token.specs.declared.token.LexFault.{LexFault}
use Rattle.pw_token.specs.declared.token.LexFault.TheVariants.{Bad, TooLong, TooMany, NoMemory}
use Rattle.pw_token.specs.declared.token.Token.{Token}
use Rattle.pw_token.specs.declared.token.TokenKind.{TokenKind}
use Rattle.pw_token.specs.declared.token.TokenKind.TheVariants.{Directive}

-- a part of a text
pub record Piece : Type 0 where
  pub kind : PieceKind
  pub text : List ℕ

-- ---- what stands where

-- a space, tab, newline, carriage return, form feed or vertical tab, or a backslash before a newline
abbrev pub IsBlank : List ℕ → Type 0
IsBlank [] = ⊥
IsBlank (b ∷ []) = (is_in class.Gap b || b == 10) ≡ true
IsBlank (b ∷ c ∷ []) = (b ≡ 92) × (c ≡ 10)
IsBlank (b ∷ c ∷ d ∷ s) = ⊥

-- from `/*` to the first `*/` behind it (C90 6.1.9)
abbrev pub IsComment : List ℕ → Type 0
IsComment s = (body : List ℕ) × (s ≡ 47 ∷ 42 ∷ body ++ 42 ∷ 47 ∷ []) × ((front back : List ℕ) → body ≡ front ++ 42 ∷ 47 ∷ back → ⊥)

-- a `#` and what its line has behind it, up to the newline or the end of the text
abbrev pub IsHashLine : List ℕ → List ℕ → Type 0
IsHashLine s after = (rest : List ℕ) × (s ≡ 35 ∷ rest) × AllIn class.InLine rest × ((after ≡ []) ⊎ ((more : List ℕ) × (after ≡ 10 ∷ more)))

-- a `#`, and a decimal digit behind it and further blanks of the line
abbrev pub IsMarker : List ℕ → Type 0
IsMarker s = (gap : List ℕ) × (digit : ℕ) × (rest : List ℕ) × (s ≡ 35 ∷ gap ++ digit ∷ rest) × AllIn class.Gap gap × (is_in class.Digit digit ≡ true)

-- The token cannot be made longer by the characters that follow it.
abbrev pub CannotGrow : List ℕ → List ℕ → Type 0
CannotGrow s after = (kind : TokenKind) (more rest : List ℕ) → after ≡ more ++ rest → Spells kind (s ++ more) → more ≡ []

-- `/*` begins a comment and nothing else, and a `#` at the start of a line a line marker or a directive line
abbrev pub IsTokenPlace : Bool → List ℕ → Type 0
IsTokenPlace line_start [] = ⊥
IsTokenPlace line_start (b ∷ []) = (line_start && b == 35) ≡ false
IsTokenPlace line_start (b ∷ c ∷ t) = ((b == 47 && c == 42) ≡ false) × ((line_start && b == 35) ≡ false)

pub record IsTokenHere (line_start : Bool) (kind : TokenKind) (s after : List ℕ) : Type 0 where
  pub spelled : Spells kind s
  pub place : IsTokenPlace line_start (s ++ after)
  pub longest : CannotGrow s after

-- The piece s stands before `after`; line_start says that only blanks stand before it in its line.
abbrev pub Stands : Bool → PieceKind → List ℕ → List ℕ → Type 0
Stands line_start piece.Blank s after = IsBlank s
Stands line_start piece.Comment s after = IsComment s
Stands line_start piece.LineMarker s after = (line_start ≡ true) × IsHashLine s after × IsMarker s
Stands line_start (piece.Token Directive) s after = (line_start ≡ true) × IsHashLine s after × (IsMarker s → ⊥)
Stands line_start (piece.Token kind) s after = IsTokenHere line_start kind s after

-- The first bytes of the text, `len` of them, are a piece of the kind.
abbrev pub BeginsWith : Bool → PieceKind → ℕ → List ℕ → Type 0
BeginsWith line_start kind len text = (len ≤ length text) × Stands line_start kind (take len text) (drop len text)

-- Nothing of the kinds above stands at the beginning of the text.
abbrev pub NothingStands : Bool → List ℕ → Type 0
NothingStands line_start text = (kind : PieceKind) (s after : List ℕ) → text ≡ s ++ after → Stands line_start kind s after → ⊥

-- ---- cuttings

-- whether only blanks stand in the line so far: each newline outside comments and strings ends a line
abbrev pub line_start_after : Bool → PieceKind → List ℕ → Bool
line_start_after line_start piece.Blank s = line_start || list_any (λ b. b == 10) s
line_start_after line_start piece.Comment s = false
line_start_after line_start piece.LineMarker s = false
line_start_after line_start (piece.Token kind) s = false

-- From its beginning up to `rest` the text is cut into the pieces; the line starts at the beginning, and at `rest`, where the two tests say so.
abbrev pub Cuts : Bool → List ℕ → List Piece → Bool → List ℕ → Type 0
Cuts start text [] end rest = (start ≡ end) × (text ≡ rest)
Cuts start text (p ∷ ps) end rest =
    (after : List ℕ) × (text ≡ p.text ++ after) × Stands start p.kind p.text after × Cuts (line_start_after start p.kind p.text) after ps end rest

-- the token that a piece is, if it is one
abbrev pub token_in : PieceKind → ℕ → ℕ → List Token
token_in piece.Blank at len = []
token_in piece.Comment at len = []
token_in piece.LineMarker at len = []
token_in (piece.Token kind) at len = record { kind = kind; at = at; len = len } ∷ []

-- the tokens among pieces of which the first stands at a place
abbrev pub tokens_of : ℕ → List Piece → List Token
tokens_of at [] = []
tokens_of at (p ∷ ps) = token_in p.kind at (length p.text) ++ tokens_of (at + length p.text) ps

-- The whole text is cut, and these are its tokens.
pub record AreTokens (text : List ℕ) (tokens : List Token) : Type 0 where
  pub pieces : List Piece
  pub end : Bool
  pub cut : Cuts true text pieces end []
  pub tokens_are : tokens ≡ tokens_of 0 pieces

-- The text is cut up to a place, and there nothing stands.
pub record IsBadAt (text : List ℕ) (at : ℕ) : Type 0 where
  pub pieces : List Piece
  pub line_start : Bool
  pub rest : List ℕ
  pub cut : Cuts true text pieces line_start rest
  pub place : at + length rest ≡ length text
  pub before_end : 0 < length rest
  pub nothing : NothingStands line_start rest

-- The text is cut up to a place with as many tokens as a text may have, and there stands another.
pub record IsTooManyAt (text : List ℕ) (at : ℕ) : Type 0 where
  pub pieces : List Piece
  pub line_start : Bool
  pub rest : List ℕ
  pub cut : Cuts true text pieces line_start rest
  pub place : at + length rest ≡ length text
  pub full : length (tokens_of 0 pieces) ≡ token_limit
  pub kind : TokenKind
  pub spelled : List ℕ
  pub after : List ℕ
  pub split : rest ≡ spelled ++ after
  pub stands : Stands line_start (piece.Token kind) spelled after

-- ---- the answer

abbrev pub IsLexed : List ℕ → List Token → Type 0
IsLexed text tokens = (length text ≤ text_limit) × AreTokens text tokens × (length tokens ≤ token_limit)

abbrev pub IsTooLong : List ℕ → Type 0
IsTooLong text = text_limit < length text

-- of the two faults that have a place, the one at the earlier place is answered
abbrev pub IsBad : List ℕ → ℕ → Type 0
IsBad text at = (length text ≤ text_limit) × IsBadAt text at × ((other : ℕ) → IsTooManyAt text other → at < other)

abbrev pub IsTooMany : List ℕ → ℕ → Type 0
IsTooMany text at = (length text ≤ text_limit) × IsTooManyAt text at × ((other : ℕ) → IsBadAt text other → at < other)

-- the text's one answer
abbrev pub Lexes : List ℕ → Result (List Token) LexFault → Type 0
Lexes text (Ok tokens) = IsLexed text tokens
Lexes text (Err TooLong) = IsTooLong text
Lexes text (Err (Bad at)) = IsBad text at
Lexes text (Err (TooMany at)) = IsTooMany text at
Lexes text (Err NoMemory) = ⊥

-- what a call gave, seen by view, is this answer, unless memory ran out
abbrev pub Answers : {V : Type 0} → (V → List Token) → Result V LexFault → Result (List Token) LexFault → Type 0
Answers view (Ok v) answer = answer ≡ Ok (view v)
Answers view (Err fault) answer = (fault ≡ NoMemory) ⊎ (answer ≡ Err fault)

-- Between the places `from` and `end` the tokens stand one after another, each of one byte or more.
abbrev pub StandInOrder : ℕ → ℕ → List Token → Type 0
StandInOrder from end [] = from ≤ end
StandInOrder from end (t ∷ ts) = (from ≤ t.at) × (0 < t.len) × StandInOrder (t.at + t.len) end ts

-- what a call gave, seen by view, is an answer of the text, or memory ran out
abbrev pub AnswersLexing : {V : Type 0} → List ℕ → (V → List Token) → Result V LexFault → Type 0
AnswersLexing text view (Ok v) = Lexes text (Ok (view v))
AnswersLexing text view (Err NoMemory) = ⊤
AnswersLexing text view (Err TooLong) = Lexes text (Err TooLong)
AnswersLexing text view (Err (Bad at)) = Lexes text (Err (Bad at))
AnswersLexing text view (Err (TooMany at)) = Lexes text (Err (TooMany at))

-- why a piece was not kept behind `count` tokens: there are as many as may be, and it is another, or memory ran out
abbrev pub Keeps : PieceKind → ℕ → ℕ → LexFault → Type 0
Keeps kind at count NoMemory = ⊤
Keeps kind at count (TooMany place) = (place ≡ at) × (count ≡ token_limit) × ((token : TokenKind) × (kind ≡ piece.Token token))
Keeps kind at count TooLong = ⊥
Keeps kind at count (Bad place) = ⊥
