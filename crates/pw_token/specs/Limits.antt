-- The limits of a text. Each stands here once.
use Rattle.std.specs.Prelude.{ℕ}

-- bytes of a text
abbrev pub text_limit : ℕ
text_limit = 1048576

-- tokens of a text
abbrev pub token_limit : ℕ
token_limit = 200000

-- how deep a text nests
abbrev pub nest_limit : ℕ
nest_limit = 200
