-- What the cursor shows.
use Rattle.std.specs.Prelude.{◌+◌, ◌≤◌, length, map}
use Rattle.pw_token.specs.Limits.{token_limit}
use Rattle.pw_tree.specs.Lexemes.{view_lexeme}
use Rattle.pw_parse_cursor.specs.declared.tokens.Tokens.TheInside.{Inside}
use Rattle.pw_parse_grammar.specs.Input.{Input}

abbrev pub input_of : Inside → Input
input_of t = record { names = t.names; rest = map view_lexeme t.rest.now; next = t.next }

-- No number goes beyond the one behind the last token that a text may have.
abbrev pub IsCounted : Inside → Type 0
IsCounted t = t.next + length t.rest.now ≤ token_limit + 1
