-- The symbols that lexemes show.
use Rattle.std.specs.Prelude.{ℕ, List, Option, Some, None}
use Rattle.pw_token.specs.Roles.{spelling}
use Rattle.pw_token.specs.declared.token.Token.{Token}
use Rattle.pw_tree.specs.Symbols as symbol
use Rattle.pw_tree.specs.Symbols.{Symbol, Spelled}
use Rattle.pw_tree.specs.declared.lexeme.Lexeme.{Lexeme}
use Rattle.pw_tree.specs.declared.lexeme.Lexeme.TheVariants as lexeme

-- None where the token stands in no tree
abbrev pub view_lexeme : Lexeme → Option Symbol
view_lexeme (lexeme.Keyword w) = Some (symbol.Reserved w)
view_lexeme (lexeme.Mark s) = Some (symbol.Sign s)
view_lexeme (lexeme.Identifier s) = Some (symbol.Identifier s.now)
view_lexeme (lexeme.Number s) = Some (symbol.Number s.now)
view_lexeme (lexeme.Floating s) = Some (symbol.Floating s.now)
view_lexeme (lexeme.Character s) = Some (symbol.Character s.now)
view_lexeme (lexeme.Wide s) = Some (symbol.Wide s.now)
view_lexeme (lexeme.Text s) = Some (symbol.Text s.now)
view_lexeme lexeme.Other = None

-- a token of a text with its bytes
abbrev pub spelled_in : List ℕ → Token → Spelled
spelled_in text token = record { kind = token.kind; text = spelling text token }
