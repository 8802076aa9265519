-- What tokens mean for nesting.
use Rattle.std.specs.Prelude.{ℕ, List, take, drop}
use Rattle.std.specs.Option.{option_map_or}
use Rattle.pw_token.specs.Words.{keyword_of, mark_of}
use Rattle.pw_token.specs.declared.roles.Role.{Role}
use Rattle.pw_token.specs.declared.roles.Role.TheVariants as role
use Rattle.pw_token.specs.declared.symbol.Keyword as keyword
use Rattle.pw_token.specs.declared.symbol.Keyword.TheVariants as k
use Rattle.pw_token.specs.declared.symbol.Mark as mark
use Rattle.pw_token.specs.declared.symbol.Mark.TheVariants as m
use Rattle.pw_token.specs.declared.token.Token.{Token}
use Rattle.pw_token.specs.declared.token.TokenKind.{TokenKind}
use Rattle.pw_token.specs.declared.token.TokenKind.TheVariants.{Identifier, Keyword, Number, Floating, Character, Text, Wide, Mark, Directive}

-- the bytes of a token
abbrev pub spelling : List ℕ → Token → List ℕ
spelling text token = take token.len (drop token.at text)

-- the keywords that the rules of nesting name
abbrev pub keyword_role : keyword.Keyword → Role
keyword_role k.Sizeof = role.Unary
keyword_role k.If = role.If
keyword_role k.Else = role.Else
keyword_role k.For = role.Loop
keyword_role k.Switch = role.Loop
keyword_role k.While = role.While
keyword_role k.Do = role.Do
keyword_role _ = role.Other

-- the marks that they name
abbrev pub mark_role : mark.Mark → Role
mark_role m.OpenParen = role.OpenParen
mark_role m.OpenBracket = role.Open
mark_role m.OpenBrace = role.Open
mark_role m.Question = role.Question
mark_role m.Colon = role.Colon
mark_role m.CloseParen = role.CloseParen
mark_role m.CloseBracket = role.CloseBracket
mark_role m.CloseBrace = role.CloseBrace
mark_role m.Minus = role.Unary
mark_role m.Plus = role.Unary
mark_role m.Star = role.Unary
mark_role m.Ampersand = role.Unary
mark_role m.Exclamation = role.Unary
mark_role m.Tilde = role.Unary
mark_role m.Increment = role.Step
mark_role m.Decrement = role.Step
mark_role m.Equal = role.Assignment
mark_role m.StarEqual = role.Assignment
mark_role m.SlashEqual = role.Assignment
mark_role m.PercentEqual = role.Assignment
mark_role m.PlusEqual = role.Assignment
mark_role m.MinusEqual = role.Assignment
mark_role m.LeftShiftEqual = role.Assignment
mark_role m.RightShiftEqual = role.Assignment
mark_role m.AmpersandEqual = role.Assignment
mark_role m.CaretEqual = role.Assignment
mark_role m.BarEqual = role.Assignment
mark_role m.Comma = role.Comma
mark_role m.Semicolon = role.Semicolon
mark_role _ = role.Other

-- a token of a kind with its bytes
abbrev pub role_of : TokenKind → List ℕ → Role
role_of Identifier s = role.Operand
role_of Number s = role.Operand
role_of Floating s = role.Operand
role_of Character s = role.Operand
role_of Text s = role.Operand
role_of Wide s = role.Operand
role_of Keyword s = option_map_or keyword_role (keyword_of s) role.Other
role_of Mark s = option_map_or mark_role (mark_of s) role.Other
role_of Directive s = role.Other

abbrev pub role_in : List ℕ → Token → Role
role_in text token = role_of token.kind (spelling text token)
