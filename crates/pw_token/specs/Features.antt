-- Tokens of features that the compiler leaves out.
use Rattle.std.specs.Prelude.{ℕ, List, Option, Some, None, option_and_then}
use Rattle.pw_token.specs.Roles.{spelling}
use Rattle.pw_token.specs.Words.{keyword_of, mark_of}
use Rattle.pw_token.specs.declared.symbol.Keyword as keyword
use Rattle.pw_token.specs.declared.symbol.Keyword.TheVariants as k
use Rattle.pw_token.specs.declared.symbol.Mark as mark
use Rattle.pw_token.specs.declared.symbol.Mark.TheVariants as m
use Rattle.pw_token.specs.declared.token.Feature.{Feature}
use Rattle.pw_token.specs.declared.token.Feature.TheVariants as feature
use Rattle.pw_token.specs.declared.token.Token.{Token}
use Rattle.pw_token.specs.declared.token.TokenKind.{TokenKind}
use Rattle.pw_token.specs.declared.token.TokenKind.TheVariants.{Identifier, Keyword, Number, Floating, Character, Text, Wide, Mark, Directive}

abbrev pub keyword_feature : keyword.Keyword → Option Feature
keyword_feature k.Float = Some feature.Float
keyword_feature k.Double = Some feature.Float
keyword_feature _ = None

abbrev pub mark_feature : mark.Mark → Option Feature
mark_feature m.Ellipsis = Some feature.Variadic
mark_feature _ = None

-- the feature of a token of a kind with its bytes, if it has one
abbrev pub feature_in : TokenKind → List ℕ → Option Feature
feature_in Floating s = Some feature.Float
feature_in Keyword s = option_and_then keyword_feature (keyword_of s)
feature_in Wide s = Some feature.Wide
feature_in Mark s = option_and_then mark_feature (mark_of s)
feature_in Directive s = Some feature.Directive
feature_in Identifier s = None
feature_in Number s = None
feature_in Character s = None
feature_in Text s = None

abbrev pub feature_of : List ℕ → Token → Option Feature
feature_of text token = feature_in token.kind (spelling text token)
