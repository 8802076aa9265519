-- What the front end makes of a module's text: its syntax tree, or a refusal.
use Rattle.std.specs.Prelude.{◌≡◌, ◌≢◌, ℕ, ◌-◌, Bool, List, nat_lt, Option, Some, None, Result, Ok, Err, is_some, slice_get, option_and_then, option_map}
use Rattle.pw_token.specs.Limits.{nest_limit}
use Rattle.std.specs.List.{position_from}
use Rattle.pw_token.specs.Features.{feature_of}
use Rattle.pw_token.specs.Nesting.{nests_of}
use Rattle.pw_token.specs.Tokenization.{IsLexed, Lexes}
use Rattle.pw_token.specs.declared.token.Feature.{Feature}
use Rattle.pw_token.specs.declared.token.LexFault.TheVariants as lex
use Rattle.pw_token.specs.declared.token.Token.{Token}
use Rattle.pw_check_walk.specs.declared.constraints.CheckKind.TheVariants as check
use Rattle.pw_front_end.specs.First.{IsFirst, NonePasses}
use Rattle.pw_front_end.specs.Lexed.{LexAnswer, lexed}
use Rattle.pw_parse.specs.Parsing.{parsed}
use Rattle.pw_parse.specs.declared.parser.ParseFault.{ParseFault}
use Rattle.pw_parse.specs.declared.parser.ParseFault.TheVariants.{TooDeep, Syntax, NoMemory}
use Rattle.pw_tree.specs.Grammar.{IsSyntaxFault, IsTreeOf, spelled_all}
use Rattle.pw_tree.specs.Trees.{Module}
use Rattle.pw_front_end.specs.declared.refusal.Refusal.{Refusal}
use Rattle.pw_front_end.specs.declared.refusal.Refusal.TheVariants.{Lex, Unsupported, Parse, Check}

-- the answer to a text
abbrev pub FrontEnd : Type 0
FrontEnd = Result Module Refusal

-- ---- tests of tokens

-- a token of a feature that is left out
abbrev pub has_feature : List ℕ → Token → Bool
has_feature text token = is_some (feature_of text token)

-- a nesting deeper than a text may have
abbrev pub is_deep : ℕ → Bool
is_deep nest = nat_lt nest_limit nest

-- ---- the relation

-- the text's tokens, none of which is left out
pub record IsSupported (text : List ℕ) (tokens : List Token) : Type 0 where
  pub lexed : IsLexed text tokens
  pub supported : NonePasses (has_feature text) tokens

-- Token n is the first with a feature that is left out.
pub record IsUnsupportedAt (text : List ℕ) (n : ℕ) (feature : Feature) : Type 0 where
  pub tokens : List Token
  pub token : Token
  pub lexed : IsLexed text tokens
  pub first : IsFirst (has_feature text) tokens n token
  pub has : feature_of text token ≡ Some feature

-- All tokens are supported, and token n is the first that is nested deeper than the limit.
pub record IsTooDeepAt (text : List ℕ) (n : ℕ) : Type 0 where
  pub tokens : List Token
  pub nest : ℕ
  pub supported : IsSupported text tokens
  pub first : IsFirst is_deep (nests_of text tokens) n nest

-- All tokens are supported, and none is nested deeper than the limit.
pub record IsShallow (text : List ℕ) (tokens : List Token) : Type 0 where
  pub supported : IsSupported text tokens
  pub shallow : NonePasses is_deep (nests_of text tokens)

-- The tokens are shallow, and at token n they leave the grammar.
pub record IsSyntaxAt (text : List ℕ) (n : ℕ) : Type 0 where
  pub tokens : List Token
  pub shallow : IsShallow text tokens
  pub fault : IsSyntaxFault (spelled_all text tokens) n

-- The tokens are shallow, and this is their tree.
pub record HasTree (text : List ℕ) (tree : Module) : Type 0 where
  pub tokens : List Token
  pub shallow : IsShallow text tokens
  pub reads : IsTreeOf (spelled_all text tokens) tree

-- The text has a tree.
abbrev pub Passes : List ℕ → Type 0
Passes text = (tree : Module) × HasTree text tree

-- the text's one answer: the first of lexing, left-out tokens, depth and syntax that has a fault tells it
abbrev pub FrontEndAnswers : List ℕ → FrontEnd → Type 0
FrontEndAnswers text (Err (Lex fault)) = Lexes text (Err fault)
FrontEndAnswers text (Err (Unsupported n feature)) = IsUnsupportedAt text n feature
FrontEndAnswers text (Err (Parse (TooDeep n))) = IsTooDeepAt text n
FrontEndAnswers text (Err (Parse (Syntax n))) = IsSyntaxAt text n
FrontEndAnswers text (Err (Parse NoMemory)) = ⊥
FrontEndAnswers text (Err (Check fault)) = ⊥
FrontEndAnswers text (Ok tree) = HasTree text tree

-- The refusal is none for want of memory.
abbrev pub HoldsNoWant : Refusal → Type 0
HoldsNoWant (Lex lex.NoMemory) = ⊥
HoldsNoWant (Parse NoMemory) = ⊥
HoldsNoWant (Check fault) = fault.kind ≢ check.NoMemory
HoldsNoWant _ = Unit {0}

-- ---- the answer as a function, which the public law `front_is_exact` ties to the relation

-- the first token with a feature, counted from 1, and its feature
abbrev pub with_feature : List ℕ → List Token → Option ℕ → Option (ℕ × Feature)
with_feature text tokens None = None
with_feature text tokens (Some n) = option_map (λ feature. (n, feature)) (option_and_then (feature_of text) (slice_get tokens (n - 1)))

abbrev pub first_feature : List ℕ → List Token → Option (ℕ × Feature)
first_feature text tokens = with_feature text tokens (position_from (has_feature text) 1 tokens)

abbrev pub by_parsing : Result Module ParseFault → FrontEnd
by_parsing (Err fault) = Err (Parse fault)
by_parsing (Ok tree) = Ok tree

abbrev pub by_feature : Option (ℕ × Feature) → FrontEnd → FrontEnd
by_feature (Some (n, feature)) others = Err (Unsupported n feature)
by_feature None others = others

abbrev pub by_lexing : List ℕ → LexAnswer → FrontEnd
by_lexing text (Err fault) = Err (Lex fault)
by_lexing text (Ok tokens) = by_feature (first_feature text tokens) (by_parsing (parsed text tokens))

unfoldable pub front_end_of : List ℕ → FrontEnd
front_end_of text = by_lexing text (lexed text)
