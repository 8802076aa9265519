-- What a text's tokens are: a tree, or a fault.
use Rattle.std.specs.Prelude.{◌≡◌, ◌≢◌, ℕ, List, length, map, nat_lt, Option, Some, None, Result, Ok, Err}
use Rattle.pw_token.specs.Limits.{nest_limit}
use Rattle.std.specs.List.{position_from}
use Rattle.pw_token.specs.Nesting.{nests_of}
use Rattle.pw_token.specs.declared.token.Token.{Token}
use Rattle.pw_tree.specs.Grammar.{spelled_all, IsTreeOf, IsSyntaxFault}
use Rattle.pw_tree.specs.Lexemes.{spelled_in}
use Rattle.pw_tree.specs.Symbols.{Symbol, symbol_of}
use Rattle.pw_tree.specs.Trees.{Module}
use Rattle.pw_parse.specs.declared.parser.ParseFault.{ParseFault}
use Rattle.pw_parse.specs.declared.parser.ParseFault.TheVariants.{TooDeep, Syntax, NoMemory}
use Rattle.pw_parse_cursor.specs.declared.stop.Stop.{Stop}
use Rattle.pw_parse_cursor.specs.declared.stop.Stop.TheVariants as stop
use Rattle.pw_parse_grammar.specs.Input.{Outcome}
use Rattle.pw_parse_grammar.specs.Modules.{read}

-- a token of a text, as the grammar knows it
abbrev pub symbol_in : List ℕ → Token → Option Symbol
symbol_in text token = symbol_of (spelled_in text token)

-- the tree, or the number of the token at the fault
abbrev pub answer_of : Outcome Module → Result Module ParseFault
answer_of (Ok p) = Ok p.0
answer_of (Err i) = Err (Syntax i.next)

abbrev pub unless_too_deep : Option ℕ → Outcome Module → Result Module ParseFault
unless_too_deep (Some token) outcome = Err (TooDeep token)
unless_too_deep None outcome = answer_of outcome

-- the first token that is nested deeper than the limit, counted from 1
abbrev pub first_too_deep : List ℕ → List Token → Option ℕ
first_too_deep text tokens = position_from (λ nest. nat_lt nest_limit nest) 1 (nests_of text tokens)

-- what is read from the tokens
abbrev pub read_in : List ℕ → List Token → Outcome Module
read_in text tokens = read (map (symbol_in text) tokens)

-- the text's one answer as a function: the first token that is nested too deep, or what is read
unfoldable pub parsed : List ℕ → List Token → Result Module ParseFault
parsed text tokens = unless_too_deep (first_too_deep text tokens) (read_in text tokens)

-- the text's one answer in the words of the grammar: too deep at a token; or else the tree that the tokens spell; or else, where
-- they spell none, the first token whose prefix begins no tree's spelling
abbrev pub Parses : List ℕ → List Token → Result Module ParseFault → Type 0
Parses text tokens (Ok tree) = (first_too_deep text tokens ≡ None) × IsTreeOf (spelled_all text tokens) tree
Parses text tokens (Err (TooDeep token)) = first_too_deep text tokens ≡ Some token
Parses text tokens (Err (Syntax token)) = (first_too_deep text tokens ≡ None) × IsSyntaxFault (spelled_all text tokens) token
Parses text tokens (Err NoMemory) = ⊥

-- what a call gave, seen by a view, is an answer of the text, unless memory ran out
abbrev pub ParsesAs : {V : Type 0} → (V → Module) → List ℕ → List Token → Result V ParseFault → Type 0
ParsesAs view text tokens (Ok v) = Parses text tokens (Ok (view v))
ParsesAs view text tokens (Err fault) = fault ≢ NoMemory → Parses text tokens (Err fault)

-- what a call gave, seen by a view, is this answer, unless memory ran out
abbrev pub Answers : {V : Type 0} → (V → Module) → Result Module ParseFault → Result V ParseFault → Type 0
Answers view answer (Ok v) = answer ≡ Ok (view v)
Answers view answer (Err fault) = fault ≢ NoMemory → answer ≡ Err fault

abbrev pub fault_gives : Stop → ℕ → ParseFault → Type 0
fault_gives stop.Fault token fault = fault ≡ Syntax token
fault_gives stop.NoMemory token fault = fault ≡ NoMemory
