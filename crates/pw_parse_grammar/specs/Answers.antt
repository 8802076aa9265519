-- What tokens are in the grammar: a tree, or a fault.
use Rattle.std.specs.Prelude.{ℕ, List, Result, Ok, Err}
use Rattle.pw_tree.specs.Grammar.{IsTreeOf, IsSyntaxFault}
use Rattle.pw_tree.specs.Symbols.{Spelled}
use Rattle.pw_tree.specs.Trees.{Module}
use Rattle.pw_parse_grammar.specs.Input.{Outcome}

-- the tokens' one answer: their tree, or the number of the token at which they leave the grammar
abbrev pub IsAnswer : List Spelled → Result Module ℕ → Type 0
IsAnswer tokens (Ok tree) = IsTreeOf tokens tree
IsAnswer tokens (Err number) = IsSyntaxFault tokens number

-- what was read, without the input behind it
abbrev pub answer_in : Outcome Module → Result Module ℕ
answer_in (Ok p) = Ok p.0
answer_in (Err i) = Err i.next
