-- The constant expressions of `#if` (ISO/IEC 9899:1990, 6.8.1, 6.4): trees, how they are spelled, and what they come to.
use Rattle.std.specs.Prelude.{◌≡◌, ℕ, ◌+◌, ◌≤◌, List, [], ◌∷◌, ◌++◌, Option, None, Some}
use Rattle.pw_token.specs.declared.symbol.Mark.{Mark}
use Rattle.pw_token.specs.declared.symbol.Mark.TheVariants as m
use Rattle.pw_types.specs.declared.tree.UnaryOperator.{UnaryOperator}
use Rattle.pw_cpp_values.specs.Arithmetic.{unary, binary, logic, conditional}
use Rattle.pw_cpp_values.specs.declared.arithmetic.Number.{Number}
use Rattle.pw_cpp_condition.specs.Words.{infix_of, level, prefix_of}
use Rattle.pw_cpp_condition.specs.declared.word.Infix.{Infix}
use Rattle.pw_cpp_condition.specs.declared.word.Infix.TheVariants.{Binary, Logic}
use Rattle.pw_cpp_condition.specs.declared.word.Item.{Item}
use Rattle.pw_cpp_condition.specs.declared.word.Item.TheVariants as item

-- An expression: an operand, one in parentheses, an operator with the mark that spells it before one or between two, or `?:` with three.
pub data Tree : Type 0 where
  Operand : Number → Tree
  Group : Tree → Tree
  Prefix : Mark → UnaryOperator → Tree → Tree
  Between : Mark → Infix → Tree → Tree → Tree
  Choice : Tree → Tree → Tree → Tree

abbrev pub spell : Tree → List Item
spell (Operand n) = item.Operand n ∷ []
spell (Group e) = item.Mark m.OpenParen ∷ spell e ++ item.Mark m.CloseParen ∷ []
spell (Prefix mark op a) = item.Mark mark ∷ spell a
spell (Between mark op a b) = spell a ++ item.Mark mark ∷ spell b
spell (Choice c a b) = spell c ++ item.Mark m.Question ∷ (spell a ++ item.Mark m.Colon ∷ spell b)

-- the levels above those of the binary operators: `?:` below them, and operators before their operand above
abbrev pub choice_level : ℕ
choice_level = 0

abbrev pub prefix_level : ℕ
prefix_level = 11

-- The expression is of the grammar's production at a level or above it: operators of one level group to the left, `?:` to the right.
abbrev pub IsAt : ℕ → Tree → Type 0
IsAt n (Operand number) = Unit {0}
IsAt n (Group e) = IsAt choice_level e
IsAt n (Prefix mark op a) = (prefix_of mark ≡ Some op) × (n ≤ prefix_level) × IsAt prefix_level a
IsAt n (Between mark op a b) = (infix_of mark ≡ Some op) × (n ≤ level op) × IsAt (level op) a × IsAt (level op + 1) b
IsAt n (Choice c a b) = (n ≡ choice_level) × IsAt (choice_level + 1) c × IsAt choice_level a × IsAt choice_level b

abbrev pub between : Infix → Number → Number → Number
between (Binary op) a b = binary op a b
between (Logic op) a b = logic op a b

abbrev pub value : Tree → Number
value (Operand n) = n
value (Group e) = value e
value (Prefix mark op a) = unary op (value a)
value (Between mark op a b) = between op (value a) (value b)
value (Choice c a b) = conditional (value c) (value a) (value b)

-- The items spell an expression that comes to the number.
pub record Means (items : List Item) (number : Number) : Type 0 where
  pub tree : Tree
  pub formed : IsAt choice_level tree
  pub spelled : items ≡ spell tree
  pub value_is : number ≡ value tree

-- a call's answer: what the items mean, or that they spell no expression
abbrev pub AnswersItems : List Item → Option Number → Type 0
AnswersItems items (Some number) = Means items number
AnswersItems items None = (number : Number) → Means items number → ⊥
