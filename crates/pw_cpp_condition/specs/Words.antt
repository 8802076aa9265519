-- What marks mean in `#if` (ISO/IEC 9899:1990, 6.3.3 to 6.3.15).
use Rattle.std.specs.Prelude.{ℕ, Bool, true, false, if◌then◌else◌, List, Option, None, Some, option_map}
use Rattle.pw_token.specs.Words.{mark_of}
use Rattle.pw_token.specs.declared.symbol.Mark.{Mark}
use Rattle.pw_token.specs.declared.symbol.Mark.TheVariants as m
use Rattle.pw_token.specs.declared.token.TokenKind.{TokenKind}
use Rattle.pw_token.specs.declared.token.TokenKind.TheVariants as kind
use Rattle.pw_types.specs.declared.tree.BinaryOperator.TheVariants as B
use Rattle.pw_types.specs.declared.tree.LogicOperator.TheVariants as L
use Rattle.pw_types.specs.declared.tree.UnaryOperator.{UnaryOperator}
use Rattle.pw_types.specs.declared.tree.UnaryOperator.TheVariants as U
use Rattle.pw_cpp_values.specs.Operands.{operand_of}
use Rattle.pw_cpp_condition.specs.declared.word.Infix.{Infix}
use Rattle.pw_cpp_condition.specs.declared.word.Infix.TheVariants.{Binary, Logic}
use Rattle.pw_cpp_condition.specs.declared.word.Item.{Item}
use Rattle.pw_cpp_condition.specs.declared.word.Item.TheVariants as item

-- ---- operators and how they are spelled

abbrev pub prefix_of : Mark → Option UnaryOperator
prefix_of m.Plus = Some U.Plus
prefix_of m.Minus = Some U.Minus
prefix_of m.Tilde = Some U.Complement
prefix_of m.Exclamation = Some U.Not
prefix_of _ = None

abbrev pub infix_of : Mark → Option Infix
infix_of m.Star = Some (Binary B.Multiply)
infix_of m.Slash = Some (Binary B.Divide)
infix_of m.Percent = Some (Binary B.Remainder)
infix_of m.Plus = Some (Binary B.Add)
infix_of m.Minus = Some (Binary B.Subtract)
infix_of m.LeftShift = Some (Binary B.ShiftLeft)
infix_of m.RightShift = Some (Binary B.ShiftRight)
infix_of m.Less = Some (Binary B.Less)
infix_of m.Greater = Some (Binary B.Greater)
infix_of m.LessEqual = Some (Binary B.LessEqual)
infix_of m.GreaterEqual = Some (Binary B.GreaterEqual)
infix_of m.EqualEqual = Some (Binary B.Equal)
infix_of m.NotEqual = Some (Binary B.NotEqual)
infix_of m.Ampersand = Some (Binary B.And)
infix_of m.Caret = Some (Binary B.ExclusiveOr)
infix_of m.Bar = Some (Binary B.Or)
infix_of m.AndAnd = Some (Logic L.And)
infix_of m.BarBar = Some (Logic L.Or)
infix_of _ = None

-- how tightly an operator binds, from `||` to `*`
abbrev pub level : Infix → ℕ
level (Logic L.Or) = 1
level (Logic L.And) = 2
level (Binary B.Or) = 3
level (Binary B.ExclusiveOr) = 4
level (Binary B.And) = 5
level (Binary B.Equal) = 6
level (Binary B.NotEqual) = 6
level (Binary B.Less) = 7
level (Binary B.Greater) = 7
level (Binary B.LessEqual) = 7
level (Binary B.GreaterEqual) = 7
level (Binary B.ShiftLeft) = 8
level (Binary B.ShiftRight) = 8
level (Binary B.Add) = 9
level (Binary B.Subtract) = 9
level (Binary B.Multiply) = 10
level (Binary B.Divide) = 10
level (Binary B.Remainder) = 10

-- ---- items

abbrev pub is_mark : TokenKind → Bool
is_mark kind.Mark = true
is_mark _ = false

-- What a token of a kind with these bytes is in an expression: a mark, or an operand with its number. None where it is neither.
abbrev pub item_of : TokenKind → List ℕ → Option Item
item_of token bytes = if is_mark token then option_map item.Mark (mark_of bytes) else option_map item.Operand (operand_of token bytes)
