-- The precedence levels of expressions (C90 6.3): a greater level binds less tightly.
use Rattle.std.specs.Prelude.{ℕ}
use Rattle.pw_tree.specs.Trees.{Expr, Identifier, Number, Floating, Character, Wide, Strings, Paren, Postfix, Unary, SizeofType, Cast, Chain, Conditional, Assign, Operations, NoOperation, Operation}
use Rattle.pw_tree.specs.declared.operator.BinaryOperator.{BinaryOperator}
use Rattle.pw_tree.specs.declared.operator.BinaryOperator.TheVariants as binary

-- primary-expression (6.3.1)
abbrev pub primary : ℕ
primary = 0

-- postfix-expression (6.3.2)
abbrev pub postfix : ℕ
postfix = 1

-- unary-expression (6.3.3)
abbrev pub unary : ℕ
unary = 2

-- cast-expression (6.3.4)
abbrev pub cast : ℕ
cast = 3

-- 6.3.5 to 6.3.14, 6.3.17
abbrev pub binary_level : BinaryOperator → ℕ
binary_level binary.Multiply = 4
binary_level binary.Divide = 4
binary_level binary.Remainder = 4
binary_level binary.Add = 5
binary_level binary.Subtract = 5
binary_level binary.LeftShift = 6
binary_level binary.RightShift = 6
binary_level binary.Less = 7
binary_level binary.Greater = 7
binary_level binary.LessEqual = 7
binary_level binary.GreaterEqual = 7
binary_level binary.Equal = 8
binary_level binary.NotEqual = 8
binary_level binary.BitAnd = 9
binary_level binary.BitXor = 10
binary_level binary.BitOr = 11
binary_level binary.And = 12
binary_level binary.Or = 13
binary_level binary.Comma = 16

-- logical-OR-expression (6.3.14)
abbrev pub logical_or : ℕ
logical_or = 13

-- conditional-expression (6.3.15), and constant-expression (6.4)
abbrev pub conditional : ℕ
conditional = 14

-- assignment-expression (6.3.16)
abbrev pub assignment : ℕ
assignment = 15

-- expression (6.3.17)
abbrev pub comma : ℕ
comma = 16

-- the level of a chain's first operator; nothing is below that of no operator
abbrev pub chain_level : Operations → ℕ
chain_level NoOperation = 0
chain_level (Operation n op e rest) = binary_level op

abbrev pub level : Expr → ℕ
level (Identifier w) = primary
level (Number w) = primary
level (Floating w) = primary
level (Character w) = primary
level (Wide w) = primary
level (Strings ws) = primary
level (Paren n e) = primary
level (Postfix e ps) = postfix
level (Unary n op e) = unary
level (SizeofType n ss d) = unary
level (Cast n ss d e) = cast
level (Chain e ops) = chain_level ops
level (Conditional n c a b) = conditional
level (Assign n op l r) = assignment
