-- What a token is for the grammar, and how it is spelled.
use Rattle.std.specs.Prelude.{ℕ, List, Option, Some, None, option_map}
use Rattle.pw_token.specs.Words.{keyword_text, mark_text, keyword_of, mark_of}
use Rattle.pw_token.specs.declared.token.TokenKind.{TokenKind}
use Rattle.pw_token.specs.declared.token.TokenKind.TheVariants as kind
use Rattle.pw_tree.specs.declared.expr.BasicType.{BasicType}
use Rattle.pw_tree.specs.declared.expr.BasicType.TheVariants as basic
use Rattle.pw_tree.specs.declared.expr.Qualifier.{Qualifier}
use Rattle.pw_tree.specs.declared.expr.Qualifier.TheVariants as qualifier
use Rattle.pw_tree.specs.declared.expr.RecordKind.{RecordKind}
use Rattle.pw_tree.specs.declared.expr.RecordKind.TheVariants as record_kind
use Rattle.pw_tree.specs.declared.expr.StorageClass.{StorageClass}
use Rattle.pw_tree.specs.declared.expr.StorageClass.TheVariants as storage
use Rattle.pw_tree.specs.declared.operator.Access.{Access}
use Rattle.pw_tree.specs.declared.operator.Access.TheVariants as access
use Rattle.pw_tree.specs.declared.operator.AssignOperator.{AssignOperator}
use Rattle.pw_tree.specs.declared.operator.AssignOperator.TheVariants as assign
use Rattle.pw_tree.specs.declared.operator.BinaryOperator.{BinaryOperator}
use Rattle.pw_tree.specs.declared.operator.BinaryOperator.TheVariants as binary
use Rattle.pw_tree.specs.declared.operator.StepOperator.{StepOperator}
use Rattle.pw_tree.specs.declared.operator.StepOperator.TheVariants as step
use Rattle.pw_tree.specs.declared.operator.UnaryOperator.{UnaryOperator}
use Rattle.pw_tree.specs.declared.operator.UnaryOperator.TheVariants as unary
use Rattle.pw_token.specs.declared.symbol.Keyword.{Keyword}
use Rattle.pw_token.specs.declared.symbol.Keyword.TheVariants as k
use Rattle.pw_token.specs.declared.symbol.Mark.{Mark}
use Rattle.pw_token.specs.declared.symbol.Mark.TheVariants as m

-- A token of the grammar. The bytes of a keyword or a mark are known by its name.
pub data Symbol : Type 0 where
  Reserved : Keyword → Symbol
  Sign : Mark → Symbol
  Identifier : List ℕ → Symbol
  Number : List ℕ → Symbol
  Floating : List ℕ → Symbol
  Character : List ℕ → Symbol
  Wide : List ℕ → Symbol
  Text : List ℕ → Symbol

-- a token's kind and bytes, as they compare with those of a text
pub record Spelled : Type 0 where
  pub kind : TokenKind
  pub text : List ℕ

abbrev pub spelled : Symbol → Spelled
spelled (Reserved w) = record { kind = kind.Keyword; text = keyword_text w }
spelled (Sign s) = record { kind = kind.Mark; text = mark_text s }
spelled (Identifier s) = record { kind = kind.Identifier; text = s }
spelled (Number s) = record { kind = kind.Number; text = s }
spelled (Floating s) = record { kind = kind.Floating; text = s }
spelled (Character s) = record { kind = kind.Character; text = s }
spelled (Wide s) = record { kind = kind.Wide; text = s }
spelled (Text s) = record { kind = kind.Text; text = s }

-- ---- the keywords and the operators of the trees

abbrev pub storage_word : StorageClass → Keyword
storage_word storage.Typedef = k.Typedef
storage_word storage.Extern = k.Extern
storage_word storage.Static = k.Static
storage_word storage.Auto = k.Auto
storage_word storage.Register = k.Register

abbrev pub qualifier_word : Qualifier → Keyword
qualifier_word qualifier.Const = k.Const
qualifier_word qualifier.Volatile = k.Volatile

abbrev pub basic_word : BasicType → Keyword
basic_word basic.Void = k.Void
basic_word basic.Char = k.Char
basic_word basic.Short = k.Short
basic_word basic.Int = k.Int
basic_word basic.Long = k.Long
basic_word basic.Float = k.Float
basic_word basic.Double = k.Double
basic_word basic.Signed = k.Signed
basic_word basic.Unsigned = k.Unsigned

abbrev pub record_word : RecordKind → Keyword
record_word record_kind.Struct = k.Struct
record_word record_kind.Union = k.Union

abbrev pub access_mark : Access → Mark
access_mark access.Dot = m.Dot
access_mark access.Arrow = m.Arrow

abbrev pub step_mark : StepOperator → Mark
step_mark step.Increment = m.Increment
step_mark step.Decrement = m.Decrement

abbrev pub unary_symbol : UnaryOperator → Symbol
unary_symbol unary.Address = Sign m.Ampersand
unary_symbol unary.Dereference = Sign m.Star
unary_symbol unary.Plus = Sign m.Plus
unary_symbol unary.Minus = Sign m.Minus
unary_symbol unary.Complement = Sign m.Tilde
unary_symbol unary.Not = Sign m.Exclamation
unary_symbol unary.Increment = Sign m.Increment
unary_symbol unary.Decrement = Sign m.Decrement
unary_symbol unary.Sizeof = Reserved k.Sizeof

abbrev pub binary_mark : BinaryOperator → Mark
binary_mark binary.Multiply = m.Star
binary_mark binary.Divide = m.Slash
binary_mark binary.Remainder = m.Percent
binary_mark binary.Add = m.Plus
binary_mark binary.Subtract = m.Minus
binary_mark binary.LeftShift = m.LeftShift
binary_mark binary.RightShift = m.RightShift
binary_mark binary.Less = m.Less
binary_mark binary.Greater = m.Greater
binary_mark binary.LessEqual = m.LessEqual
binary_mark binary.GreaterEqual = m.GreaterEqual
binary_mark binary.Equal = m.EqualEqual
binary_mark binary.NotEqual = m.NotEqual
binary_mark binary.BitAnd = m.Ampersand
binary_mark binary.BitXor = m.Caret
binary_mark binary.BitOr = m.Bar
binary_mark binary.And = m.AndAnd
binary_mark binary.Or = m.BarBar
binary_mark binary.Comma = m.Comma

abbrev pub assign_mark : AssignOperator → Mark
assign_mark assign.Plain = m.Equal
assign_mark assign.Multiply = m.StarEqual
assign_mark assign.Divide = m.SlashEqual
assign_mark assign.Remainder = m.PercentEqual
assign_mark assign.Add = m.PlusEqual
assign_mark assign.Subtract = m.MinusEqual
assign_mark assign.LeftShift = m.LeftShiftEqual
assign_mark assign.RightShift = m.RightShiftEqual
assign_mark assign.BitAnd = m.AmpersandEqual
assign_mark assign.BitXor = m.CaretEqual
assign_mark assign.BitOr = m.BarEqual

-- ---- the symbol that a token is, where it is one of the grammar

-- the symbol that is spelled so; a directive line is none, nor are `#` and `##`
abbrev pub symbol_with : TokenKind → List ℕ → Option Symbol
symbol_with kind.Keyword s = option_map Reserved (keyword_of s)
symbol_with kind.Mark s = option_map Sign (mark_of s)
symbol_with kind.Identifier s = Some (Identifier s)
symbol_with kind.Number s = Some (Number s)
symbol_with kind.Floating s = Some (Floating s)
symbol_with kind.Character s = Some (Character s)
symbol_with kind.Wide s = Some (Wide s)
symbol_with kind.Text s = Some (Text s)
symbol_with kind.Directive s = None

abbrev pub symbol_of : Spelled → Option Symbol
symbol_of t = symbol_with t.kind t.text
