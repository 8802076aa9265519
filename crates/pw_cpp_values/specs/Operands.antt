-- The operands of `#if` (ISO/IEC 9899:1990, 6.8.1): constants, and words, which count as 0.
use Rattle.std.specs.Prelude.{ℕ, Bool, false, not, List, Option, None, Some, option_map}
use Rattle.pw_check_literals.specs.Characters.{characters_of, one_character}
use Rattle.pw_check_literals.specs.Integers.{integer_constant}
use Rattle.pw_check_literals.specs.declared.integers.IntegerConstant.{IntegerConstant}
use Rattle.pw_token.specs.declared.token.TokenKind.{TokenKind}
use Rattle.pw_token.specs.declared.token.TokenKind.TheVariants as kind
use Rattle.pw_types.specs.Conversions.{is_signed_kind}
use Rattle.pw_cpp_values.specs.Arithmetic.{number}
use Rattle.pw_cpp_values.specs.declared.arithmetic.Number.{Number}

abbrev pub long : ℕ → Number
long n = number false (Some n)

-- a constant's value, in unsigned long where its type is an unsigned one
abbrev pub number_of : IntegerConstant → Number
number_of constant = number (not (is_signed_kind constant.kind)) (Some constant.value)

-- The number that a token of a kind with these bytes stands for; None where it is no operand: a constant that is too wide, one of no or
-- several characters, or any other token.
abbrev pub operand_of : TokenKind → List ℕ → Option Number
operand_of kind.Number bytes = option_map number_of (integer_constant bytes)
operand_of kind.Character bytes = option_map long (one_character (characters_of bytes))
operand_of kind.Identifier bytes = Some (long 0)
operand_of kind.Keyword bytes = Some (long 0)
operand_of kind.Floating bytes = None
operand_of kind.Text bytes = None
operand_of kind.Wide bytes = None
operand_of kind.Mark bytes = None
operand_of kind.Directive bytes = None
