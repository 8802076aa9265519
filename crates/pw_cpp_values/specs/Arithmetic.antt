-- The arithmetic of `#if` (ISO/IEC 9899:1990, 6.8.1): the rules of 6.3 and 6.4, where all whole numbers are long or unsigned long.
use Rattle.std.specs.Prelude.{ℕ, ◌==◌, Bool, true, false, not, ◌||◌, ◌&&◌, if◌then◌else◌, Option, None, Some, option_and_then, option_map, Result, Ok, Err, bit_and, bit_or, bit_xor}
use Rattle.pw_types.specs.declared.tree.BinaryOperator.{BinaryOperator}
use Rattle.pw_types.specs.declared.tree.BinaryOperator.TheVariants as B
use Rattle.pw_types.specs.declared.tree.LogicOperator.{LogicOperator}
use Rattle.pw_types.specs.declared.tree.LogicOperator.TheVariants as L
use Rattle.pw_types.specs.declared.tree.UnaryOperator.{UnaryOperator}
use Rattle.pw_types.specs.declared.tree.UnaryOperator.TheVariants as U
use Rattle.pw_value.specs.Words.{complement, signed_sum, signed_difference, signed_product, signed_negation, signed_quotient, signed_remainder, signed_less, signed_at_most, signed_shift_right, unsigned_sum, unsigned_difference, unsigned_product, unsigned_negation, unsigned_quotient, unsigned_remainder, unsigned_less, unsigned_at_most, unsigned_shift_right, shift_left}
use Rattle.pw_value.specs.declared.words.WordFault.{WordFault}
use Rattle.pw_cpp_values.specs.declared.arithmetic.Number.{Number}

-- A number is a word of unsigned long, or of long in two's complement. It has no word where something that is evaluated has no value.
abbrev pub number : Bool → Option ℕ → Number
number unsigned word = record { unsigned = unsigned; word = word }

abbrev pub outcome : Result ℕ WordFault → Option ℕ
outcome (Ok n) = Some n
outcome (Err fault) = None

-- what comes of words of unsigned long, or of long
abbrev pub either_word : Bool → Result ℕ WordFault → Result ℕ WordFault → Option ℕ
either_word unsigned of_unsigned of_signed = outcome (if unsigned then of_unsigned else of_signed)

-- a truth value as a number
abbrev pub truth : Bool → ℕ
truth true = 1
truth false = 0

abbrev pub is_true : ℕ → Bool
is_true n = not (n == 0)

-- ---- unary operators (6.3.3.3)

abbrev pub unary_word : UnaryOperator → Bool → ℕ → Option ℕ
unary_word U.Plus unsigned n = Some n
unary_word U.Minus unsigned n = either_word unsigned (Ok (unsigned_negation n)) (signed_negation n)
unary_word U.Complement unsigned n = Some (complement n)
unary_word U.Not unsigned n = Some (truth (n == 0))

-- the result of `!` is long
abbrev pub keeps_type : UnaryOperator → Bool
keeps_type U.Plus = true
keeps_type U.Minus = true
keeps_type U.Complement = true
keeps_type U.Not = false

abbrev pub unary : UnaryOperator → Number → Number
unary op a = number (keeps_type op && a.unsigned) (option_and_then (unary_word op a.unsigned) a.word)

-- ---- binary operators (6.3.5 to 6.3.12)

abbrev pub either_truth : Bool → Bool → Bool → Option ℕ
either_truth unsigned of_unsigned of_signed = Some (truth (if unsigned then of_unsigned else of_signed))

-- of two words of the operands' type, and of a shift of a word of the left operand's type and a count
abbrev pub binary_word : BinaryOperator → Bool → ℕ → ℕ → Option ℕ
binary_word B.Add u a b = either_word u (Ok (unsigned_sum a b)) (signed_sum a b)
binary_word B.Subtract u a b = either_word u (Ok (unsigned_difference a b)) (signed_difference a b)
binary_word B.Multiply u a b = either_word u (Ok (unsigned_product a b)) (signed_product a b)
binary_word B.Divide u a b = either_word u (unsigned_quotient a b) (signed_quotient a b)
binary_word B.Remainder u a b = either_word u (unsigned_remainder a b) (signed_remainder a b)
binary_word B.ShiftLeft u a b = outcome (shift_left a b)
binary_word B.ShiftRight u a b = either_word u (unsigned_shift_right a b) (signed_shift_right a b)
binary_word B.Less u a b = either_truth u (unsigned_less a b) (signed_less a b)
binary_word B.Greater u a b = either_truth u (unsigned_less b a) (signed_less b a)
binary_word B.LessEqual u a b = either_truth u (unsigned_at_most a b) (signed_at_most a b)
binary_word B.GreaterEqual u a b = either_truth u (unsigned_at_most b a) (signed_at_most b a)
binary_word B.Equal u a b = Some (truth (a == b))
binary_word B.NotEqual u a b = Some (truth (not (a == b)))
binary_word B.And u a b = Some (bit_and a b)
binary_word B.ExclusiveOr u a b = Some (bit_xor a b)
binary_word B.Or u a b = Some (bit_or a b)

abbrev pub is_shift : BinaryOperator → Bool
is_shift B.ShiftLeft = true
is_shift B.ShiftRight = true
is_shift _ = false

abbrev pub is_comparison : BinaryOperator → Bool
is_comparison B.Less = true
is_comparison B.Greater = true
is_comparison B.LessEqual = true
is_comparison B.GreaterEqual = true
is_comparison B.Equal = true
is_comparison B.NotEqual = true
is_comparison _ = false

-- the usual conversions: of unsigned long if either is; of a shift the left operand alone counts
abbrev pub works_unsigned : BinaryOperator → Number → Number → Bool
works_unsigned op a b = if is_shift op then a.unsigned else (a.unsigned || b.unsigned)

-- the result of a comparison is long
abbrev pub gives_unsigned : BinaryOperator → Number → Number → Bool
gives_unsigned op a b = if is_comparison op then false else works_unsigned op a b

abbrev pub both_words : Option ℕ → Option ℕ → (ℕ → ℕ → Option ℕ) → Option ℕ
both_words a b next = option_and_then (λ n. option_and_then (next n) b) a

abbrev pub binary : BinaryOperator → Number → Number → Number
binary op a b = number (gives_unsigned op a b) (both_words a.word b.word (binary_word op (works_unsigned op a b)))

-- ---- operators of which an operand may not be evaluated (6.3.13 to 6.3.15)

abbrev pub truth_of : Option ℕ → Option ℕ
truth_of b = option_map (λ n. truth (is_true n)) b

-- where the first operand decides, the second is not evaluated
abbrev pub logic_word : LogicOperator → Option ℕ → ℕ → Option ℕ
logic_word L.And b n = if is_true n then truth_of b else Some 0
logic_word L.Or b n = if is_true n then Some 1 else truth_of b

abbrev pub logic : LogicOperator → Number → Number → Number
logic op a b = number false (option_and_then (logic_word op b.word) a.word)

-- of the second and the third operand one is evaluated
abbrev pub choice : Option ℕ → Option ℕ → Option ℕ → Option ℕ
choice c a b = option_and_then (λ n. if is_true n then a else b) c

-- both count for the type
abbrev pub conditional : Number → Number → Number → Number
conditional c a b = number (a.unsigned || b.unsigned) (choice c.word a.word b.word)
