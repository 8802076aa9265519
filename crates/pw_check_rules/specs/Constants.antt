-- Constant expressions (ISO C90 6.4), told from typed trees.
use Rattle.std.specs.Prelude.{ℕ, ◌+◌, ◌-◌, ◌*◌, ◌%◌, ◌^◌, ◌==◌, Bool, true, false, not, ◌||◌, nat_le, if◌then◌else◌, Option, None, Some, option_and_then, unwrap_or, Result, Ok, Err, List, bit_and, bit_or, bit_xor}
use Rattle.pw_types.specs.Conversions.{size_of_kind, is_signed_kind}
use Rattle.pw_types.specs.declared.kind.IntKind.{IntKind}
use Rattle.pw_types.specs.declared.tree.BinaryOperator.{BinaryOperator}
use Rattle.pw_types.specs.declared.tree.BinaryOperator.TheVariants as B
use Rattle.pw_types.specs.declared.tree.LogicOperator.{LogicOperator}
use Rattle.pw_types.specs.declared.tree.LogicOperator.TheVariants as L
use Rattle.pw_types.specs.declared.tree.UnaryOperator.{UnaryOperator}
use Rattle.pw_types.specs.declared.tree.UnaryOperator.TheVariants as U
use Rattle.pw_types.specs.TypeTrees.{CType, Void, Int, Pointer, Qualified, type_of, RecordValue}
use Rattle.pw_types.specs.TypedTrees.{Symbol, Hidden, Expression, Node, type_at}
use Rattle.pw_types.specs.TypedTrees as T
use Rattle.pw_types.specs.Layouts.{size_of}
use Rattle.pw_value.specs.Values.{extended}
use Rattle.pw_value.specs.Words.{complement, is_negative, magnitude, signed_sum, signed_difference, signed_product, signed_negation, signed_quotient, signed_remainder, signed_less, signed_at_most, signed_shift_right, unsigned_sum, unsigned_difference, unsigned_product, unsigned_negation, unsigned_quotient, unsigned_remainder, unsigned_less, unsigned_at_most, unsigned_shift_right, shift_left}
use Rattle.pw_value.specs.declared.words.WordFault.{WordFault}
use Rattle.pw_check_rules.specs.Kinds.{is_pointer, kind_in, pointee}
use Rattle.pw_types.specs.WellTyped.{type_in}

-- what an expression is: a constant with its value as a word, no constant expression, or one in which something that is
-- evaluated has no value
pub data Constancy : Type 0 where
  Known : ℕ → Constancy
  NoConstant : Constancy
  NoValue : Constancy

abbrev pub then_known : Constancy → (ℕ → Constancy) → Constancy
then_known (Known n) next = next n
then_known NoConstant next = NoConstant
then_known NoValue next = NoValue

-- of what is not evaluated the form alone counts
abbrev pub unevaluated : Constancy → Constancy
unevaluated NoConstant = NoConstant
unevaluated _ = Known 0

abbrev pub by_result : Result ℕ WordFault → Constancy
by_result (Ok n) = Known n
by_result (Err fault) = NoValue

-- a truth value as a number
abbrev pub truth : Bool → ℕ
truth true = 1
truth false = 0

-- the low bits of a word, as a value of the type
abbrev pub convert_word : IntKind → ℕ → ℕ
convert_word kind n = extended (size_of_kind kind) (is_signed_kind kind) (n % 256 ^ size_of_kind kind)

-- unary operators on a word of the type
abbrev pub unary_word : UnaryOperator → IntKind → ℕ → Constancy
unary_word U.Plus kind n = Known n
unary_word U.Minus kind n = if is_signed_kind kind then by_result (signed_negation n) else Known (unsigned_negation n)
unary_word U.Complement kind n = Known (complement n)
unary_word U.Not kind n = Known (truth (n == 0))

-- by whether the operands are signed: the signed operation, or the unsigned one
abbrev pub either : Bool → Result ℕ WordFault → Result ℕ WordFault → Constancy
either signed a b = by_result (if signed then a else b)

abbrev pub decided : Bool → Bool → Bool → Constancy
decided signed a b = Known (truth (if signed then a else b))

-- binary operators on two words of the type of the left one
abbrev pub binary_word : BinaryOperator → Bool → ℕ → ℕ → Constancy
binary_word B.Add s a b = either s (signed_sum a b) (Ok (unsigned_sum a b))
binary_word B.Subtract s a b = either s (signed_difference a b) (Ok (unsigned_difference a b))
binary_word B.Multiply s a b = either s (signed_product a b) (Ok (unsigned_product a b))
binary_word B.Divide s a b = either s (signed_quotient a b) (unsigned_quotient a b)
binary_word B.Remainder s a b = either s (signed_remainder a b) (unsigned_remainder a b)
binary_word B.ShiftLeft s a b = by_result (shift_left a b)
binary_word B.ShiftRight s a b = either s (signed_shift_right a b) (unsigned_shift_right a b)
binary_word B.Less s a b = decided s (signed_less a b) (unsigned_less a b)
binary_word B.Greater s a b = decided s (signed_less b a) (unsigned_less b a)
binary_word B.LessEqual s a b = decided s (signed_at_most a b) (unsigned_at_most a b)
binary_word B.GreaterEqual s a b = decided s (signed_at_most b a) (unsigned_at_most b a)
binary_word B.Equal s a b = Known (truth (a == b))
binary_word B.NotEqual s a b = Known (truth (not (a == b)))
binary_word B.And s a b = Known (bit_and a b)
binary_word B.ExclusiveOr s a b = Known (bit_xor a b)
binary_word B.Or s a b = Known (bit_or a b)

-- `&&` and `||`, of whose second operand the form alone counts where the first decides (6.3.13, 6.3.14)
abbrev pub logic_word : LogicOperator → ℕ → Constancy → Constancy
logic_word L.And a b = if a == 0 then then_known (unevaluated b) (λ n. Known 0) else then_known b (λ n. Known (truth (not (n == 0))))
logic_word L.Or a b = if a == 0 then then_known b (λ n. Known (truth (not (n == 0)))) else then_known (unevaluated b) (λ n. Known 1)

-- `?:`, of which one of the two is evaluated (6.3.15)
abbrev pub choice_word : ℕ → Constancy → Constancy → Constancy
choice_word c a b =
    if c == 0 then then_known (unevaluated a) (λ n. b) else then_known (unevaluated b) (λ n. a)

-- what is evaluated or not, all parts are to have the form
abbrev pub then_formed : Constancy → Constancy → Constancy
then_formed NoConstant c = NoConstant
then_formed _ c = c

abbrev pub is_zero : Option ℕ → Bool
is_zero (Some n) = n == 0
is_zero None = false

-- only of integral type is an expression an integral constant expression
abbrev pub if_integral : CType → Constancy → Constancy
if_integral (Int kind) c = c
if_integral _ c = NoConstant

-- where two parts are evaluated, the first that has no value or no form tells
abbrev pub both_known : Constancy → Constancy → (ℕ → ℕ → Constancy) → Constancy
both_known (Known a) (Known b) next = next a b
both_known NoConstant b next = NoConstant
both_known a NoConstant next = NoConstant
both_known a b next = NoValue

-- An integral constant expression (6.4): its operands are constants, and casts convert integral types.
unfoldable pub constant_of : Expression → Constancy
constant_of (Node t (Qualified (Int kind) c v) (T.Number n)) = Known n
constant_of (Node t (Qualified (Int kind) c v) (T.Unary op a)) =
    then_known (constant_of a) (λ n. if_integral (type_in a) (unary_word op (kind_in (type_in a)) n))
constant_of (Node t (Qualified (Int kind) c v) (T.Binary op a b)) =
    if_integral (type_in a) (if_integral (type_in b)
    (both_known (constant_of a) (constant_of b) (λ n m. binary_word op (is_signed_kind (kind_in (type_in a))) n m)))
constant_of (Node t (Qualified (Int kind) c v) (T.Logic op a b)) =
    then_formed (constant_of b) (then_known (constant_of a) (λ n. logic_word op n (constant_of b)))
constant_of (Node t (Qualified (Int kind) c v) (T.Cond a b d)) =
    then_formed (constant_of b) (then_formed (constant_of d)
    (then_known (constant_of a) (λ n. choice_word n (constant_of b) (constant_of d))))
constant_of (Node t (Qualified (Int kind) c v) (T.Cast a)) =
    if_integral (type_in a) (then_known (constant_of a) (λ n. Known (convert_word kind n)))
constant_of _ = NoConstant

-- the value of a constant expression that has one
abbrev pub value_known : Constancy → Option ℕ
value_known (Known n) = Some n
value_known _ = None

abbrev pub constant_value : Expression → Option ℕ
constant_value e = value_known (constant_of e)

-- the constant 0
abbrev pub is_zero_constant : Expression → Bool
is_zero_constant e = is_zero (constant_value e)

-- A null pointer constant (6.2.2.3): the constant 0, or it cast to `void *`.
abbrev pub is_null_constant : Expression → Bool
is_null_constant (Node t (Qualified (Pointer (Qualified Void false false)) c v) (T.Cast a)) = is_zero_constant a
is_null_constant e = is_zero_constant e

-- a constant that is a null pointer: the constant 0 converted to a pointer, once or more
unfoldable pub is_null_pointer : Expression → Bool
is_null_pointer (Node t (Qualified (Pointer q) c v) (T.Cast a)) = is_null_pointer a || is_zero_constant a
is_null_pointer _ = false

-- ---- addresses (6.4): of an object of static lifetime, in bytes from its start, and its size where it is known; of a function

pub record Place : Type 0 where
  pub symbol : Symbol
  pub offset : ℕ
  pub size : Option ℕ

abbrev pub place_at : Symbol → ℕ → Option ℕ → Place
place_at symbol offset size = record { symbol = symbol; offset = offset; size = size }

-- within the object, or directly behind it
abbrev pub is_within : ℕ → Option ℕ → Bool
is_within offset None = offset == 0
is_within offset (Some size) = nat_le offset size

abbrev pub within : Place → Option Place
within p = if is_within p.offset p.size then Some p else None

abbrev pub moved_on : ℕ → Place → Option Place
moved_on bytes p = within (record p { offset = p.offset + bytes })

abbrev pub moved_back : ℕ → Place → Option Place
moved_back bytes p = if nat_le bytes p.offset then Some (record p { offset = p.offset - bytes }) else None

-- so many elements on, where the count is a word of its type
abbrev pub moved : IntKind → ℕ → ℕ → Place → Option Place
moved kind size n p =
    if is_negative (is_signed_kind kind) n then moved_back (size * magnitude true n) p else moved_on (size * magnitude false n) p

abbrev pub moved_against : IntKind → ℕ → ℕ → Place → Option Place
moved_against kind size n p =
    if is_negative (is_signed_kind kind) n then moved_on (size * magnitude true n) p else moved_back (size * magnitude false n) p

-- the size of what a pointer points to
abbrev pub step_of : List RecordValue → CType → ℕ
step_of records ty = unwrap_or (size_of records (type_of (pointee ty))) 0

-- the constant number that an address moves by
abbrev pub moved_by : (IntKind → ℕ → ℕ → Place → Option Place) → List RecordValue → Expression → Expression → Option Place → Option Place
moved_by move records address number p =
    option_and_then (λ n. option_and_then (move (kind_in (type_in number)) (step_of records (type_in address)) n) p)
    (constant_value number)

-- Whether an expression is asked for its value, as an address, or for the place that it denotes.
pub data Asked : Type 0 where
  AsAddress : Asked
  AsPlace : Asked

-- Each step stays within the object and the place behind it.
unfoldable pub place_of : List RecordValue → Asked → Expression → Option Place
place_of records AsPlace (Node t ty (T.Global s)) = Some (place_at s 0 (size_of records (type_of ty)))
place_of records AsPlace (Node t ty (T.Function s)) = Some (place_at s 0 (Some 0))
place_of records AsPlace (Node t ty (T.Str k)) = Some (place_at (Hidden k) 0 (size_of records (type_of ty)))
place_of records AsPlace (Node t ty (T.Member a offset)) = option_and_then (moved_on offset) (place_of records AsPlace a)
place_of records AsPlace (Node t ty (T.Deref a)) = place_of records AsAddress a
place_of records AsAddress (Node t ty (T.Decay a)) = place_of records AsPlace a
place_of records AsAddress (Node t ty (T.Address a)) = place_of records AsPlace a
place_of records AsAddress (Node t (Qualified (Pointer q) c v) (T.Cast a)) = place_of records AsAddress a
place_of records AsAddress (Node t (Qualified (Pointer q) c v) (T.Binary B.Add a b)) =
    if is_pointer (type_in a) then moved_by moved records a b (place_of records AsAddress a)
    else moved_by moved records b a (place_of records AsAddress b)
place_of records AsAddress (Node t (Qualified (Pointer q) c v) (T.Binary B.Subtract a b)) =
    moved_by moved_against records a b (place_of records AsAddress a)
place_of records _ _ = None

abbrev pub address_of : List RecordValue → Expression → Option Place
address_of records e = place_of records AsAddress e
