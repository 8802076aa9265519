-- What lowering makes of operators on values that stand in temporaries.
use Rattle.std.specs.Prelude.{ℕ, ◌==◌, ◌^◌, ◌≤◌, Bool, true, false, if◌then◌else◌, Option, Some, None, IsSomeAnd, option_map, unwrap_or, List}
use Rattle.pw_value.specs.declared.value.Kind.{Kind}
use Rattle.pw_value.specs.declared.value.Kind.TheVariants.{S8, U8, S16, U16, W32}
use Rattle.pw_types.specs.declared.kind.IntKind.{IntKind}
use Rattle.pw_types.specs.declared.kind.IntKind.TheVariants.{Char, SChar, UChar, Short, UShort, Int as KInt, UInt, Long, ULong}
use Rattle.pw_types.specs.Conversions.{is_signed_kind}
use Rattle.pw_types.specs.Layouts.{size_of, layout_of}
pub use Rattle.pw_types.specs.StepOperators.{step_operator}
use Rattle.pw_types.specs.TypeTrees.{CType, Int, Pointer, Qualified, RecordValue}
use Rattle.pw_types.specs.declared.tree.UnaryOperator.{UnaryOperator}
use Rattle.pw_types.specs.declared.tree.UnaryOperator.TheVariants as unary
use Rattle.pw_types.specs.declared.tree.BinaryOperator.{BinaryOperator}
use Rattle.pw_types.specs.declared.tree.BinaryOperator.TheVariants as binary
use Rattle.pw_types.specs.declared.tree.StepOperator.{StepOperator}
use Rattle.pw_types.specs.declared.tree.StepOperator.TheVariants.{IncrementBehind, DecrementBehind}
use Rattle.pw_flow.specs.declared.flow.Op.{Op}
use Rattle.pw_flow.specs.declared.flow.Op.TheVariants as op
use Rattle.pw_flow.specs.declared.flow.UnKind.TheVariants.{Neg, Not}
use Rattle.pw_flow.specs.declared.flow.BinKind.{BinKind}
use Rattle.pw_flow.specs.declared.flow.BinKind.TheVariants.{Add, Sub, And, Or, Xor, Mul, DivS, DivU, RemS, RemU, Shl, ShrS, ShrU, Eq, Ne, LtS, LeS, LtU, LeU}
use Rattle.pw_flow.specs.declared.flow.ExtKind.{ExtKind}
use Rattle.pw_flow.specs.declared.flow.ExtKind.TheVariants as ext
use Rattle.pw_lower.specs.declared.code.Code.{Code}
use Rattle.pw_lower.specs.declared.operators.Side.{Side}
use Rattle.pw_lower.specs.Codes.{Lowered, temp_of, value_is, emit, fresh, constant}

-- ---- types

-- how a scalar stands in memory; pointers and numbers of four bytes alike
abbrev pub kind_of_int : IntKind → Kind
kind_of_int Char = S8
kind_of_int SChar = S8
kind_of_int UChar = U8
kind_of_int Short = S16
kind_of_int UShort = U16
kind_of_int KInt = W32
kind_of_int UInt = W32
kind_of_int Long = W32
kind_of_int ULong = W32

abbrev pub kind_of : CType → Option Kind
kind_of (Int kind) = Some (kind_of_int kind)
kind_of (Pointer target) = Some W32
kind_of _ = None

-- pointers are ordered as unsigned numbers
abbrev pub is_signed : CType → Bool
is_signed (Int kind) = is_signed_kind kind
is_signed _ = false

abbrev pub bytes_of : List RecordValue → CType → ℕ
bytes_of records ty = unwrap_or (size_of records ty) 0

-- the unit in which an object of a type is copied: its alignment
abbrev pub unit_of : List RecordValue → CType → ℕ
unit_of records ty = unwrap_or (option_map (λ layout. layout.align) (layout_of records ty)) 1

-- the size of what a pointer points to; of no pointer, none
abbrev pub target_size : List RecordValue → CType → Option ℕ
target_size records (Pointer (Qualified ty constant volatile)) = Some (bytes_of records ty)
target_size records _ = None

-- a pointer to an object of more bytes than 32 bits can count
abbrev pub HasVastTarget : List RecordValue → CType → Type 0
HasVastTarget records ty = IsSomeAnd (target_size records ty) (λ size. 2 ^ 32 ≤ size)

-- what an operator's work depends on in the type of an operand
abbrev pub side_of : List RecordValue → CType → Side
side_of records ty = record { signed = is_signed ty; size = target_size records ty; kind = kind_of ty }

-- ---- conversions (C90 6.2)

-- The extension that a conversion to a character or short type needs, where that type does not hold every value
-- of the operand's.
abbrev pub extension : Kind → Kind → Option ExtKind
extension from W32 = None
extension S8 S8 = None
extension from S8 = Some ext.S8
extension U8 U8 = None
extension from U8 = Some ext.U8
extension S8 S16 = None
extension U8 S16 = None
extension S16 S16 = None
extension from S16 = Some ext.S16
extension U8 U16 = None
extension U16 U16 = None
extension from U16 = Some ext.U16

-- the operation that extends a temporary, by where it leaves what it makes
abbrev pub extending : ExtKind → ℕ → ℕ → Op
extending k t r = op.Ext k r t

abbrev pub extended : Option ExtKind → ℕ → Code → Lowered
extended None t c = value_is t c
extended (Some k) t c = fresh (extending k t) c

-- a scalar of one type as one of another
abbrev pub converted : Option Kind → Option Kind → Lowered → Lowered
converted (Some from) (Some to) x = extended (extension from to) (temp_of x) x.code
converted from to x = x

-- ---- operators (C90 6.3)

abbrev pub signed_or : Bool → BinKind → BinKind → BinKind
signed_or true s u = s
signed_or false s u = u

-- The operation of an operator on numbers, by whether the left operand's type is signed; and whether it takes
-- its operands in the other order.
abbrev pub operation_of : BinaryOperator → Bool → BinKind
operation_of binary.Add s = Add
operation_of binary.Subtract s = Sub
operation_of binary.Multiply s = Mul
operation_of binary.Divide s = signed_or s DivS DivU
operation_of binary.Remainder s = signed_or s RemS RemU
operation_of binary.ShiftLeft s = Shl
operation_of binary.ShiftRight s = signed_or s ShrS ShrU
operation_of binary.Less s = signed_or s LtS LtU
operation_of binary.Greater s = signed_or s LtS LtU
operation_of binary.LessEqual s = signed_or s LeS LeU
operation_of binary.GreaterEqual s = signed_or s LeS LeU
operation_of binary.Equal s = Eq
operation_of binary.NotEqual s = Ne
operation_of binary.And s = And
operation_of binary.ExclusiveOr s = Xor
operation_of binary.Or s = Or

abbrev pub is_turned : BinaryOperator → Bool
is_turned binary.Greater = true
is_turned binary.GreaterEqual = true
is_turned _ = false

-- both operands' temporaries, and the code behind them
abbrev pub on_numbers : BinaryOperator → Bool → ℕ → ℕ → Code → Lowered
on_numbers o s a b c =
    if is_turned o
    then fresh (λ t. op.Bin (operation_of o s) t b a) c
    else fresh (λ t. op.Bin (operation_of o s) t a b) c

-- an operation on a temporary and on what was lowered last
abbrev pub with : BinKind → ℕ → Lowered → Lowered
with k a x = fresh (λ t. op.Bin k t a (temp_of x)) x.code

-- a number times a size
abbrev pub scaled : ℕ → ℕ → Code → Lowered
scaled size n c = if size == 1 then value_is n c else with Mul n (constant size c)

-- a pointer to elements of a size plus or minus a number (C90 6.3.6)
abbrev pub moved_by : BinKind → ℕ → ℕ → ℕ → Code → Lowered
moved_by k size p n c = with k p (scaled size n c)

-- the difference of two pointers to elements of a size
abbrev pub in_elements : ℕ → Lowered → Lowered
in_elements size x = if size == 1 then x else with DivS (temp_of x) (constant size x.code)

abbrev pub distance : ℕ → ℕ → ℕ → Code → Lowered
distance size p q c = in_elements size (fresh (λ t. op.Bin Sub t p q) c)

-- `+` and `-` where an operand is a pointer, by the sizes of what the operands point to; else any operator on
-- two numbers
abbrev pub sum_or : BinaryOperator → Bool → Option ℕ → Option ℕ → ℕ → ℕ → Code → Lowered
sum_or binary.Add s (Some size) right a b c = moved_by Add size a b c
sum_or binary.Add s None (Some size) a b c = moved_by Add size b a c
sum_or binary.Subtract s (Some size) (Some other) a b c = distance size a b c
sum_or binary.Subtract s (Some size) None a b c = moved_by Sub size a b c
sum_or o s left right a b c = on_numbers o s a b c

-- a binary operator on operands of two types, whose values stand in two temporaries
abbrev pub combined : List RecordValue → BinaryOperator → CType → CType → ℕ → ℕ → Code → Lowered
combined records o left right a b c = sum_or o (is_signed left) (target_size records left) (target_size records right) a b c

-- whether a number is not 0, in a temporary that is there
abbrev pub truth_in : ℕ → ℕ → Code → Code
truth_in r t c = let x = constant 0 c in emit (op.Bin Ne r t (temp_of x)) x.code

abbrev pub unary_on : UnaryOperator → ℕ → Code → Lowered
unary_on unary.Plus a c = value_is a c
unary_on unary.Minus a c = fresh (λ t. op.Un Neg t a) c
unary_on unary.Complement a c = fresh (λ t. op.Un Not t a) c
unary_on unary.Not a c = with Eq a (constant 0 c)

abbrev pub is_behind : StepOperator → Bool
is_behind IncrementBehind = true
is_behind DecrementBehind = true
is_behind _ = false
