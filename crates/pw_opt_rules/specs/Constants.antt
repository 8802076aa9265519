-- Constants: a temporary that holds one word on every path. What comes to a word becomes that word, and a branch on a word
-- a jump.
use Rattle.std.specs.Prelude.{ℕ, zero, suc, ◌%◌, ◌==◌, bit_and, bit_or, bit_xor, Bool, true, false, not, Option, None, Some, Result, Ok, Err, List, slice_set}
use Rattle.pw_value.specs.Words.{complement, unsigned_sum, unsigned_difference, unsigned_product, unsigned_negation, unsigned_quotient, unsigned_remainder, unsigned_less, unsigned_at_most, signed_quotient, signed_remainder, signed_less, signed_at_most, shift_left, unsigned_shift_right, signed_shift_right}
use Rattle.pw_value.specs.Values.{extended}
use Rattle.pw_value.specs.declared.words.WordFault.{WordFault}
use Rattle.pw_flow.specs.declared.flow.Op.{Op}
use Rattle.pw_flow.specs.declared.flow.Op.TheVariants as op
use Rattle.pw_flow.specs.declared.flow.End.{End}
use Rattle.pw_flow.specs.declared.flow.End.TheVariants.{Jump, Branch}
use Rattle.pw_flow.specs.declared.flow.UnKind.{UnKind}
use Rattle.pw_flow.specs.declared.flow.UnKind.TheVariants.{Neg, Not}
use Rattle.pw_flow.specs.declared.flow.BinKind.{BinKind}
use Rattle.pw_flow.specs.declared.flow.BinKind.TheVariants.{Add, Sub, And, Or, Xor, Mul, DivS, DivU, RemS, RemU, Shl, ShrS, ShrU, Eq, Ne, LtS, LeS, LtU, LeU}
use Rattle.pw_flow.specs.declared.flow.ExtKind.{ExtKind}
use Rattle.pw_flow.specs.declared.flow.ExtKind.TheVariants.{S8, U8, S16, U16}
use Rattle.pw_flow.specs.Uses.{op_defines}
use Rattle.pw_opt_rules.specs.declared.flat.Flat.{Flat}
use Rattle.pw_opt_rules.specs.declared.flat.Flat.TheVariants.{One, Many}
use Rattle.pw_opt_rules.specs.Flat.{of_one, of_two}
use Rattle.pw_opt_rules.specs.Rows.{known}
use Rattle.pw_opt_rules.specs.Rewriting.{Rewriting}

-- ---- operations on words

abbrev pub truth : Bool → ℕ
truth true = 1
truth false = 0

abbrev pub un_word : UnKind → ℕ → ℕ
un_word Neg a = unsigned_negation a
un_word Not a = complement a

abbrev pub ext_word : ExtKind → ℕ → ℕ
ext_word S8 a = extended 1 true (a % 256)
ext_word U8 a = a % 256
ext_word S16 a = extended 2 true (a % 65536)
ext_word U16 a = a % 65536

-- Anything may come of a division by zero, of the least int divided by -1, and of a shift by more than 31.
abbrev pub word_or_many : Result ℕ WordFault → Flat
word_or_many (Ok n) = One n
word_or_many (Err fault) = Many

abbrev pub bin_word : BinKind → ℕ → ℕ → Flat
bin_word Add a b = One (unsigned_sum a b)
bin_word Sub a b = One (unsigned_difference a b)
bin_word And a b = One (bit_and a b)
bin_word Or a b = One (bit_or a b)
bin_word Xor a b = One (bit_xor a b)
bin_word Mul a b = One (unsigned_product a b)
bin_word DivS a b = word_or_many (signed_quotient a b)
bin_word DivU a b = word_or_many (unsigned_quotient a b)
bin_word RemS a b = word_or_many (signed_remainder a b)
bin_word RemU a b = word_or_many (unsigned_remainder a b)
bin_word Shl a b = word_or_many (shift_left a b)
bin_word ShrS a b = word_or_many (signed_shift_right a b)
bin_word ShrU a b = word_or_many (unsigned_shift_right a b)
bin_word Eq a b = One (truth (a == b))
bin_word Ne a b = One (truth (not (a == b)))
bin_word LtS a b = One (truth (signed_less a b))
bin_word LeS a b = One (truth (signed_at_most a b))
bin_word LtU a b = One (truth (unsigned_less a b))
bin_word LeU a b = One (truth (unsigned_at_most a b))

-- ---- what is known behind an operation

-- of what an operation defines, by what is known before it
abbrev pub constant : List Flat → Op → Flat
constant row (op.Const t n) = One n
constant row (op.Copy t a) = known row a
constant row (op.Un k t a) = of_one (λ x. One (un_word k x)) (known row a)
constant row (op.Bin k t a b) = of_two (bin_word k) (known row a) (known row b)
constant row (op.Ext k t a) = of_one (λ x. One (ext_word k x)) (known row a)
constant row _ = Many

abbrev pub with_known : List Flat → Option ℕ → Flat → List Flat
with_known row None x = row
with_known row (Some t) x = slice_set row t x

abbrev pub constant_transfer : List Flat → Op → List Flat
constant_transfer row o = with_known row (op_defines o) (constant row o)

-- ---- what becomes of operations and ends

abbrev pub const_or : ℕ → Flat → Op → Op
const_or t (One n) o = op.Const t n
const_or t x o = o

abbrev pub constant_op : List Flat → Op → Op
constant_op row (op.Copy t a) = const_or t (constant row (op.Copy t a)) (op.Copy t a)
constant_op row (op.Un k t a) = const_or t (constant row (op.Un k t a)) (op.Un k t a)
constant_op row (op.Bin k t a b) = const_or t (constant row (op.Bin k t a b)) (op.Bin k t a b)
constant_op row (op.Ext k t a) = const_or t (constant row (op.Ext k t a)) (op.Ext k t a)
constant_op row o = o

-- 0 goes the second way, every other word the first
abbrev pub jump_or : Flat → ℕ → ℕ → ℕ → End
jump_or (One zero) a b c = Jump c
jump_or (One (suc n)) a b c = Jump b
jump_or x a b c = Branch a b c

abbrev pub constant_end : List Flat → End → End
constant_end row (Branch a b c) = jump_or (known row a) a b c
constant_end row e = e

abbrev pub constants : Rewriting
constants = record { transfer = constant_transfer; op = constant_op; end = constant_end }
