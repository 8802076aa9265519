-- Copies: a temporary that holds on every path what one other temporary holds. An operand that is such a copy becomes the
-- other one, once.
use Rattle.std.specs.Prelude.{ℕ, ◌==◌, if◌then◌else◌, Option, None, Some, option_map, List, map, slice_set}
use Rattle.pw_flow.specs.declared.flow.Op.{Op}
use Rattle.pw_flow.specs.declared.flow.Op.TheVariants.{Const, Copy, Un, Bin, Ext, AddrGlobal, AddrSlot, AddrFn, LoadG, StoreG, Load, Store, Move, Call, CallInd}
use Rattle.pw_flow.specs.declared.flow.End.{End}
use Rattle.pw_flow.specs.declared.flow.End.TheVariants.{Jump, Branch, Return}
use Rattle.pw_flow.specs.Uses.{op_defines}
use Rattle.pw_opt_rules.specs.declared.flat.Flat.{Flat}
use Rattle.pw_opt_rules.specs.declared.flat.Flat.TheVariants.{One, Many}
use Rattle.pw_opt_rules.specs.Flat.{is_one}
use Rattle.pw_opt_rules.specs.Rows.{known}
use Rattle.pw_opt_rules.specs.Rewriting.{Rewriting}

-- ---- what is known behind an operation

-- the temporary of which an operation makes a copy
abbrev pub copied : Op → Flat
copied (Copy t a) = if a == t then Many else One a
copied _ = Many

-- what was a copy of a temporary that is defined is none any more
abbrev pub without_copies : List Flat → ℕ → List Flat
without_copies row t = map (λ x. if is_one t x then Many else x) row

abbrev pub with_copy : List Flat → Option ℕ → Flat → List Flat
with_copy row None x = row
with_copy row (Some t) x = slice_set (without_copies row t) t x

abbrev pub copy_transfer : List Flat → Op → List Flat
copy_transfer row o = with_copy row (op_defines o) (copied o)

-- ---- what becomes of operations and ends

abbrev pub one_or : Flat → ℕ → ℕ
one_or (One x) a = x
one_or x a = a

abbrev pub original : List Flat → ℕ → ℕ
original row a = one_or (known row a) a

-- the same operation on other operands
abbrev pub with_operands : (ℕ → ℕ) → Op → Op
with_operands h (Const t n) = Const t n
with_operands h (Copy t a) = Copy t (h a)
with_operands h (Un k t a) = Un k t (h a)
with_operands h (Bin k t a b) = Bin k t (h a) (h b)
with_operands h (Ext k t a) = Ext k t (h a)
with_operands h (AddrGlobal t g n) = AddrGlobal t g n
with_operands h (AddrSlot t s) = AddrSlot t s
with_operands h (AddrFn t f) = AddrFn t f
with_operands h (LoadG t g k) = LoadG t g k
with_operands h (StoreG g a k) = StoreG g (h a) k
with_operands h (Load k t a) = Load k t (h a)
with_operands h (Store k a b) = Store k (h a) (h b)
with_operands h (Move a b size unit) = Move (h a) (h b) size unit
with_operands h (Call t f args) = Call t f (map h args)
with_operands h (CallInd t a shape args) = CallInd t (h a) shape (map h args)

abbrev pub with_end_operand : (ℕ → ℕ) → End → End
with_end_operand h (Jump b) = Jump b
with_end_operand h (Branch a b c) = Branch (h a) b c
with_end_operand h (Return t) = Return (option_map h t)

abbrev pub copies : Rewriting
copies = record {
  transfer = copy_transfer;
  op = λ row o. with_operands (original row) o;
  end = λ row e. with_end_operand (original row) e;
}
