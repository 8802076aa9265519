-- Reading the operations of a flow graph and the ends of its blocks from left to right, with the first fault
-- that is met.
use Rattle.std.specs.Prelude.{ℕ, ◌%◌, List, [], ◌∷◌, length, Result, Ok, Err, Option, Some, None, Bool, nat_le, nat_lt, ◌==◌, ◌&&◌, ◌||◌, if◌then◌else◌, slice_get}
use Rattle.pw_fields.specs.Fields.{◌>>=◌, done, checked, u32_at, text_at, repeated}
use Rattle.pw_fields.specs.FieldNames.{name_at}
use Rattle.pw_files.specs.Kinds.{scalar_at}
use Rattle.pw_value.specs.Limits.{size_limit, parameter_limit}
use Rattle.pw_value.specs.declared.program_names.StartName.{StartName}
use Rattle.pw_value.specs.declared.program_names.StartName.TheVariants.{Refused}
use Rattle.pw_value.specs.ProgramNames.{may_stand}
use Rattle.pw_flow.specs.declared.flow.End.{End}
use Rattle.pw_flow.specs.declared.flow.End.TheVariants as end
use Rattle.pw_flow.specs.declared.flow.Op.{Op}
use Rattle.pw_flow.specs.declared.flow.Op.TheVariants.{Const, Copy, Un, Bin, Ext, AddrGlobal, AddrSlot, AddrFn, LoadG, StoreG, Load, Store, Move, Call, CallInd}
use Rattle.pw_flow_ops.specs.declared.codes.OpCode.{OpCode}
use Rattle.pw_flow_ops.specs.declared.codes.OpCode.TheVariants as code
use Rattle.pw_flow_ops.specs.declared.codes.EndCode.{EndCode}
use Rattle.pw_flow_ops.specs.declared.codes.EndCode.TheVariants as end_code
use Rattle.pw_flow_ops.specs.Operations.{absent, un_kinds, bin_kinds, ext_kinds, op_codes, end_codes}

-- ---- a byte that is the place of a choice

abbrev pub chosen : {X : Type 0} → Option X → ℕ → List ℕ → Result (X × List ℕ) ℕ
chosen (Some x) left rest = Ok (x, rest)
chosen None left rest = Err left

unfoldable pub one_of_at : {X : Type 0} → List X → List ℕ → Result (X × List ℕ) ℕ
one_of_at choices [] = Err 0
one_of_at choices (b ∷ rest) = chosen (slice_get choices b) (length (b ∷ rest)) rest

-- ---- names

-- a name of the table that may be named
unfoldable pub named_at : StartName → List (List ℕ) → List ℕ → Result (List ℕ × List ℕ) ℕ
named_at start names = checked (may_stand start) (name_at names)

-- ---- operations

abbrev pub below_at : ℕ → List ℕ → Result (ℕ × List ℕ) ℕ
below_at count = checked (λ n. nat_lt n count) u32_at

abbrev pub as_result : ℕ → Option ℕ
as_result t = if t == absent then None else Some t

unfoldable pub result_at : ℕ → List ℕ → Result (Option ℕ × List ℕ) ℕ
result_at temps = do
  t ← checked (λ t. (t == absent) || nat_lt t temps) u32_at
  done (as_result t)

unfoldable pub arguments_at : ℕ → List ℕ → Result (List ℕ × List ℕ) ℕ
arguments_at temps = do
  count ← checked (λ n. nat_le n parameter_limit) u32_at
  args ← repeated (below_at temps) count
  done args

abbrev pub is_unit : ℕ → Bool
is_unit unit = (unit == 1) || ((unit == 2) || (unit == 4))

abbrev pub is_whole : ℕ × ℕ → Bool
is_whole moved = (moved.0 % moved.1 == 0) && (nat_lt 0 moved.0 && nat_le moved.0 size_limit)

unfoldable pub size_and_unit_at : List ℕ → Result ((ℕ × ℕ) × List ℕ) ℕ
size_and_unit_at = do
  size ← u32_at
  unit ← checked is_unit u32_at
  done (size, unit)

-- the unit is looked at first, and then the size
unfoldable pub moved_at : List ℕ → Result ((ℕ × ℕ) × List ℕ) ℕ
moved_at = checked is_whole size_and_unit_at

-- what stands behind an operation's byte
unfoldable pub operands_at : List (List ℕ) → ℕ → ℕ → OpCode → List ℕ → Result (Op × List ℕ) ℕ
operands_at names temps slots code.Const = do
  t ← below_at temps
  n ← u32_at
  done (Const t n)
operands_at names temps slots code.Copy = do
  t ← below_at temps
  a ← below_at temps
  done (Copy t a)
operands_at names temps slots code.Un = do
  k ← one_of_at un_kinds
  t ← below_at temps
  a ← below_at temps
  done (Un k t a)
operands_at names temps slots code.Bin = do
  k ← one_of_at bin_kinds
  t ← below_at temps
  a ← below_at temps
  b ← below_at temps
  done (Bin k t a b)
operands_at names temps slots code.Ext = do
  k ← one_of_at ext_kinds
  t ← below_at temps
  a ← below_at temps
  done (Ext k t a)
operands_at names temps slots code.AddrGlobal = do
  t ← below_at temps
  g ← named_at Refused names
  n ← u32_at
  done (AddrGlobal t g n)
operands_at names temps slots code.AddrSlot = do
  t ← below_at temps
  s ← below_at slots
  done (AddrSlot t s)
operands_at names temps slots code.AddrFn = do
  t ← below_at temps
  f ← named_at Refused names
  done (AddrFn t f)
operands_at names temps slots code.LoadG = do
  k ← scalar_at
  t ← below_at temps
  g ← named_at Refused names
  done (LoadG t g k)
operands_at names temps slots code.StoreG = do
  k ← scalar_at
  g ← named_at Refused names
  a ← below_at temps
  done (StoreG g a k)
operands_at names temps slots code.Load = do
  k ← scalar_at
  t ← below_at temps
  a ← below_at temps
  done (Load k t a)
operands_at names temps slots code.Store = do
  k ← scalar_at
  a ← below_at temps
  b ← below_at temps
  done (Store k a b)
operands_at names temps slots code.Move = do
  a ← below_at temps
  b ← below_at temps
  moved ← moved_at
  done (Move a b moved.0 moved.1)
operands_at names temps slots code.Call = do
  t ← result_at temps
  f ← named_at Refused names
  args ← arguments_at temps
  done (Call t f args)
operands_at names temps slots code.CallInd = do
  t ← result_at temps
  a ← below_at temps
  shape ← text_at
  args ← arguments_at temps
  done (CallInd t a shape args)

unfoldable pub op_at : List (List ℕ) → ℕ → ℕ → List ℕ → Result (Op × List ℕ) ℕ
op_at names temps slots = one_of_at op_codes >>= λ code. operands_at names temps slots code

-- ---- ends of blocks

unfoldable pub targets_at : ℕ → ℕ → EndCode → List ℕ → Result (End × List ℕ) ℕ
targets_at temps blocks end_code.Jump = do
  b ← below_at blocks
  done (end.Jump b)
targets_at temps blocks end_code.Branch = do
  a ← below_at temps
  b ← below_at blocks
  c ← below_at blocks
  done (end.Branch a b c)
targets_at temps blocks end_code.Return = do
  a ← result_at temps
  done (end.Return a)

unfoldable pub end_at : ℕ → ℕ → List ℕ → Result (End × List ℕ) ℕ
end_at temps blocks = one_of_at end_codes >>= λ code. targets_at temps blocks code
