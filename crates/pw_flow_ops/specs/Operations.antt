-- How the operations of a flow graph and the ends of its blocks are spelled as bytes, under a table of names.
use Rattle.std.specs.Prelude.{ℕ, suc, Bool, Option, Some, None, List, [], ◌∷◌, Contains, if◌then◌else◌}
use Rattle.std.specs.List.{AllByRecursion}
use denote.Enum.Bare.{sameb}
use Rattle.pw_fields.specs.Fields.{u8, u32, text, parts, FitsText}
use Rattle.pw_fields.specs.FieldNames.{name_index}
use Rattle.pw_value.specs.declared.program_names.StartName.{StartName}
use Rattle.pw_value.specs.declared.program_names.StartName.TheVariants.{Refused}
use Rattle.pw_value.specs.ProgramNames.{MayStand}
use Rattle.pw_files.specs.Kinds.{scalar}
use Rattle.pw_files.specs.Rising.{counted}
use Rattle.pw_flow.specs.contracts.flow.UnKind.{the_type as the_un_kinds}
use Rattle.pw_flow.specs.declared.flow.UnKind.{UnKind}
use Rattle.pw_flow.specs.declared.flow.UnKind.TheVariants as un
use Rattle.pw_flow.specs.contracts.flow.BinKind.{the_type as the_bin_kinds}
use Rattle.pw_flow.specs.declared.flow.BinKind.{BinKind}
use Rattle.pw_flow.specs.declared.flow.BinKind.TheVariants as bin
use Rattle.pw_flow.specs.contracts.flow.ExtKind.{the_type as the_ext_kinds}
use Rattle.pw_flow.specs.declared.flow.ExtKind.{ExtKind}
use Rattle.pw_flow.specs.declared.flow.ExtKind.TheVariants as ext
use Rattle.pw_flow.specs.declared.flow.End.{End}
use Rattle.pw_flow.specs.declared.flow.End.TheVariants as end
use Rattle.pw_flow.specs.declared.flow.Op.{Op}
use Rattle.pw_flow.specs.declared.flow.Op.TheVariants.{Const, Copy, Un, Bin, Ext, AddrGlobal, AddrSlot, AddrFn, LoadG, StoreG, Load, Store, Move, Call, CallInd}
use Rattle.pw_flow.specs.FlowGraph.{op_names}
use Rattle.pw_flow.specs.ValidFlow.{IsOp}
use Rattle.pw_flow_ops.specs.contracts.codes.OpCode.{the_type as the_op_codes}
use Rattle.pw_flow_ops.specs.declared.codes.OpCode.{OpCode}
use Rattle.pw_flow_ops.specs.declared.codes.OpCode.TheVariants as code
use Rattle.pw_flow_ops.specs.contracts.codes.EndCode.{the_type as the_end_codes}
use Rattle.pw_flow_ops.specs.declared.codes.EndCode.{EndCode}
use Rattle.pw_flow_ops.specs.declared.codes.EndCode.TheVariants as end_code

-- ---- choices, whose numbers are their places

-- how many of a list stand before a choice
abbrev pub place : {X : Type 0} → (X → X → Bool) → List X → X → ℕ
place same [] x = 0
place same (y ∷ ys) x = if same y x then 0 else suc (place same ys x)

abbrev pub un_kinds : List UnKind
un_kinds = un.Neg ∷ un.Not ∷ []

abbrev pub un_number : UnKind → ℕ
un_number = place (sameb the_un_kinds) un_kinds

abbrev pub bin_kinds : List BinKind
bin_kinds = bin.Add ∷ bin.Sub ∷ bin.And ∷ bin.Or ∷ bin.Xor ∷ bin.Mul ∷ bin.DivS ∷ bin.DivU ∷ bin.RemS ∷ bin.RemU ∷ bin.Shl ∷ bin.ShrS ∷ bin.ShrU ∷ bin.Eq ∷ bin.Ne ∷ bin.LtS ∷ bin.LeS ∷ bin.LtU ∷ bin.LeU ∷ []

abbrev pub bin_number : BinKind → ℕ
bin_number = place (sameb the_bin_kinds) bin_kinds

abbrev pub ext_kinds : List ExtKind
ext_kinds = ext.S8 ∷ ext.U8 ∷ ext.S16 ∷ ext.U16 ∷ []

abbrev pub ext_number : ExtKind → ℕ
ext_number = place (sameb the_ext_kinds) ext_kinds

-- ---- operations

abbrev pub op_codes : List OpCode
op_codes = code.Const ∷ code.Copy ∷ code.Un ∷ code.Bin ∷ code.Ext ∷ code.AddrGlobal ∷ code.AddrSlot ∷ code.AddrFn ∷ code.LoadG ∷ code.StoreG ∷ code.Load ∷ code.Store ∷ code.Move ∷ code.Call ∷ code.CallInd ∷ []

abbrev pub code_number : OpCode → ℕ
code_number = place (sameb the_op_codes) op_codes

-- the byte at the beginning of an operation
abbrev pub op_code : OpCode → List ℕ
op_code c = u8 (code_number c)

-- what stands for a temporary that is not there: the greatest number of 32 bits
abbrev pub absent : ℕ
absent = 4294967295

-- a temporary that may be absent
abbrev pub result : Option ℕ → List ℕ
result None = u32 absent
result (Some t) = u32 t

abbrev pub arguments : List ℕ → List ℕ
arguments args = counted u32 args

abbrev pub op : List (List ℕ) → Op → List ℕ
op names (Const t n) = parts (op_code code.Const ∷ u32 t ∷ u32 n ∷ [])
op names (Copy t a) = parts (op_code code.Copy ∷ u32 t ∷ u32 a ∷ [])
op names (Un k t a) = parts (op_code code.Un ∷ u8 (un_number k) ∷ u32 t ∷ u32 a ∷ [])
op names (Bin k t a b) = parts (op_code code.Bin ∷ u8 (bin_number k) ∷ u32 t ∷ u32 a ∷ u32 b ∷ [])
op names (Ext k t a) = parts (op_code code.Ext ∷ u8 (ext_number k) ∷ u32 t ∷ u32 a ∷ [])
op names (AddrGlobal t g n) = parts (op_code code.AddrGlobal ∷ u32 t ∷ name_index names g ∷ u32 n ∷ [])
op names (AddrSlot t s) = parts (op_code code.AddrSlot ∷ u32 t ∷ u32 s ∷ [])
op names (AddrFn t f) = parts (op_code code.AddrFn ∷ u32 t ∷ name_index names f ∷ [])
op names (LoadG t g k) = parts (op_code code.LoadG ∷ scalar k ∷ u32 t ∷ name_index names g ∷ [])
op names (StoreG g a k) = parts (op_code code.StoreG ∷ scalar k ∷ name_index names g ∷ u32 a ∷ [])
op names (Load k t a) = parts (op_code code.Load ∷ scalar k ∷ u32 t ∷ u32 a ∷ [])
op names (Store k a b) = parts (op_code code.Store ∷ scalar k ∷ u32 a ∷ u32 b ∷ [])
op names (Move a b size unit) = parts (op_code code.Move ∷ u32 a ∷ u32 b ∷ u32 size ∷ u32 unit ∷ [])
op names (Call t f args) = parts (op_code code.Call ∷ result t ∷ name_index names f ∷ arguments args ∷ [])
op names (CallInd t a shape args) = parts (op_code code.CallInd ∷ result t ∷ u32 a ∷ text shape ∷ arguments args ∷ [])

-- ---- ends of blocks

abbrev pub end_codes : List EndCode
end_codes = end_code.Jump ∷ end_code.Branch ∷ end_code.Return ∷ []

abbrev pub end_number : EndCode → ℕ
end_number = place (sameb the_end_codes) end_codes

abbrev pub end_byte : EndCode → List ℕ
end_byte c = u8 (end_number c)

abbrev pub ending : End → List ℕ
ending (end.Jump b) = parts (end_byte end_code.Jump ∷ u32 b ∷ [])
ending (end.Branch a b c) = parts (end_byte end_code.Branch ∷ u32 a ∷ u32 b ∷ u32 c ∷ [])
ending (end.Return a) = parts (end_byte end_code.Return ∷ result a ∷ [])

-- ---- which operations have a spelling

-- a shape's length has 32 bits
abbrev pub FitsOp : Op → Type 0
FitsOp (CallInd t a shape args) = FitsText shape
FitsOp _ = Unit {0}

-- a name of the table that may be named
abbrev pub Named : StartName → List (List ℕ) → List ℕ → Type 0
Named start names name = Contains names name × MayStand start name

-- an operation that is lawful in a function with so many temporaries and slots and has a spelling
abbrev pub OpFits : List (List ℕ) → ℕ → ℕ → Op → Type 0
OpFits names temps slots o = IsOp temps slots o × (FitsOp o × AllByRecursion (Named Refused names) (op_names o))
