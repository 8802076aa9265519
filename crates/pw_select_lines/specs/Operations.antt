-- The lines of each operation.
use Rattle.std.specs.Prelude.{ℕ, ℤ, pos, neg_ℤ, ◌-◌, ◌-ℤ◌, ◌==◌, if◌then◌else◌, Option, Some, None, List, [], ◌∷◌, ◌++◌, map, take, drop, unwrap_or, slice_get}
use Rattle.pw_value.specs.declared.value.Kind.{Kind}
use Rattle.pw_flow.specs.declared.flow.Op.{Op}
use Rattle.pw_flow.specs.declared.flow.Op.TheVariants as op
use Rattle.pw_inst.specs.Registers.{help, first, second, result, answer, return_address, argument_register}
use Rattle.pw_inst.specs.declared.Inst.{Inst}
use Rattle.pw_inst.specs.declared.Inst.TheVariants as i
use Rattle.pw_inst.specs.declared.line.Line.{Line}
use Rattle.pw_inst.specs.declared.line.Line.TheVariants.{Plain, CallTo, CallReg}
use Rattle.pw_inst.specs.declared.relocation.Symbol.TheVariants.{Named}
use Rattle.pw_webflow.specs.declared.web.WebOp.{WebOp}
use Rattle.pw_webflow.specs.declared.web.WebOp.TheVariants.{Flow, Read, Write}
use Rattle.pw_alloc.specs.declared.located.Place.{Place}
use Rattle.pw_alloc.specs.Frames.{first_stacked, below}
use Rattle.pw_select_lines.specs.Arithmetic.{unary_word, routine_of, extension_word, with_one, with_none, binary_by}
use Rattle.pw_select_lines.specs.Registers.{word, copied, constant, address_of, frame_address, store_to, place_of, operand_register, operand_lines, loaded, load_scalar, store_scalar, sign_spread, read_global, write_global}

-- where the temporaries and the slots of the function stand
pub record Layout : Type 0 where
  pub places : List Place
  pub slots : List ℤ

abbrev pub layout : List Place → List ℤ → Layout
layout places slots = record { places = places; slots = slots }

-- ---- scalars

abbrev pub stored_global : List ℕ → Place → Kind → List Line
stored_global g a k = operand_lines a first ++ write_global g k (operand_register a first)

abbrev pub loaded_scalar : Kind → Place → Place → List Line
loaded_scalar k t a = with_one a t (λ a d. Plain (load_scalar k (pos 0) a d) ∷ sign_spread k d)

abbrev pub stored_scalar : Kind → Place → Place → List Line
stored_scalar k a b =
    operand_lines a first ++ operand_lines b second
    ++ word (store_scalar k (operand_register b second) (pos 0) (operand_register a first))

-- ---- copies of bytes: a loop over so many units

abbrev pub load_unit : ℕ → ℕ → ℕ → Inst
load_unit unit b t =
    if unit == 1 then i.Ldb (pos 0) b t else if unit == 2 then i.Ldh (pos 0) b t else i.Ldw (pos 0) b t

abbrev pub store_unit : ℕ → ℕ → ℕ → Inst
store_unit unit r b =
    if unit == 1 then i.Stb r (pos 0) b else if unit == 2 then i.Sth r (pos 0) b else i.Stw r (pos 0) b

-- one unit is copied, and the addresses go on
abbrev pub unit_copied : ℕ → List Line
unit_copied unit =
    Plain (load_unit unit second result) ∷ Plain (i.Ldo (pos unit) second second)
    ∷ Plain (store_unit unit result help) ∷ Plain (i.Ldo (pos unit) help help) ∷ []

-- the bytes that are left are counted down, and the loop goes back while there are some
abbrev pub bytes_counted : ℕ → List Line
bytes_counted unit =
    Plain (i.Ldo (neg_ℤ (pos unit)) first first) ∷ Plain (i.Combf 1 first 0 (neg_ℤ (pos 7))) ∷ []

abbrev pub unit_loop : ℕ → List Line
unit_loop unit = unit_copied unit ++ bytes_counted unit

abbrev pub moved : Place → Place → ℕ → ℕ → List Line
moved a b size unit = loaded b second ++ loaded a help ++ constant size first ++ unit_loop unit

-- ---- calls

-- the arguments behind the fourth go to words of the frame, from an offset downward
abbrev pub stacked_arguments : ℤ → List Place → List Line
stacked_arguments offset [] = []
stacked_arguments offset (a ∷ rest) =
    loaded a first ++ store_to offset first ++ stacked_arguments (offset -ℤ pos 4) rest

-- the first four go to registers, from one downward
abbrev pub register_arguments : ℕ → List Place → List Line
register_arguments r [] = []
register_arguments r (a ∷ rest) = loaded a r ++ register_arguments (r - 1) rest

-- the arguments behind the fourth go first, since the registers are free for them then
abbrev pub called : List ℕ → List Place → List Line
called f args =
    stacked_arguments (below first_stacked) (drop 4 args) ++ register_arguments (argument_register 0) (take 4 args) ++ CallTo (Named f) return_address ∷ []

abbrev pub called_by_value : Place → List Place → List Line
called_by_value f args =
    stacked_arguments (below first_stacked) (drop 4 args) ++ loaded f first ++ register_arguments (argument_register 0) (take 4 args) ++ CallReg ∷ []

-- a call's result, where it has a temporary
abbrev pub call_result : List Place → Option ℕ → List Line
call_result places None = []
call_result places (Some t) = with_none (place_of places t) (copied answer)

-- ---- operations

abbrev pub op_lines : Layout → Op → List Line
op_lines l (op.Const t n) = with_none (place_of l.places t) (constant n)
op_lines l (op.Copy t a) = with_one (place_of l.places a) (place_of l.places t) copied
op_lines l (op.Un k t a) = with_one (place_of l.places a) (place_of l.places t) (λ a d. word (unary_word k a d))
op_lines l (op.Bin k t a b) = binary_by (routine_of k) k (place_of l.places a) (place_of l.places b) (place_of l.places t)
op_lines l (op.Ext k t a) = with_one (place_of l.places a) (place_of l.places t) (λ a d. word (extension_word k a d))
op_lines l (op.AddrGlobal t g n) = with_none (place_of l.places t) (address_of (Named g) n)
op_lines l (op.AddrSlot t s) = with_none (place_of l.places t) (frame_address (unwrap_or (slice_get l.slots s) (pos 0)))
op_lines l (op.AddrFn t f) = with_none (place_of l.places t) (address_of (Named f) 0)
op_lines l (op.LoadG t g k) = with_none (place_of l.places t) (read_global g k)
op_lines l (op.StoreG g a k) = stored_global g (place_of l.places a) k
op_lines l (op.Load k t a) = loaded_scalar k (place_of l.places t) (place_of l.places a)
op_lines l (op.Store k a b) = stored_scalar k (place_of l.places a) (place_of l.places b)
op_lines l (op.Move a b size unit) = moved (place_of l.places a) (place_of l.places b) size unit
op_lines l (op.Call t f args) = called f (map (place_of l.places) args) ++ call_result l.places t
op_lines l (op.CallInd t a shape args) =
    called_by_value (place_of l.places a) (map (place_of l.places) args) ++ call_result l.places t

-- an operation of a directed graph
abbrev pub web_op_lines : Layout → WebOp → List Line
web_op_lines l (Flow o) = op_lines l o
web_op_lines l (Read t r) = with_none (place_of l.places t) (copied r)
web_op_lines l (Write r a) =
    operand_lines (place_of l.places a) first ++ copied (operand_register (place_of l.places a) first) r
