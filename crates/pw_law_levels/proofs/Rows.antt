-- The rows of selection put nothing into the stack pointer, but where a function is entered and left.
use Rattle.std.proofs.Common.{ℕ, zero, suc, ◌+◌, ◌-◌, ◌*◌, ◌<◌, ℤ, Bool, true, false, if◌then◌else◌, Option, None, Some, List, [], ◌∷◌, ◌++◌, map, refl, arith}
use Rattle.std.specs.Prelude.{pos, neg_ℤ, nat_lt, take, drop, unwrap_or, slice_get, ◌-ℤ◌, ◌==◌, ◌&&◌}
use Rattle.std.specs.Int.{w32, cast_signed}
use Rattle.std.specs.List.{AllByRecursion, flat_map}
use Rattle.std.proofs.lemmas.Bool.{ne_eqb}
use Rattle.pw_value.specs.declared.value.Kind.{Kind}
use Rattle.pw_value.specs.declared.value.Kind.TheVariants as scalar
use Rattle.pw_flow.specs.declared.flow.UnKind.{UnKind}
use Rattle.pw_flow.specs.declared.flow.UnKind.TheVariants as un
use Rattle.pw_flow.specs.declared.flow.BinKind.{BinKind}
use Rattle.pw_flow.specs.declared.flow.BinKind.TheVariants as bin
use Rattle.pw_flow.specs.declared.flow.ExtKind.{ExtKind}
use Rattle.pw_flow.specs.declared.flow.ExtKind.TheVariants as ext
use Rattle.pw_flow.specs.declared.flow.Op.{Op}
use Rattle.pw_flow.specs.declared.flow.Op.TheVariants as op
use Rattle.pw_db.specs.Limits.{first_register, register_count}
use Rattle.pw_db.specs.declared.database.Web.{Web}
use Rattle.pw_db.specs.declared.database.Role.{Role}
use Rattle.pw_inst.specs.declared.Inst.{Inst}
use Rattle.pw_inst.specs.declared.Inst.TheVariants as i
use Rattle.pw_inst.specs.Computing.{target_registers}
use Rattle.pw_inst.specs.declared.line.Line.{Line}
use Rattle.pw_inst.specs.declared.line.Line.TheVariants.{Plain, CallTo, CallReg}
use Rattle.pw_inst.specs.declared.relocation.Symbol.{Symbol}
use Rattle.pw_inst.specs.declared.relocation.Symbol.TheVariants.{Named, Routine}
use Rattle.pw_webflow.specs.declared.web.WebOp.{WebOp}
use Rattle.pw_webflow.specs.declared.web.WebOp.TheVariants.{Flow, Read, Write}
use Rattle.pw_alloc.specs.declared.located.Place.{Place}
use Rattle.pw_alloc.specs.declared.located.Place.TheVariants.{Slot, Reg}
use Rattle.pw_alloc.specs.Frames.{saved_offset, below}
use Rattle.pw_alloc.specs.Allocation.{is_entry}
use Rattle.pw_select_lines.specs.Registers.{word, Reach, reach, is_near, as_word, constant, long_constant, address_of, load_from, store_to, frame_address, place_of, operand_register, operand_lines, loaded, result_register, result_lines, load_scalar, store_scalar, sign_spread, read_global, write_global, copied}
use Rattle.pw_select_lines.specs.Arithmetic.{unary_word, routine_of, binary_lines, extension_word, with_one, with_two, with_none, moved_unless_there, routine_result, by_routine, binary_by}
use Rattle.pw_select_lines.specs.Operations.{Layout, unit_loop, moved, stacked_arguments, register_arguments, called, called_by_value, call_result, op_lines, web_op_lines}
use Rattle.pw_select.specs.Selection.{saved_lines, entered_web, lines_of_web, entered_lines, stored_back, loaded_web, webs_loaded, webs_stored, incoming, parameter_in, parameters_in}
use Rattle.pw_law_levels.specs.Sparing.{IsOther, Spares, SparesPlace, SparesOp, SparesWeb}

abbrev pub AreSparing : List Line → Type 0
AreSparing lines = AllByRecursion Spares lines

abbrev Puts : Inst → Type 0
Puts x = AllByRecursion IsOther (target_registers x)

pub joined : (xs ys : List Line) → AreSparing xs → AreSparing ys → AreSparing (xs ++ ys)
joined [] ys h k = k
joined (x ∷ xs) ys h k = (h.0, joined xs ys h.1 k)

-- a register below it
pub other : (r : ℕ) → r < 30 → IsOther r
other r lt = ne_eqb r 30 (λ e. omega (arith, lt, e))

-- ---- registers, places and scalars

constant_by : (n d : ℕ) (t : Bool) → IsOther d → AreSparing (if t then Plain (i.Ldo (cast_signed w32 n) 0 d) ∷ [] else long_constant n d)
constant_by n d true h = ((h, tt), tt)
constant_by n d false h = ((h, tt), ((h, tt), tt))

pub constant_in : (n d : ℕ) → IsOther d → AreSparing (constant n d)
constant_in n d h = constant_by n d (is_near (cast_signed w32 n)) h

before_by : (offset : ℤ) (t : Bool) → AreSparing (if◌then◌else◌ {A = Reach} t (record { before = []; base = 30; displacement = offset }) (record { before = long_constant (as_word offset) 1 ++ word (i.Addl 30 1 1); base = 1; displacement = pos 0 })).before
before_by offset true = tt
before_by offset false = ((refl, tt), ((refl, tt), ((refl, tt), tt)))

before_in : (offset : ℤ) → AreSparing (reach offset).before
before_in offset = before_by offset (is_near offset)

pub load_in : (offset : ℤ) (r : ℕ) → IsOther r → AreSparing (load_from offset r)
load_in offset r h = joined (reach offset).before (word (i.Ldw (reach offset).displacement (reach offset).base r)) (before_in offset) ((h, tt), tt)

store_in : (offset : ℤ) (r : ℕ) → AreSparing (store_to offset r)
store_in offset r = joined (reach offset).before (word (i.Stw r (reach offset).displacement (reach offset).base)) (before_in offset) (tt, tt)

frame_address_in : (offset : ℤ) (d : ℕ) → IsOther d → AreSparing (frame_address offset d)
frame_address_in offset d h = joined (reach offset).before (word (i.Ldo (reach offset).displacement (reach offset).base d)) (before_in offset) ((h, tt), tt)

pub operand_in : (p : Place) (q : ℕ) → IsOther q → AreSparing (operand_lines p q)
operand_in (Reg r) q h = tt
operand_in (Slot offset) q h = load_in offset q h

pub loaded_in : (p : Place) (d : ℕ) → IsOther d → AreSparing (loaded p d)
loaded_in (Reg r) d h = ((h, tt), tt)
loaded_in (Slot offset) d h = load_in offset d h

result_in : (p : Place) → AreSparing (result_lines p)
result_in (Reg r) = tt
result_in (Slot offset) = store_in offset 29

result_other : (p : Place) → SparesPlace p → IsOther (result_register p)
result_other (Reg r) h = h
result_other (Slot offset) h = refl

address_in : (s : Symbol) (n d : ℕ) → IsOther d → AreSparing (address_of s n d)
address_in s n d h = ((h, tt), ((h, tt), tt))

sign_in : (k : Kind) (t : ℕ) → IsOther t → AreSparing (sign_spread k t)
sign_in scalar.S8 t h = ((h, tt), tt)
sign_in scalar.S16 t h = ((h, tt), tt)
sign_in scalar.U8 t h = tt
sign_in scalar.U16 t h = tt
sign_in scalar.W32 t h = tt

load_scalar_in : (k : Kind) (b t : ℕ) → IsOther t → Puts (load_scalar k (pos 0) b t)
load_scalar_in scalar.S8 b t h = (h, tt)
load_scalar_in scalar.U8 b t h = (h, tt)
load_scalar_in scalar.S16 b t h = (h, tt)
load_scalar_in scalar.U16 b t h = (h, tt)
load_scalar_in scalar.W32 b t h = (h, tt)

store_scalar_in : (k : Kind) (r b : ℕ) → Puts (store_scalar k r (pos 0) b)
store_scalar_in scalar.S8 r b = tt
store_scalar_in scalar.U8 r b = tt
store_scalar_in scalar.S16 r b = tt
store_scalar_in scalar.U16 r b = tt
store_scalar_in scalar.W32 r b = tt

read_in : (g : List ℕ) (k : Kind) (t : ℕ) → IsOther t → AreSparing (read_global g k t)
read_in g k t h = ((refl, tt), (load_scalar_in k 1 t h, sign_in k t h))

write_in : (g : List ℕ) (k : Kind) (r : ℕ) → AreSparing (write_global g k r)
write_in g k r = ((refl, tt), (store_scalar_in k r 1, tt))

-- ---- arithmetic

with_none_in : (t : Place) (lines : ℕ → List Line) → SparesPlace t → ((d : ℕ) → IsOther d → AreSparing (lines d)) → AreSparing (with_none t lines)
with_none_in t lines h each = joined (lines (result_register t)) (result_lines t) (each (result_register t) (result_other t h)) (result_in t)

with_one_in : (a t : Place) (lines : ℕ → ℕ → List Line) → SparesPlace t → ((r d : ℕ) → IsOther d → AreSparing (lines r d)) → AreSparing (with_one a t lines)
with_one_in a t lines h each =
    let r = operand_register a 22 in
    let d = result_register t in
    joined (operand_lines a 22 ++ lines r d) (result_lines t) (joined (operand_lines a 22) (lines r d) (operand_in a 22 refl) (each r d (result_other t h))) (result_in t)

with_two_in : (a b t : Place) (lines : ℕ → ℕ → ℕ → List Line) → SparesPlace t → ((r s d : ℕ) → IsOther d → AreSparing (lines r s d)) → AreSparing (with_two a b t lines)
with_two_in a b t lines h each =
    let r = operand_register a 22 in
    let s = operand_register b 21 in
    let d = result_register t in
    joined (operand_lines a 22 ++ operand_lines b 21 ++ lines r s d) (result_lines t)
    (joined (operand_lines a 22 ++ operand_lines b 21) (lines r s d) (joined (operand_lines a 22) (operand_lines b 21) (operand_in a 22 refl) (operand_in b 21 refl)) (each r s d (result_other t h)))
    (result_in t)

unary_in : (k : UnKind) (a d : ℕ) → IsOther d → Puts (unary_word k a d)
unary_in un.Neg a d h = (h, tt)
unary_in un.Not a d h = (h, tt)

extension_in : (k : ExtKind) (a d : ℕ) → IsOther d → Puts (extension_word k a d)
extension_in ext.S8 a d h = (h, tt)
extension_in ext.U8 a d h = (h, tt)
extension_in ext.S16 a d h = (h, tt)
extension_in ext.U16 a d h = (h, tt)

binary_in : (k : BinKind) (a b d : ℕ) → IsOther d → AreSparing (binary_lines k a b d)
binary_in bin.Add a b d h = ((h, tt), tt)
binary_in bin.Sub a b d h = ((h, tt), tt)
binary_in bin.And a b d h = ((h, tt), tt)
binary_in bin.Or a b d h = ((h, tt), tt)
binary_in bin.Xor a b d h = ((h, tt), tt)
binary_in bin.Shl a b d h = ((refl, tt), (tt, ((refl, tt), ((refl, tt), ((h, tt), tt)))))
binary_in bin.ShrU a b d h = (tt, ((h, tt), tt))
binary_in bin.ShrS a b d h = (tt, ((refl, tt), ((h, tt), tt)))
binary_in bin.Eq a b d h = ((h, tt), ((h, tt), tt))
binary_in bin.Ne a b d h = ((h, tt), ((h, tt), tt))
binary_in bin.LtS a b d h = ((h, tt), ((h, tt), tt))
binary_in bin.LeS a b d h = ((h, tt), ((h, tt), tt))
binary_in bin.LtU a b d h = ((h, tt), ((h, tt), tt))
binary_in bin.LeU a b d h = ((h, tt), ((h, tt), tt))
binary_in bin.Mul a b d h = tt
binary_in bin.DivS a b d h = tt
binary_in bin.DivU a b d h = tt
binary_in bin.RemS a b d h = tt
binary_in bin.RemU a b d h = tt

unless_by : (r d : ℕ) (t : Bool) → IsOther d → AreSparing (if t then [] else copied r d)
unless_by r d true h = tt
unless_by r d false h = ((h, tt), tt)

routine_result_in : (t : Place) → SparesPlace t → AreSparing (routine_result t)
routine_result_in t h =
    joined (moved_unless_there 29 (result_register t)) (result_lines t) (unless_by 29 (result_register t) (29 == result_register t) (result_other t h)) (result_in t)

by_routine_in : (k : ℕ) (a b t : Place) → SparesPlace t → AreSparing (by_routine k a b t)
by_routine_in k a b t h =
    joined (loaded a 26 ++ loaded b 25) (CallTo (Routine k) 31 ∷ routine_result t) (joined (loaded a 26) (loaded b 25) (loaded_in a 26 refl) (loaded_in b 25 refl))
    (tt, routine_result_in t h)

binary_by_in : (o : Option ℕ) (k : BinKind) (a b t : Place) → SparesPlace t → AreSparing (binary_by o k a b t)
binary_by_in (Some n) k a b t h = by_routine_in n a b t h
binary_by_in None k a b t h = with_two_in a b t (binary_lines k) h (λ r s d. binary_in k r s d)

-- ---- copies of bytes, and calls

load_unit_by : (b t : ℕ) (one two : Bool) → IsOther t → Puts (if one then i.Ldb (pos 0) b t else if two then i.Ldh (pos 0) b t else i.Ldw (pos 0) b t)
load_unit_by b t true two h = (h, tt)
load_unit_by b t false true h = (h, tt)
load_unit_by b t false false h = (h, tt)

store_unit_by : (r b : ℕ) (one two : Bool) → Puts (if one then i.Stb r (pos 0) b else if two then i.Sth r (pos 0) b else i.Stw r (pos 0) b)
store_unit_by r b true two = tt
store_unit_by r b false true = tt
store_unit_by r b false false = tt

loop_in : (unit : ℕ) → AreSparing (unit_loop unit)
loop_in unit = (load_unit_by 21 29 (unit == 1) (unit == 2) refl, ((refl, tt), (store_unit_by 29 1 (unit == 1) (unit == 2), ((refl, tt), ((refl, tt), (tt, tt))))))

moved_in : (a b : Place) (size unit : ℕ) → AreSparing (moved a b size unit)
moved_in a b size unit =
    joined (loaded b 21 ++ loaded a 1 ++ constant size 22) (unit_loop unit)
    (joined (loaded b 21 ++ loaded a 1) (constant size 22) (joined (loaded b 21) (loaded a 1) (loaded_in b 21 refl) (loaded_in a 1 refl)) (constant_in size 22 refl))
    (loop_in unit)

register_in : (r : ℕ) (args : List Place) → r < 30 → AreSparing (register_arguments r args)
register_in r [] lt = tt
register_in r (a ∷ rest) lt = joined (loaded a r) (register_arguments (r - 1) rest) (loaded_in a r (other r lt)) (register_in (r - 1) rest (omega (arith, lt)))

stacked_in : (offset : ℤ) (args : List Place) → AreSparing (stacked_arguments offset args)
stacked_in offset [] = tt
stacked_in offset (a ∷ rest) =
    joined (loaded a 22 ++ store_to offset 22) (stacked_arguments (offset -ℤ pos 4) rest)
    (joined (loaded a 22) (store_to offset 22) (loaded_in a 22 refl) (store_in offset 22))
    (stacked_in (offset -ℤ pos 4) rest)

called_in : (f : List ℕ) (args : List Place) → AreSparing (called f args)
called_in f args =
    let stacked = stacked_arguments (neg_ℤ (pos 52)) (drop 4 args) in
    let others = register_arguments 26 (take 4 args) in
    joined (stacked ++ others) (CallTo (Named f) 2 ∷ []) (joined stacked others (stacked_in (neg_ℤ (pos 52)) (drop 4 args)) (register_in 26 (take 4 args) (omega arith))) (tt, tt)

called_by_value_in : (f : Place) (args : List Place) → AreSparing (called_by_value f args)
called_by_value_in f args =
    let stacked = stacked_arguments (neg_ℤ (pos 52)) (drop 4 args) in
    let others = register_arguments 26 (take 4 args) in
    joined (stacked ++ loaded f 22 ++ others) (CallReg ∷ [])
    (joined (stacked ++ loaded f 22) others (joined stacked (loaded f 22) (stacked_in (neg_ℤ (pos 52)) (drop 4 args)) (loaded_in f 22 refl)) (register_in 26 (take 4 args) (omega arith)))
    (tt, tt)

-- ---- operations

place_in : (places : List Place) (t : ℕ) → AllByRecursion SparesPlace places → SparesPlace (place_of places t)
place_in [] t h = refl
place_in (p ∷ rest) zero h = h.0
place_in (p ∷ rest) (suc t) h = place_in rest t h.1

call_result_in : (places : List Place) (t : Option ℕ) → AllByRecursion SparesPlace places → AreSparing (call_result places t)
call_result_in places None h = tt
call_result_in places (Some t) h = with_none_in (place_of places t) (copied 28) (place_in places t h) (λ d other. ((other, tt), tt))

module _ (l : Layout) (h : AllByRecursion SparesPlace l.places) where
  at : (t : ℕ) → SparesPlace (place_of l.places t)
  at t = place_in l.places t h

  op_in : (o : Op) → AreSparing (op_lines l o)
  op_in (op.Const t n) = with_none_in (place_of l.places t) (constant n) (at t) (λ d other. constant_in n d other)
  op_in (op.Copy t a) = with_one_in (place_of l.places a) (place_of l.places t) copied (at t) (λ r d other. ((other, tt), tt))
  op_in (op.Un k t a) = with_one_in (place_of l.places a) (place_of l.places t) (λ a d. word (unary_word k a d)) (at t) (λ r d other. (unary_in k r d other, tt))
  op_in (op.Bin k t a b) = binary_by_in (routine_of k) k (place_of l.places a) (place_of l.places b) (place_of l.places t) (at t)
  op_in (op.Ext k t a) = with_one_in (place_of l.places a) (place_of l.places t) (λ a d. word (extension_word k a d)) (at t) (λ r d other. (extension_in k r d other, tt))
  op_in (op.AddrGlobal t x n) = with_none_in (place_of l.places t) (address_of (Named x) n) (at t) (λ d other. address_in (Named x) n d other)
  op_in (op.AddrSlot t s) = with_none_in (place_of l.places t) (frame_address (unwrap_or (slice_get l.slots s) (pos 0))) (at t) (λ d other. frame_address_in (unwrap_or (slice_get l.slots s) (pos 0)) d other)
  op_in (op.AddrFn t f) = with_none_in (place_of l.places t) (address_of (Named f) 0) (at t) (λ d other. address_in (Named f) 0 d other)
  op_in (op.LoadG t x k) = with_none_in (place_of l.places t) (read_global x k) (at t) (λ d other. read_in x k d other)
  op_in (op.StoreG x a k) =
      let p = place_of l.places a in
      joined (operand_lines p 22) (write_global x k (operand_register p 22)) (operand_in p 22 refl) (write_in x k (operand_register p 22))
  op_in (op.Load k t a) =
      with_one_in (place_of l.places a) (place_of l.places t) (λ a d. Plain (load_scalar k (pos 0) a d) ∷ sign_spread k d) (at t) (λ r d other. (load_scalar_in k r d other, sign_in k d other))
  op_in (op.Store k a b) =
      let p = place_of l.places a in
      let q = place_of l.places b in
      joined (operand_lines p 22 ++ operand_lines q 21) (word (store_scalar k (operand_register q 21) (pos 0) (operand_register p 22)))
      (joined (operand_lines p 22) (operand_lines q 21) (operand_in p 22 refl) (operand_in q 21 refl))
      (store_scalar_in k (operand_register q 21) (operand_register p 22), tt)
  op_in (op.Move a b size unit) = moved_in (place_of l.places a) (place_of l.places b) size unit
  op_in (op.Call t f args) = joined (called f (map (place_of l.places) args)) (call_result l.places t) (called_in f (map (place_of l.places) args)) (call_result_in l.places t h)
  op_in (op.CallInd t a shape args) =
      joined (called_by_value (place_of l.places a) (map (place_of l.places) args)) (call_result l.places t)
      (called_by_value_in (place_of l.places a) (map (place_of l.places) args)) (call_result_in l.places t h)

  web_op_in : (o : WebOp) → SparesOp o → AreSparing (web_op_lines l o)
  web_op_in (Flow o) own = op_in o
  web_op_in (Read t r) own = with_none_in (place_of l.places t) (copied r) (at t) (λ d other. ((other, tt), tt))
  web_op_in (Write r a) own =
      let p = place_of l.places a in
      joined (operand_lines p 22) (copied (operand_register p 22) r) (operand_in p 22 refl) ((own, tt), tt)

  pub ops_in : (ops : List WebOp) → AllByRecursion SparesOp ops → AreSparing (flat_map (web_op_lines l) ops)
  ops_in [] own = tt
  ops_in (o ∷ rest) own = joined (web_op_lines l o) (flat_map (web_op_lines l) rest) (web_op_in o own.0) (ops_in rest own.1)

-- ---- webs that are entered

entered_by : (lines : Web → List Line) (w : Web × Role) (rest : List (Web × Role)) (r : ℕ) (t : Bool) → AreSparing (lines w.0) → AreSparing (lines_of_web lines (entered_web rest r))
    → AreSparing (lines_of_web lines (if t then Some w.0 else entered_web rest r))
entered_by lines w rest r true here later = here
entered_by lines w rest r false here later = later

entered_in : (lines : Web → List Line) (webs : List (Web × Role)) (r : ℕ) → AllByRecursion SparesWeb webs → ((w : Web) → IsOther w.reg → AreSparing (lines w)) → AreSparing (lines_of_web lines (entered_web webs r))
entered_in lines [] r known each = tt
entered_in lines (w ∷ rest) r known each = entered_by lines w rest r ((w.0.reg == r) && is_entry w.1) (each w.0 known.0) (entered_in lines rest r known.1 each)

all_entered_in : (lines : Web → List Line) (webs : List (Web × Role)) (r more : ℕ) → AllByRecursion SparesWeb webs → ((w : Web) → IsOther w.reg → AreSparing (lines w))
    → AreSparing (entered_lines lines webs r more)
unfolding entered_lines
all_entered_in lines webs r zero known each = tt
all_entered_in lines webs r (suc more) known each =
    joined (lines_of_web lines (entered_web webs r)) (entered_lines lines webs (suc r) more) (entered_in lines webs r known each) (all_entered_in lines webs (suc r) more known each)

stored_by : (w : Web) (t : Bool) → AreSparing (if t then write_global w.global w.kind w.reg else [])
stored_by w true = write_in w.global w.kind w.reg
stored_by w false = tt

pub webs_loaded_in : (webs : List (Web × Role)) → AllByRecursion SparesWeb webs → AreSparing (webs_loaded webs)
webs_loaded_in webs known = all_entered_in loaded_web webs first_register register_count known (λ w other. read_in w.global w.kind w.reg other)

pub webs_stored_in : (webs : List (Web × Role)) → AllByRecursion SparesWeb webs → AreSparing (webs_stored webs)
webs_stored_in webs known = all_entered_in stored_back webs first_register register_count known (λ w other. stored_by w w.writes)

-- ---- what is saved, and parameters

pub saved_stored_in : (head k : ℕ) (saved : List ℕ) → AreSparing (saved_lines store_to head k saved)
saved_stored_in head k [] = tt
saved_stored_in head k (r ∷ rest) = joined (store_to (saved_offset head k) r) (saved_lines store_to head (k + 1) rest) (store_in (saved_offset head k) r) (saved_stored_in head (k + 1) rest)

pub saved_loaded_in : (head k : ℕ) (saved : List ℕ) → AllByRecursion IsOther saved → AreSparing (saved_lines load_from head k saved)
saved_loaded_in head k [] h = tt
saved_loaded_in head k (r ∷ rest) h =
    joined (load_from (saved_offset head k) r) (saved_lines load_from head (k + 1) rest) (load_in (saved_offset head k) r h.0) (saved_loaded_in head (k + 1) rest h.1)

incoming_by : (frame k d : ℕ) (t : Bool) → IsOther d → AreSparing (if t then copied (26 - k) d else load_from (below (frame + 52 + 4 * (k - 4))) d)
incoming_by frame k d true h = ((h, tt), tt)
incoming_by frame k d false h = load_in (below (frame + 52 + 4 * (k - 4))) d h

incoming_in : (frame k d : ℕ) → IsOther d → AreSparing (incoming frame k d)
incoming_in frame k d h = incoming_by frame k d (nat_lt k 4) h

parameter_is_in : (frame k : ℕ) (p : Place) → SparesPlace p → AreSparing (parameter_in frame k p)
parameter_is_in frame k (Reg r) h = incoming_in frame k r h
parameter_is_in frame k (Slot offset) h = joined (incoming frame k 22) (store_to offset 22) (incoming_in frame k 22 refl) (store_in offset 22)

pub parameters_are_in : (frame : ℕ) (places : List Place) (k more : ℕ) → AllByRecursion SparesPlace places → AreSparing (parameters_in frame places k more)
parameters_are_in frame places k zero h = tt
parameters_are_in frame places k (suc more) h =
    joined (parameter_in frame k (place_of places k)) (parameters_in frame places (suc k) more) (parameter_is_in frame k (place_of places k) (place_in places k h))
    (parameters_are_in frame places (suc k) more h)
