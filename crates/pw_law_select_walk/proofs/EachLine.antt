-- The lines that selection gives, row by row.
use Rattle.std.proofs.Common.{◌≡◌, ℕ, zero, suc, ◌+◌, ◌-◌, ◌*◌, ◌<◌, ℤ, Bool, true, false, if◌then◌else◌, Option, None, Some, List, [], ◌∷◌, ◌++◌, map, refl, arith}
use Rattle.std.specs.Prelude.{pos, neg_ℤ, nat_lt, take, drop, unwrap_or, slice_get, ◌-ℤ◌, ◌==◌, ◌&&◌}
use Rattle.std.specs.Int.{w32, cast_signed}
use Rattle.std.specs.List.{AllByRecursion, flat_map}
use Rattle.pw_value.specs.declared.value.Kind.{Kind}
use Rattle.pw_value.specs.declared.value.Kind.TheVariants as scalar
use Rattle.pw_flow.specs.declared.flow.UnKind.{UnKind}
use Rattle.pw_flow.specs.declared.flow.UnKind.TheVariants as un
use Rattle.pw_flow.specs.declared.flow.BinKind.{BinKind}
use Rattle.pw_flow.specs.declared.flow.BinKind.TheVariants as bin
use Rattle.pw_flow.specs.declared.flow.ExtKind.{ExtKind}
use Rattle.pw_flow.specs.declared.flow.ExtKind.TheVariants as ext
use Rattle.pw_flow.specs.declared.flow.Op.{Op}
use Rattle.pw_flow.specs.declared.flow.Op.TheVariants as op
use Rattle.pw_flow.specs.declared.flow.End.{End}
use Rattle.pw_flow.specs.declared.flow.End.TheVariants as end
use Rattle.pw_db.specs.Limits.{first_register, register_count}
use Rattle.pw_db.specs.declared.database.Web.{Web}
use Rattle.pw_db.specs.declared.database.Role.{Role}
use Rattle.pw_inst.specs.Limits.{near_least, near_limit}
use Rattle.pw_inst.specs.declared.Inst.TheVariants as i
use Rattle.pw_inst.specs.declared.line.Line.{Line}
use Rattle.pw_inst.specs.declared.line.Line.TheVariants.{Plain, Fixed, Jump, BranchNonZero, Label, CallTo, CallReg, Leave}
use Rattle.pw_inst.specs.declared.relocation.FixKind.TheVariants as kind
use Rattle.pw_inst.specs.declared.relocation.Symbol.{Symbol}
use Rattle.pw_inst.specs.declared.relocation.Symbol.TheVariants.{Named, StackLimit, Routine}
use Rattle.pw_webflow.specs.declared.web.WebOp.{WebOp}
use Rattle.pw_webflow.specs.declared.web.WebOp.TheVariants.{Flow, Read, Write}
use Rattle.pw_webflow.specs.declared.web.WebBlock.{WebBlock}
use Rattle.pw_alloc.specs.declared.located.Place.{Place}
use Rattle.pw_alloc.specs.declared.located.Place.TheVariants.{Slot, Reg}
use Rattle.pw_alloc.specs.declared.located.Located.{Located}
use Rattle.pw_alloc.specs.Frames.{head_size, saved_offset, below}
use Rattle.pw_alloc.specs.Allocation.{is_entry}
use Rattle.pw_select_lines.specs.Registers.{word, Reach, reach, is_near, as_word, constant, long_constant, address_of, load_from, store_to, frame_address, place_of, operand_register, operand_lines, loaded, result_register, result_lines, load_scalar, store_scalar, sign_spread, read_global, write_global, copied}
use Rattle.pw_select_lines.specs.Arithmetic.{unary_word, routine_of, binary_lines, extension_word, with_one, with_two, with_none, moved_unless_there, routine_result, by_routine, binary_by}
use Rattle.pw_select_lines.specs.Operations.{Layout, layout, unit_loop, moved, stacked_arguments, register_arguments, called, called_by_value, call_result, op_lines, web_op_lines}
use Rattle.pw_select.specs.Selection.{slot_offsets, saved_lines, entered_web, lines_of_web, entered_lines, stored_back, loaded_web, webs_loaded, webs_stored, incoming, parameter_in, parameters_in, frame_end, entry_lines, prologue, frame_left, epilogue, end_lines, block_lines, blocks_lines, selected}
use Rattle.pw_law_select_walk.specs.Rows.{TakesAddress, IsAddressed, IsAlone, IsRow, IsSelected, KnowsFlow, KnowsOp, KnowsBlock, KnowsWeb, Knows}

abbrev pub AreRows : (List ℕ → Type 0) → (List ℕ → Type 0) → List Line → Type 0
AreRows Known Called lines = AllByRecursion (IsRow Known Called) lines

module _ (Known Called : List ℕ → Type 0) where
  joined : (xs ys : List Line) → AreRows Known Called xs → AreRows Known Called ys → AreRows Known Called (xs ++ ys)
  joined [] ys h k = k
  joined (x ∷ xs) ys h k = (h.0, joined xs ys h.1 k)

  -- ---- registers, places and scalars

  constant_by : (signed : ℤ) (n d : ℕ) (t : Bool) → AreRows Known Called (if t then Plain (i.Ldo signed 0 d) ∷ [] else long_constant n d)
  constant_by signed n d true = (tt, tt)
  constant_by signed n d false = (tt, (tt, tt))

  constant_in : (n d : ℕ) → AreRows Known Called (constant n d)
  constant_in n d = constant_by (cast_signed w32 n) n d (is_near (cast_signed w32 n))

  before_by : (offset : ℤ) (t : Bool) → AreRows Known Called (if◌then◌else◌ {A = Reach} t (record { before = []; base = 30; displacement = offset }) (record { before = long_constant (as_word offset) 1 ++ word (i.Addl 30 1 1); base = 1; displacement = pos 0 })).before
  before_by offset true = tt
  before_by offset false = (tt, (tt, (tt, tt)))

  before_in : (offset : ℤ) → AreRows Known Called (reach offset).before
  before_in offset = before_by offset (is_near offset)

  load_in : (offset : ℤ) (r : ℕ) → AreRows Known Called (load_from offset r)
  load_in offset r = joined (reach offset).before (word (i.Ldw (reach offset).displacement (reach offset).base r)) (before_in offset) (tt, tt)

  store_in : (offset : ℤ) (r : ℕ) → AreRows Known Called (store_to offset r)
  store_in offset r = joined (reach offset).before (word (i.Stw r (reach offset).displacement (reach offset).base)) (before_in offset) (tt, tt)

  frame_address_in : (offset : ℤ) (d : ℕ) → AreRows Known Called (frame_address offset d)
  frame_address_in offset d = joined (reach offset).before (word (i.Ldo (reach offset).displacement (reach offset).base d)) (before_in offset) (tt, tt)

  operand_in : (p : Place) (other : ℕ) → AreRows Known Called (operand_lines p other)
  operand_in (Reg r) other = tt
  operand_in (Slot offset) other = load_in offset other

  loaded_in : (p : Place) (d : ℕ) → AreRows Known Called (loaded p d)
  loaded_in (Reg r) d = (tt, tt)
  loaded_in (Slot offset) d = load_in offset d

  result_in : (p : Place) → AreRows Known Called (result_lines p)
  result_in (Reg r) = tt
  result_in (Slot offset) = store_in offset 29

  address_in : (s : Symbol) (n d : ℕ) → IsAddressed Known s → AreRows Known Called (address_of s n d)
  address_in s n d of = ((tt, of), ((tt, of), tt))

  sign_in : (k : Kind) (t : ℕ) → AreRows Known Called (sign_spread k t)
  sign_in scalar.S8 t = (tt, tt)
  sign_in scalar.S16 t = (tt, tt)
  sign_in scalar.U8 t = tt
  sign_in scalar.U16 t = tt
  sign_in scalar.W32 t = tt

  load_scalar_takes : (k : Kind) (b t : ℕ) → TakesAddress kind.Im14 (load_scalar k (pos 0) b t)
  load_scalar_takes scalar.S8 b t = tt
  load_scalar_takes scalar.U8 b t = tt
  load_scalar_takes scalar.S16 b t = tt
  load_scalar_takes scalar.U16 b t = tt
  load_scalar_takes scalar.W32 b t = tt

  store_scalar_takes : (k : Kind) (r b : ℕ) → TakesAddress kind.Im14 (store_scalar k r (pos 0) b)
  store_scalar_takes scalar.S8 r b = tt
  store_scalar_takes scalar.U8 r b = tt
  store_scalar_takes scalar.S16 r b = tt
  store_scalar_takes scalar.U16 r b = tt
  store_scalar_takes scalar.W32 r b = tt

  load_scalar_in : (k : Kind) (b t : ℕ) → IsAlone (load_scalar k (pos 0) b t)
  load_scalar_in scalar.S8 b t = tt
  load_scalar_in scalar.U8 b t = tt
  load_scalar_in scalar.S16 b t = tt
  load_scalar_in scalar.U16 b t = tt
  load_scalar_in scalar.W32 b t = tt

  store_scalar_in : (k : Kind) (r b : ℕ) → IsAlone (store_scalar k r (pos 0) b)
  store_scalar_in scalar.S8 r b = tt
  store_scalar_in scalar.U8 r b = tt
  store_scalar_in scalar.S16 r b = tt
  store_scalar_in scalar.U16 r b = tt
  store_scalar_in scalar.W32 r b = tt

  read_in : (g : List ℕ) (k : Kind) (t : ℕ) → Known g → AreRows Known Called (read_global g k t)
  read_in g k t h = ((tt, h), ((load_scalar_takes k 1 t, h), sign_in k t))

  write_in : (g : List ℕ) (k : Kind) (r : ℕ) → Known g → AreRows Known Called (write_global g k r)
  write_in g k r h = ((tt, h), ((store_scalar_takes k r 1, h), tt))

  -- ---- arithmetic

  with_none_in : (t : Place) (lines : ℕ → List Line) → ((d : ℕ) → AreRows Known Called (lines d)) → AreRows Known Called (with_none t lines)
  with_none_in t lines each = joined (lines (result_register t)) (result_lines t) (each (result_register t)) (result_in t)

  with_one_in : (a t : Place) (lines : ℕ → ℕ → List Line) → ((r d : ℕ) → AreRows Known Called (lines r d)) → AreRows Known Called (with_one a t lines)
  with_one_in a t lines each =
      let r = operand_register a 22 in
      let d = result_register t in
      joined (operand_lines a 22 ++ lines r d) (result_lines t) (joined (operand_lines a 22) (lines r d) (operand_in a 22) (each r d)) (result_in t)

  with_two_in : (a b t : Place) (lines : ℕ → ℕ → ℕ → List Line) → ((r s d : ℕ) → AreRows Known Called (lines r s d)) → AreRows Known Called (with_two a b t lines)
  with_two_in a b t lines each =
      let r = operand_register a 22 in
      let s = operand_register b 21 in
      let d = result_register t in
      joined (operand_lines a 22 ++ operand_lines b 21 ++ lines r s d) (result_lines t)
      (joined (operand_lines a 22 ++ operand_lines b 21) (lines r s d) (joined (operand_lines a 22) (operand_lines b 21) (operand_in a 22) (operand_in b 21)) (each r s d))
      (result_in t)

  unary_in : (k : UnKind) (a d : ℕ) → IsAlone (unary_word k a d)
  unary_in un.Neg a d = tt
  unary_in un.Not a d = tt

  extension_in : (k : ExtKind) (a d : ℕ) → IsAlone (extension_word k a d)
  extension_in ext.S8 a d = tt
  extension_in ext.U8 a d = tt
  extension_in ext.S16 a d = tt
  extension_in ext.U16 a d = tt

  binary_in : (k : BinKind) (a b d : ℕ) → AreRows Known Called (binary_lines k a b d)
  binary_in bin.Add a b d = (tt, tt)
  binary_in bin.Sub a b d = (tt, tt)
  binary_in bin.And a b d = (tt, tt)
  binary_in bin.Or a b d = (tt, tt)
  binary_in bin.Xor a b d = (tt, tt)
  binary_in bin.Shl a b d = (tt, (tt, (tt, (tt, (tt, tt)))))
  binary_in bin.ShrU a b d = (tt, (tt, tt))
  binary_in bin.ShrS a b d = (tt, (tt, (tt, tt)))
  binary_in bin.Eq a b d = (tt, (tt, tt))
  binary_in bin.Ne a b d = (tt, (tt, tt))
  binary_in bin.LtS a b d = (tt, (tt, tt))
  binary_in bin.LeS a b d = (tt, (tt, tt))
  binary_in bin.LtU a b d = (tt, (tt, tt))
  binary_in bin.LeU a b d = (tt, (tt, tt))
  binary_in bin.Mul a b d = tt
  binary_in bin.DivS a b d = tt
  binary_in bin.DivU a b d = tt
  binary_in bin.RemS a b d = tt
  binary_in bin.RemU a b d = tt

  unless_by : (r d : ℕ) (t : Bool) → AreRows Known Called (if t then [] else copied r d)
  unless_by r d true = tt
  unless_by r d false = (tt, tt)

  moved_unless_in : (r d : ℕ) → AreRows Known Called (moved_unless_there r d)
  moved_unless_in r d = unless_by r d (r == d)

  by_routine_in : (k : ℕ) (a b t : Place) → k < 5 → AreRows Known Called (by_routine k a b t)
  by_routine_in k a b t small =
      joined (loaded a 26 ++ loaded b 25) (CallTo (Routine k) 31 ∷ routine_result t) (joined (loaded a 26) (loaded b 25) (loaded_in a 26) (loaded_in b 25))
      ((refl, small), joined (moved_unless_there 29 (result_register t)) (result_lines t) (moved_unless_in 29 (result_register t)) (result_in t))

  routine_small : (k : BinKind) (n : ℕ) → routine_of k ≡ Some n → n < 5
  routine_small bin.DivS n e = let same : 0 ≡ n = cc in omega (arith, same)
  routine_small bin.DivU n e = let same : 1 ≡ n = cc in omega (arith, same)
  routine_small bin.Mul n e = let same : 2 ≡ n = cc in omega (arith, same)
  routine_small bin.RemS n e = let same : 3 ≡ n = cc in omega (arith, same)
  routine_small bin.RemU n e = let same : 4 ≡ n = cc in omega (arith, same)
  routine_small _ n e = absurd cc

  binary_by_in : (o : Option ℕ) (k : BinKind) (a b t : Place) → routine_of k ≡ o → AreRows Known Called (binary_by o k a b t)
  binary_by_in (Some n) k a b t e = by_routine_in n a b t (routine_small k n e)
  binary_by_in None k a b t e = with_two_in a b t (binary_lines k) (binary_in k)

  -- ---- copies of bytes, and calls

  load_unit_by : (b t : ℕ) (one two : Bool) → IsAlone (if one then i.Ldb (pos 0) b t else if two then i.Ldh (pos 0) b t else i.Ldw (pos 0) b t)
  load_unit_by b t true two = tt
  load_unit_by b t false true = tt
  load_unit_by b t false false = tt

  store_unit_by : (r b : ℕ) (one two : Bool) → IsAlone (if one then i.Stb r (pos 0) b else if two then i.Sth r (pos 0) b else i.Stw r (pos 0) b)
  store_unit_by r b true two = tt
  store_unit_by r b false true = tt
  store_unit_by r b false false = tt

  loop_in : (unit : ℕ) → AreRows Known Called (unit_loop unit)
  loop_in unit = (load_unit_by 21 29 (unit == 1) (unit == 2), (tt, (store_unit_by 29 1 (unit == 1) (unit == 2), (tt, (tt, (tt, tt))))))

  moved_in : (a b : Place) (size unit : ℕ) → AreRows Known Called (moved a b size unit)
  moved_in a b size unit =
      joined (loaded b 21 ++ loaded a 1 ++ constant size 22) (unit_loop unit)
      (joined (loaded b 21 ++ loaded a 1) (constant size 22) (joined (loaded b 21) (loaded a 1) (loaded_in b 21) (loaded_in a 1)) (constant_in size 22))
      (loop_in unit)

  register_in : (r : ℕ) (args : List Place) → AreRows Known Called (register_arguments r args)
  register_in r [] = tt
  register_in r (a ∷ rest) = joined (loaded a r) (register_arguments (r - 1) rest) (loaded_in a r) (register_in (r - 1) rest)

  stacked_in : (offset : ℤ) (args : List Place) → AreRows Known Called (stacked_arguments offset args)
  stacked_in offset [] = tt
  stacked_in offset (a ∷ rest) =
      joined (loaded a 22 ++ store_to offset 22) (stacked_arguments (offset -ℤ pos 4) rest)
      (joined (loaded a 22) (store_to offset 22) (loaded_in a 22) (store_in offset 22))
      (stacked_in (offset -ℤ pos 4) rest)

  called_in : (f : List ℕ) (args : List Place) → Called f → AreRows Known Called (called f args)
  called_in f args h =
      let stacked = stacked_arguments (neg_ℤ (pos 52)) (drop 4 args) in
      let others = register_arguments 26 (take 4 args) in
      joined (stacked ++ others) (CallTo (Named f) 2 ∷ []) (joined stacked others (stacked_in (neg_ℤ (pos 52)) (drop 4 args)) (register_in 26 (take 4 args))) ((refl, h), tt)

  called_by_value_in : (f : Place) (args : List Place) → AreRows Known Called (called_by_value f args)
  called_by_value_in f args =
      let stacked = stacked_arguments (neg_ℤ (pos 52)) (drop 4 args) in
      let others = register_arguments 26 (take 4 args) in
      joined (stacked ++ loaded f 22 ++ others) (CallReg ∷ [])
      (joined (stacked ++ loaded f 22) others (joined stacked (loaded f 22) (stacked_in (neg_ℤ (pos 52)) (drop 4 args)) (loaded_in f 22)) (register_in 26 (take 4 args)))
      (tt, tt)

  call_result_in : (places : List Place) (t : Option ℕ) → AreRows Known Called (call_result places t)
  call_result_in places None = tt
  call_result_in places (Some t) = with_none_in (place_of places t) (copied 28) (λ d. (tt, tt))

  -- ---- operations, by the names in them

  op_in : (l : Layout) (o : Op) → KnowsFlow Known Called o → AreRows Known Called (op_lines l o)
  op_in l (op.Const t n) own = with_none_in (place_of l.places t) (constant n) (constant_in n)
  op_in l (op.Copy t a) own = with_one_in (place_of l.places a) (place_of l.places t) copied (λ r d. (tt, tt))
  op_in l (op.Un k t a) own = with_one_in (place_of l.places a) (place_of l.places t) (λ a d. word (unary_word k a d)) (λ r d. (unary_in k r d, tt))
  op_in l (op.Bin k t a b) own = binary_by_in (routine_of k) k (place_of l.places a) (place_of l.places b) (place_of l.places t) refl
  op_in l (op.Ext k t a) own = with_one_in (place_of l.places a) (place_of l.places t) (λ a d. word (extension_word k a d)) (λ r d. (extension_in k r d, tt))
  op_in l (op.AddrGlobal t x n) own = with_none_in (place_of l.places t) (address_of (Named x) n) (λ d. address_in (Named x) n d own.0)
  op_in l (op.AddrSlot t s) own = with_none_in (place_of l.places t) (frame_address (unwrap_or (slice_get l.slots s) (pos 0))) (frame_address_in (unwrap_or (slice_get l.slots s) (pos 0)))
  op_in l (op.AddrFn t f) own = with_none_in (place_of l.places t) (address_of (Named f) 0) (λ d. address_in (Named f) 0 d own.0)
  op_in l (op.LoadG t x k) own = with_none_in (place_of l.places t) (read_global x k) (λ d. read_in x k d own.0)
  op_in l (op.StoreG x a k) own =
      let p = place_of l.places a in
      joined (operand_lines p 22) (write_global x k (operand_register p 22)) (operand_in p 22) (write_in x k (operand_register p 22) own.0)
  op_in l (op.Load k t a) own = with_one_in (place_of l.places a) (place_of l.places t) (λ a d. Plain (load_scalar k (pos 0) a d) ∷ sign_spread k d) (λ r d. (load_scalar_in k r d, sign_in k d))
  op_in l (op.Store k a b) own =
      let p = place_of l.places a in
      let q = place_of l.places b in
      joined (operand_lines p 22 ++ operand_lines q 21) (word (store_scalar k (operand_register q 21) (pos 0) (operand_register p 22)))
      (joined (operand_lines p 22) (operand_lines q 21) (operand_in p 22) (operand_in q 21))
      (store_scalar_in k (operand_register q 21) (operand_register p 22), tt)
  op_in l (op.Move a b size unit) own = moved_in (place_of l.places a) (place_of l.places b) size unit
  op_in l (op.Call t f args) own =
      joined (called f (map (place_of l.places) args)) (call_result l.places t) (called_in f (map (place_of l.places) args) own) (call_result_in l.places t)
  op_in l (op.CallInd t a shape args) own =
      joined (called_by_value (place_of l.places a) (map (place_of l.places) args)) (call_result l.places t) (called_by_value_in (place_of l.places a) (map (place_of l.places) args)) (call_result_in l.places t)

  web_op_in : (l : Layout) (o : WebOp) → KnowsOp Known Called o → AreRows Known Called (web_op_lines l o)
  web_op_in l (Flow o) own = op_in l o own
  web_op_in l (Read t r) own = with_none_in (place_of l.places t) (copied r) (λ d. (tt, tt))
  web_op_in l (Write r a) own =
      let p = place_of l.places a in
      joined (operand_lines p 22) (copied (operand_register p 22) r) (operand_in p 22) (tt, tt)

  ops_in : (l : Layout) (ops : List WebOp) → AllByRecursion (KnowsOp Known Called) ops → AreRows Known Called (flat_map (web_op_lines l) ops)
  ops_in l [] own = tt
  ops_in l (o ∷ rest) own = joined (web_op_lines l o) (flat_map (web_op_lines l) rest) (web_op_in l o own.0) (ops_in l rest own.1)

  -- ---- webs that are entered

  abbrev AreKnown : List (Web × Role) → Type 0
  AreKnown webs = AllByRecursion (KnowsWeb Known) webs

  entered_by : (lines : Web → List Line) (w : Web × Role) (rest : List (Web × Role)) (r : ℕ) (t : Bool) → AreRows Known Called (lines w.0) → AreRows Known Called (lines_of_web lines (entered_web rest r))
      → AreRows Known Called (lines_of_web lines (if t then Some w.0 else entered_web rest r))
  entered_by lines w rest r true here later = here
  entered_by lines w rest r false here later = later

  entered_in : (lines : Web → List Line) (webs : List (Web × Role)) (r : ℕ) → AreKnown webs → ((w : Web) → Known w.global → AreRows Known Called (lines w)) → AreRows Known Called (lines_of_web lines (entered_web webs r))
  entered_in lines [] r known each = tt
  entered_in lines (w ∷ rest) r known each = entered_by lines w rest r ((w.0.reg == r) && is_entry w.1) (each w.0 known.0) (entered_in lines rest r known.1 each)

  all_entered_in : (lines : Web → List Line) (webs : List (Web × Role)) (r more : ℕ) → AreKnown webs → ((w : Web) → Known w.global → AreRows Known Called (lines w)) → AreRows Known Called (entered_lines lines webs r more)
  unfolding entered_lines
  all_entered_in lines webs r zero known each = tt
  all_entered_in lines webs r (suc more) known each =
      joined (lines_of_web lines (entered_web webs r)) (entered_lines lines webs (suc r) more) (entered_in lines webs r known each) (all_entered_in lines webs (suc r) more known each)

  stored_by : (w : Web) (t : Bool) → Known w.global → AreRows Known Called (if t then write_global w.global w.kind w.reg else [])
  stored_by w true h = write_in w.global w.kind w.reg h
  stored_by w false h = tt

  -- ---- prologue and epilogue

  saved_in : (move : ℤ → ℕ → List Line) (head k : ℕ) (saved : List ℕ) → ((offset : ℤ) (r : ℕ) → AreRows Known Called (move offset r)) → AreRows Known Called (saved_lines move head k saved)
  saved_in move head k [] each = tt
  saved_in move head k (r ∷ rest) each = joined (move (saved_offset head k) r) (saved_lines move head (k + 1) rest) (each (saved_offset head k) r) (saved_in move head (k + 1) rest each)

  incoming_by : (frame k d : ℕ) (t : Bool) → AreRows Known Called (if t then copied (26 - k) d else load_from (below (frame + 52 + 4 * (k - 4))) d)
  incoming_by frame k d true = (tt, tt)
  incoming_by frame k d false = load_in (below (frame + 52 + 4 * (k - 4))) d

  incoming_in : (frame k d : ℕ) → AreRows Known Called (incoming frame k d)
  incoming_in frame k d = incoming_by frame k d (nat_lt k 4)

  parameter_is_in : (frame k : ℕ) (p : Place) → AreRows Known Called (parameter_in frame k p)
  parameter_is_in frame k (Reg r) = incoming_in frame k r
  parameter_is_in frame k (Slot offset) = joined (incoming frame k 22) (store_to offset 22) (incoming_in frame k 22) (store_in offset 22)

  parameters_are_in : (frame : ℕ) (places : List Place) (k more : ℕ) → AreRows Known Called (parameters_in frame places k more)
  parameters_are_in frame places k zero = tt
  parameters_are_in frame places k (suc more) =
      joined (parameter_in frame k (place_of places k)) (parameters_in frame places (suc k) more) (parameter_is_in frame k (place_of places k)) (parameters_are_in frame places (suc k) more)

  frame_end_by : (frame : ℕ) (t : Bool) → AreRows Known Called (if t then constant frame 1 ++ word (i.Addl 30 1 1) else word (i.Ldo (pos frame) 30 1))
  frame_end_by frame true = joined (constant frame 1) (word (i.Addl 30 1 1)) (constant_in frame 1) (tt, tt)
  frame_end_by frame false = (tt, tt)

  frame_left_by : (frame : ℕ) (t : Bool) → AreRows Known Called (if t then constant frame 1 ++ word (i.Sub 30 1 30) else word (i.Ldo (below frame) 30 30))
  frame_left_by frame true = joined (constant frame 1) (word (i.Sub 30 1 30)) (constant_in frame 1) (tt, tt)
  frame_left_by frame false = (tt, tt)

  entry_in : (frame : ℕ) → AreRows Known Called (entry_lines frame)
  entry_in frame =
      joined (address_of StackLimit 0 21 ++ frame_end frame) (Plain (i.Comclr 5 false 1 21 0) ∷ Plain (i.Break 0 4) ∷ Plain (i.Stw 2 (neg_ℤ (pos 20)) 30) ∷ copied 1 30)
      (joined (address_of StackLimit 0 21) (frame_end frame) (address_in StackLimit 0 21 tt) (frame_end_by frame (nat_lt near_limit frame)))
      (tt, (tt, (tt, (tt, tt))))

  pub prologue_rows : (f : Located) → AreKnown f.body.directives.webs → AreRows Known Called (prologue f)
  prologue_rows f known =
      let saves = saved_lines store_to (head_size f.body) 0 f.saved in
      let webs = webs_loaded f.body.directives.webs in
      joined (entry_lines f.frame ++ saves ++ webs) (parameters_in f.frame f.places 0 f.body.params)
      (joined (entry_lines f.frame ++ saves) webs
      (joined (entry_lines f.frame) saves (entry_in f.frame) (saved_in store_to (head_size f.body) 0 f.saved store_in))
      (all_entered_in loaded_web f.body.directives.webs first_register register_count known (λ w h. read_in w.global w.kind w.reg h)))
      (parameters_are_in f.frame f.places 0 f.body.params)

  epilogue_in : (f : Located) → AreKnown f.body.directives.webs → AreRows Known Called (epilogue f)
  epilogue_in f known =
      let webs = webs_stored f.body.directives.webs in
      let restores = saved_lines load_from (head_size f.body) 0 f.saved in
      let back = load_from (below (f.frame + 20)) 2 in
      joined (webs ++ restores ++ back ++ frame_left f.frame) (Leave ∷ [])
      (joined (webs ++ restores ++ back) (frame_left f.frame)
      (joined (webs ++ restores) back
      (joined webs restores (all_entered_in stored_back f.body.directives.webs first_register register_count known (λ w h. stored_by w w.writes h)) (saved_in load_from (head_size f.body) 0 f.saved load_in))
      (load_in (below (f.frame + 20)) 2))
      (frame_left_by f.frame (nat_lt near_least f.frame)))
      (tt, tt)

  -- ---- blocks

  end_in : (f : Located) → AreKnown f.body.directives.webs → (e : End) → AreRows Known Called (end_lines f e)
  end_in f known (end.Jump b) = (tt, tt)
  end_in f known (end.Branch a b c) =
      let p = place_of f.places a in
      joined (operand_lines p 22) (BranchNonZero (operand_register p 22) b ∷ Jump c ∷ []) (operand_in p 22) (tt, (tt, tt))
  end_in f known (end.Return None) = epilogue_in f known
  end_in f known (end.Return (Some a)) = joined (loaded (place_of f.places a) 28) (epilogue f) (loaded_in (place_of f.places a) 28) (epilogue_in f known)

  -- behind its label
  pub block_rows : (f : Located) (slots : List ℤ) → AreKnown f.body.directives.webs → (b : WebBlock) → KnowsBlock Known Called b
      → AreRows Known Called (flat_map (web_op_lines (layout f.places slots)) b.ops ++ end_lines f b.end)
  block_rows f slots known b own =
      joined (flat_map (web_op_lines (layout f.places slots)) b.ops) (end_lines f b.end) (ops_in (layout f.places slots) b.ops own) (end_in f known b.end)

  -- ---- each line of a function

  module _ (P : Line → Type 0) (row : (l : Line) → IsRow Known Called l → P l) (label : (b : ℕ) → P (Label b)) where
    both : (xs ys : List Line) → AllByRecursion P xs → AllByRecursion P ys → AllByRecursion P (xs ++ ys)
    both [] ys h k = k
    both (x ∷ xs) ys h k = (h.0, both xs ys h.1 k)

    each_row : (lines : List Line) → AreRows Known Called lines → AllByRecursion P lines
    each_row [] h = tt
    each_row (l ∷ rest) h = (row l h.0, each_row rest h.1)

    each_block : (f : Located) (slots : List ℤ) (n : ℕ) → AreKnown f.body.directives.webs → (blocks : List WebBlock) → AllByRecursion (KnowsBlock Known Called) blocks → AllByRecursion P (blocks_lines f slots n blocks)
    each_block f slots n known [] own = tt
    each_block f slots n known (b ∷ rest) own =
        let inside = flat_map (web_op_lines (layout f.places slots)) b.ops ++ end_lines f b.end in
        both (block_lines f slots n b) (blocks_lines f slots (n + 1) rest)
        (label n, each_row inside (block_rows f slots known b own.0))
        (each_block f slots (n + 1) known rest own.1)

    -- every property that rows and labels have
    pub each_selected : (f : Located) → Knows Known Called f → AllByRecursion P (selected f)
    unfolding selected
    each_selected f own =
        both (prologue f) (blocks_lines f (slot_offsets f) 0 f.body.blocks)
        (each_row (prologue f) (prologue_rows f own.webs))
        (each_block f (slot_offsets f) 0 own.webs f.body.blocks own.blocks)

  selected_row : (l : Line) → IsRow Known Called l → IsSelected Known Called l
  selected_row (Plain x) h = h
  selected_row (Fixed x k s n) h = h
  selected_row (Jump b) h = h
  selected_row (BranchNonZero r b) h = h
  selected_row (Label b) h = tt
  selected_row (CallTo s r) h = h
  selected_row CallReg h = h
  selected_row Leave h = h

  pub selected_lines : (f : Located) → Knows Known Called f → AllByRecursion (IsSelected Known Called) (selected f)
  selected_lines = each_selected (IsSelected Known Called) selected_row (λ b. tt)

-- ---- where names do not matter

abbrev pub Anything : List ℕ → Type 0
Anything name = Unit {0}

any_flow : (o : Op) → KnowsFlow Anything Anything o
any_flow (op.AddrGlobal t x n) = (tt, tt)
any_flow (op.AddrFn t f) = (tt, tt)
any_flow (op.LoadG t x k) = (tt, tt)
any_flow (op.StoreG x a k) = (tt, tt)
any_flow _ = tt

any_op : (o : WebOp) → KnowsOp Anything Anything o
any_op (Flow o) = any_flow o
any_op (Read t r) = tt
any_op (Write r a) = tt

any_ops : (ops : List WebOp) → AllByRecursion (KnowsOp Anything Anything) ops
any_ops [] = tt
any_ops (o ∷ rest) = (any_op o, any_ops rest)

any_blocks : (blocks : List WebBlock) → AllByRecursion (KnowsBlock Anything Anything) blocks
any_blocks [] = tt
any_blocks (b ∷ rest) = (any_ops b.ops, any_blocks rest)

any_webs : (webs : List (Web × Role)) → AllByRecursion (KnowsWeb Anything) webs
any_webs [] = tt
any_webs (w ∷ rest) = (tt, any_webs rest)

pub anything : (f : Located) → Knows Anything Anything f
anything f = record { blocks = any_blocks f.body.blocks; webs = any_webs f.body.directives.webs }
