-- The lines of operations that are straight.
use Rattle.std.proofs.Common.{ℕ, ℤ, pos, Bool, true, false, List, [], ◌∷◌, ◌++◌}
use Rattle.std.specs.Prelude.{◌==◌, if◌then◌else◌}
use Rattle.std.specs.List.{AllByRecursion}
use Rattle.std.specs.Int.{w32, cast_signed}
use Rattle.pw_value.specs.declared.value.Kind.{Kind}
use Rattle.pw_value.specs.declared.value.Kind.TheVariants.{S8, U8, S16, U16, W32}
use Rattle.pw_flow.specs.declared.flow.UnKind.{UnKind}
use Rattle.pw_flow.specs.declared.flow.UnKind.TheVariants as un
use Rattle.pw_flow.specs.declared.flow.BinKind.{BinKind}
use Rattle.pw_flow.specs.declared.flow.BinKind.TheVariants as bin
use Rattle.pw_flow.specs.declared.flow.ExtKind.{ExtKind}
use Rattle.pw_flow.specs.declared.flow.ExtKind.TheVariants as ext
use Rattle.pw_inst.specs.declared.Inst.TheVariants as i
use Rattle.pw_inst.specs.Registers.{help, second, first, stack_pointer}
use Rattle.pw_inst.specs.declared.line.Line.{Line}
use Rattle.pw_alloc.specs.declared.located.Place.{Place}
use Rattle.pw_alloc.specs.declared.located.Place.TheVariants.{Slot, Reg}
use Rattle.pw_select_lines.specs.Registers.{Reach, word, copied, as_word, is_near, long_constant, constant, load_from, store_to, frame_address, operand_register, operand_lines, loaded, result_register, result_lines, load_scalar, store_scalar, sign_spread, read_global, write_global}
use Rattle.pw_select_lines.specs.Arithmetic.{unary_word, binary_lines, extension_word, with_none, with_one, with_two, moved_unless_there}
use Rattle.pw_law_select_rows.specs.Straight.{IsStraight}

abbrev pub AreStraight : List Line → Type 0
AreStraight lines = AllByRecursion IsStraight lines

pub joined_straight : (xs ys : List Line) → AreStraight xs → AreStraight ys → AreStraight (xs ++ ys)
joined_straight [] ys h k = k
joined_straight (x ∷ xs) ys h k = (h.0, joined_straight xs ys h.1 k)

-- ---- words of the frame

abbrev reach_by : Bool → ℤ → Reach
reach_by t offset =
    if t
    then record { before = []; base = stack_pointer; displacement = offset }
    else record { before = long_constant (as_word offset) help ++ word (i.Addl stack_pointer help help); base = help; displacement = pos 0 }

pub load_straight : (offset : ℤ) (r : ℕ) → AreStraight (load_from offset r)
load_straight offset r = by_test (is_near offset)
  where
    by_test : (t : Bool) → AreStraight ((reach_by t offset).before ++ word (i.Ldw (reach_by t offset).displacement (reach_by t offset).base r))
    by_test true = (tt, tt)
    by_test false = (tt, (tt, (tt, (tt, tt))))

pub store_straight : (offset : ℤ) (r : ℕ) → AreStraight (store_to offset r)
store_straight offset r = by_test (is_near offset)
  where
    by_test : (t : Bool) → AreStraight ((reach_by t offset).before ++ word (i.Stw r (reach_by t offset).displacement (reach_by t offset).base))
    by_test true = (tt, tt)
    by_test false = (tt, (tt, (tt, (tt, tt))))

pub frame_address_straight : (offset : ℤ) (d : ℕ) → AreStraight (frame_address offset d)
frame_address_straight offset d = by_test (is_near offset)
  where
    by_test : (t : Bool) → AreStraight ((reach_by t offset).before ++ word (i.Ldo (reach_by t offset).displacement (reach_by t offset).base d))
    by_test true = (tt, tt)
    by_test false = (tt, (tt, (tt, (tt, tt))))

-- ---- places

pub operand_straight : (a : Place) (other : ℕ) → AreStraight (operand_lines a other)
operand_straight (Reg r) other = tt
operand_straight (Slot offset) other = load_straight offset other

pub loaded_straight : (a : Place) (d : ℕ) → AreStraight (loaded a d)
loaded_straight (Reg r) d = (tt, tt)
loaded_straight (Slot offset) d = load_straight offset d

pub result_straight : (t : Place) → AreStraight (result_lines t)
result_straight (Reg r) = tt
result_straight (Slot offset) = store_straight offset 29

pub none_straight : (t : Place) (lines : ℕ → List Line) → ((d : ℕ) → AreStraight (lines d)) → AreStraight (with_none t lines)
none_straight t lines h = joined_straight (lines (result_register t)) (result_lines t) (h (result_register t)) (result_straight t)

pub one_straight : (a t : Place) (lines : ℕ → ℕ → List Line) → ((r d : ℕ) → AreStraight (lines r d)) → AreStraight (with_one a t lines)
one_straight a t lines h =
    let body = lines (operand_register a first) (result_register t) in
    joined_straight (operand_lines a first ++ body) (result_lines t)
    (joined_straight (operand_lines a first) body (operand_straight a first) (h (operand_register a first) (result_register t))) (result_straight t)

pub two_straight : (a b t : Place) (lines : ℕ → ℕ → ℕ → List Line) → ((r s d : ℕ) → AreStraight (lines r s d)) → AreStraight (with_two a b t lines)
two_straight a b t lines h =
    let body = lines (operand_register a first) (operand_register b second) (result_register t) in
    joined_straight (operand_lines a first ++ operand_lines b second ++ body) (result_lines t)
    (joined_straight (operand_lines a first ++ operand_lines b second) body
    (joined_straight (operand_lines a first) (operand_lines b second) (operand_straight a first) (operand_straight b second))
    (h (operand_register a first) (operand_register b second) (result_register t))) (result_straight t)

-- ---- rows

pub constant_straight : (n d : ℕ) → AreStraight (constant n d)
constant_straight n d = by_test (is_near (cast_signed w32 n))
  where
    by_test : (t : Bool) → AreStraight (if t then word (i.Ldo (cast_signed w32 n) 0 d) else long_constant n d)
    by_test true = (tt, tt)
    by_test false = (tt, (tt, tt))

pub unary_straight : (k : UnKind) (a d : ℕ) → AreStraight (word (unary_word k a d))
unary_straight un.Neg a d = (tt, tt)
unary_straight un.Not a d = (tt, tt)

pub extension_straight : (k : ExtKind) (a d : ℕ) → AreStraight (word (extension_word k a d))
extension_straight ext.S8 a d = (tt, tt)
extension_straight ext.U8 a d = (tt, tt)
extension_straight ext.S16 a d = (tt, tt)
extension_straight ext.U16 a d = (tt, tt)

pub binary_straight : (k : BinKind) (a b d : ℕ) → AreStraight (binary_lines k a b d)
binary_straight bin.Add a b d = (tt, tt)
binary_straight bin.Sub a b d = (tt, tt)
binary_straight bin.And a b d = (tt, tt)
binary_straight bin.Or a b d = (tt, tt)
binary_straight bin.Xor a b d = (tt, tt)
binary_straight bin.Mul a b d = tt
binary_straight bin.DivS a b d = tt
binary_straight bin.DivU a b d = tt
binary_straight bin.RemS a b d = tt
binary_straight bin.RemU a b d = tt
binary_straight bin.Shl a b d = (tt, (tt, (tt, (tt, (tt, tt)))))
binary_straight bin.ShrU a b d = (tt, (tt, tt))
binary_straight bin.ShrS a b d = (tt, (tt, (tt, tt)))
binary_straight bin.Eq a b d = (tt, (tt, tt))
binary_straight bin.Ne a b d = (tt, (tt, tt))
binary_straight bin.LtS a b d = (tt, (tt, tt))
binary_straight bin.LeS a b d = (tt, (tt, tt))
binary_straight bin.LtU a b d = (tt, (tt, tt))
binary_straight bin.LeU a b d = (tt, (tt, tt))

pub spread_straight : (k : Kind) (t : ℕ) → AreStraight (sign_spread k t)
spread_straight S8 t = (tt, tt)
spread_straight U8 t = tt
spread_straight S16 t = (tt, tt)
spread_straight U16 t = tt
spread_straight W32 t = tt

pub scalar_load_straight : (k : Kind) (im : ℤ) (b t : ℕ) (rest : List Line) → AreStraight rest → AreStraight (word (load_scalar k im b t) ++ rest)
scalar_load_straight S8 im b t rest h = (tt, h)
scalar_load_straight U8 im b t rest h = (tt, h)
scalar_load_straight S16 im b t rest h = (tt, h)
scalar_load_straight U16 im b t rest h = (tt, h)
scalar_load_straight W32 im b t rest h = (tt, h)

pub scalar_store_straight : (k : Kind) (r : ℕ) (im : ℤ) (b : ℕ) → AreStraight (word (store_scalar k r im b))
scalar_store_straight S8 r im b = (tt, tt)
scalar_store_straight U8 r im b = (tt, tt)
scalar_store_straight S16 r im b = (tt, tt)
scalar_store_straight U16 r im b = (tt, tt)
scalar_store_straight W32 r im b = (tt, tt)

pub read_straight : (g : List ℕ) (k : Kind) (t : ℕ) → AreStraight (read_global g k t)
read_straight g k t = (tt, (tt, spread_straight k t))

pub write_straight : (g : List ℕ) (k : Kind) (r : ℕ) → AreStraight (write_global g k r)
write_straight g k r = (tt, (tt, tt))

pub moved_straight : (r d : ℕ) → AreStraight (moved_unless_there r d)
moved_straight r d = by_test (r == d)
  where
    by_test : (t : Bool) → AreStraight (if t then [] else copied r d)
    by_test true = tt
    by_test false = (tt, tt)
