-- What is selected can be placed: each instruction has its fields in range.
use Rattle.std.proofs.Common.{◌≡◌, ℕ, zero, suc, ◌<◌, ◌^◌, Bool, true, false, if◌then◌else◌, List, [], ◌∷◌, ◌++◌, refl, arith}
use Rattle.std.proofs.lemmas.Int.{ints}
use Rattle.std.specs.Prelude.{ℤ, pos, neg_ℤ, negsuc, int_le, ◌&&◌}
use Rattle.std.specs.Int.{w32, cast_signed}
use Rattle.std.specs.List.{AllByRecursion}
use Rattle.pw_value.specs.declared.value.Kind.{Kind}
use Rattle.pw_value.specs.declared.value.Kind.TheVariants as kind
use Rattle.pw_inst.specs.Fields.{IsSigned}
use Rattle.pw_inst.specs.Limits.{near_least, near_limit}
use Rattle.pw_inst.specs.InstructionTable.{IsInRange}
use Rattle.pw_inst.specs.declared.Inst.TheVariants as i
use Rattle.pw_inst.specs.declared.line.Line.{Line}
use Rattle.pw_inst.specs.declared.relocation.Symbol.{Symbol}
use Rattle.pw_delay.specs.Lines.{AreLines}
use Rattle.pw_alloc.specs.Frames.{below}
use Rattle.pw_alloc.specs.declared.located.Place.{Place}
use Rattle.pw_alloc.specs.declared.located.Place.TheVariants.{Slot, Reg}
use Rattle.pw_select_lines.specs.Registers.{word, copied, is_near, as_word, long_constant, constant, address_of, Reach, reach, load_from, store_to, frame_address, place_of, operand_register, operand_lines, loaded, result_register, result_lines, load_scalar, store_scalar, sign_spread, read_global, write_global}

pub joined : (xs ys : List Line) → AreLines xs → AreLines ys → AreLines (xs ++ ys)
joined [] ys h k = k
joined (x ∷ xs) ys h k = (h.0, joined xs ys h.1 k)

pub copied_good : (a d : ℕ) → a < 32 → d < 32 → AreLines (copied a d)
unfolding IsInRange
copied_good a d ha hd = ((ha, omega arith, hd), tt)

and_true : (a b : Bool) → (a && b) ≡ true → (a ≡ true) × (b ≡ true)
and_true true b h = (refl, h)
and_true false b h = cc

near_signed : (n : ℤ) → is_near n ≡ true → IsSigned 14 n
near_signed n h =
    let both = and_true (int_le (neg_ℤ (pos near_least)) n) (int_le n (pos near_limit)) h in
    let low = both.0 in
    let high = both.1 in
    (grind (arith, ints), grind (arith, ints))

long_good : (n d : ℕ) → n < 2 ^ 32 → d < 32 → AreLines (long_constant n d)
unfolding IsInRange
long_good n d h hd = ((omega arith, hd), (((omega (arith, ints), omega (arith, ints)), hd, hd), tt))

pub constant_good : (n d : ℕ) → n < 2 ^ 32 → d < 32 → AreLines (constant n d)
unfolding IsInRange
constant_good n d h hd = by (is_near (cast_signed w32 n)) refl
  where
    by : (t : Bool) → is_near (cast_signed w32 n) ≡ t → AreLines (if t then word (i.Ldo (cast_signed w32 n) 0 d) else long_constant n d)
    by true e = ((near_signed (cast_signed w32 n) e, omega arith, hd), tt)
    by false e = long_good n d h hd

pub address_good : (s : Symbol) (n d : ℕ) → d < 32 → AreLines (address_of s n d)
unfolding IsInRange
address_good s n d hd = ((omega arith, hd), (((omega (arith, ints), omega (arith, ints)), hd, hd), tt))

record ReachGood (at : Reach) : Type 0 where
  before : AreLines at.before
  base : at.base < 32
  displacement : IsSigned 14 at.displacement

-- an offset that is a number of 32 bits
abbrev pub Fits : ℤ → Type 0
Fits offset = as_word offset < 2 ^ 32

pub below_fits : (n : ℕ) → Fits (below n)
below_fits zero = omega arith
below_fits (suc n) = omega arith

reach_good : (offset : ℤ) → Fits offset → ReachGood (reach offset)
unfolding IsInRange
reach_good offset fits = by (is_near offset) refl
  where
    by : (t : Bool) → is_near offset ≡ t → ReachGood (if t then record { before = []; base = 30; displacement = offset } else record { before = long_constant (as_word offset) 1 ++ word (i.Addl 30 1 1); base = 1; displacement = pos 0 })
    by true e = record { before = tt; base = omega arith; displacement = near_signed offset e }
    by false e = record {
      before = joined (long_constant (as_word offset) 1) (word (i.Addl 30 1 1)) (long_good (as_word offset) 1 fits (omega arith)) ((omega arith, omega arith, omega arith), tt);
      base = omega arith;
      displacement = (omega (arith, ints), omega (arith, ints));
    }

pub load_good : (offset : ℤ) (r : ℕ) → Fits offset → r < 32 → AreLines (load_from offset r)
unfolding IsInRange
load_good offset r fits hr =
    let g = reach_good offset fits in
    joined (reach offset).before (word (i.Ldw (reach offset).displacement (reach offset).base r)) g.before ((g.displacement, g.base, hr), tt)

pub store_good : (offset : ℤ) (r : ℕ) → Fits offset → r < 32 → AreLines (store_to offset r)
unfolding IsInRange
store_good offset r fits hr =
    let g = reach_good offset fits in
    joined (reach offset).before (word (i.Stw r (reach offset).displacement (reach offset).base)) g.before ((g.displacement, g.base, hr), tt)

pub frame_address_good : (offset : ℤ) (d : ℕ) → Fits offset → d < 32 → AreLines (frame_address offset d)
unfolding IsInRange
frame_address_good offset d fits hd =
    let g = reach_good offset fits in
    joined (reach offset).before (word (i.Ldo (reach offset).displacement (reach offset).base d)) g.before ((g.displacement, g.base, hd), tt)

-- ---- places

abbrev pub PlaceGood : Place → Type 0
PlaceGood (Reg r) = r < 32
PlaceGood (Slot offset) = Fits offset

pub place_good : (places : List Place) (t : ℕ) → AllByRecursion PlaceGood places → PlaceGood (place_of places t)
place_good [] t h = omega arith
place_good (p ∷ rest) zero h = h.0
place_good (p ∷ rest) (suc t) h = place_good rest t h.1

pub operand_good : (p : Place) (other : ℕ) → PlaceGood p → other < 32 → AreLines (operand_lines p other)
operand_good (Reg r) other h k = tt
operand_good (Slot offset) other h k = load_good offset other h k

pub operand_register_good : (p : Place) (other : ℕ) → PlaceGood p → other < 32 → operand_register p other < 32
operand_register_good (Reg r) other h k = h
operand_register_good (Slot offset) other h k = k

pub loaded_good : (p : Place) (d : ℕ) → PlaceGood p → d < 32 → AreLines (loaded p d)
loaded_good (Reg r) d h k = copied_good r d h k
loaded_good (Slot offset) d h k = load_good offset d h k

pub result_register_good : (p : Place) → PlaceGood p → result_register p < 32
result_register_good (Reg r) h = h
result_register_good (Slot offset) h = omega arith

pub result_good : (p : Place) → PlaceGood p → AreLines (result_lines p)
result_good (Reg r) h = tt
result_good (Slot offset) h = store_good offset 29 h (omega arith)

-- ---- scalars

zero_signed : IsSigned 14 (pos 0)
zero_signed = (omega (arith, ints), omega (arith, ints))

pub load_scalar_good : (k : Kind) (b t : ℕ) → b < 32 → t < 32 → IsInRange (load_scalar k (pos 0) b t)
unfolding IsInRange
load_scalar_good kind.S8 b t hb ht = (zero_signed, hb, ht)
load_scalar_good kind.U8 b t hb ht = (zero_signed, hb, ht)
load_scalar_good kind.S16 b t hb ht = (zero_signed, hb, ht)
load_scalar_good kind.U16 b t hb ht = (zero_signed, hb, ht)
load_scalar_good kind.W32 b t hb ht = (zero_signed, hb, ht)

pub store_scalar_good : (k : Kind) (r b : ℕ) → r < 32 → b < 32 → IsInRange (store_scalar k r (pos 0) b)
unfolding IsInRange
store_scalar_good kind.S8 r b hr hb = (zero_signed, hb, hr)
store_scalar_good kind.U8 r b hr hb = (zero_signed, hb, hr)
store_scalar_good kind.S16 r b hr hb = (zero_signed, hb, hr)
store_scalar_good kind.U16 r b hr hb = (zero_signed, hb, hr)
store_scalar_good kind.W32 r b hr hb = (zero_signed, hb, hr)

pub sign_good : (k : Kind) (t : ℕ) → t < 32 → AreLines (sign_spread k t)
unfolding IsInRange
sign_good kind.S8 t h = (((omega arith, omega arith, omega arith), h, h), tt)
sign_good kind.S16 t h = (((omega arith, omega arith, omega arith), h, h), tt)
sign_good kind.U8 t h = tt
sign_good kind.U16 t h = tt
sign_good kind.W32 t h = tt

left_good : IsInRange (i.Ldil 0 1)
unfolding IsInRange
left_good = (omega arith, omega arith)

pub read_good : (g : List ℕ) (k : Kind) (t : ℕ) → t < 32 → AreLines (read_global g k t)
read_good g k t h = (left_good, (load_scalar_good k 1 t (omega arith) h, sign_good k t h))

pub write_good : (g : List ℕ) (k : Kind) (r : ℕ) → r < 32 → AreLines (write_global g k r)
write_good g k r h = (left_good, (store_scalar_good k r 1 h (omega arith), tt))
