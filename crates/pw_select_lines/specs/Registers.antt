-- Lines that move words between the registers of the calling convention (PA-RISC 1.1) and the frame.
use Rattle.std.specs.Prelude.{ℕ, ℤ, pos, neg_ℤ, ◌&&◌, int_le, Bool, if◌then◌else◌, List, [], ◌∷◌, ◌++◌, slice_get, unwrap_or}
use Rattle.std.specs.Int.{w32, cast_signed, cast_unsigned}
use Rattle.pw_value.specs.declared.value.Kind.{Kind}
use Rattle.pw_value.specs.declared.value.Kind.TheVariants.{S8, U8, S16, U16, W32}
use Rattle.pw_inst.specs.declared.Inst.{Inst}
use Rattle.pw_inst.specs.declared.Inst.TheVariants as i
use Rattle.pw_inst.specs.Limits.{near_least, near_limit}
use Rattle.pw_inst.specs.Registers.{help, stack_pointer, result}
use Rattle.pw_inst.specs.Setting.{left_part, right_part}
use Rattle.pw_inst.specs.declared.line.Line.{Line}
use Rattle.pw_inst.specs.declared.line.Line.TheVariants.{Plain, Fixed}
use Rattle.pw_inst.specs.declared.relocation.FixKind.TheVariants as kind
use Rattle.pw_inst.specs.declared.relocation.Symbol.{Symbol}
use Rattle.pw_inst.specs.declared.relocation.Symbol.TheVariants.{Named}
use Rattle.pw_alloc.specs.declared.located.Place.{Place}
use Rattle.pw_alloc.specs.declared.located.Place.TheVariants.{Slot, Reg}

-- ---- words

abbrev pub word : Inst → List Line
word x = Plain x ∷ []

-- a register's word in another
abbrev pub copied : ℕ → ℕ → List Line
copied a d = word (i.Or a 0 d)

-- a displacement that a memory instruction can hold
abbrev pub is_near : ℤ → Bool
is_near n = int_le (neg_ℤ (pos near_least)) n && int_le n (pos near_limit)

abbrev pub as_word : ℤ → ℕ
as_word n = cast_unsigned w32 n

-- a word in a register, by its left and right parts
abbrev pub long_constant : ℕ → ℕ → List Line
long_constant n d = Plain (i.Ldil (left_part n) d) ∷ Plain (i.Ldo (pos (right_part n)) d d) ∷ []

abbrev pub constant : ℕ → ℕ → List Line
constant n d = let signed = cast_signed w32 n in if is_near signed then word (i.Ldo signed 0 d) else long_constant n d

-- the address of a symbol plus a number in a register
abbrev pub address_of : Symbol → ℕ → ℕ → List Line
address_of s n d = Fixed (i.Ldil 0 d) kind.Ldil s n ∷ Fixed (i.Ldo (pos 0) d d) kind.Im14 s n ∷ []

-- ---- the frame

-- how a word of the frame is reached: the lines before, and the base and displacement then
pub record Reach : Type 0 where
  pub before : List Line
  pub base : ℕ
  pub displacement : ℤ

abbrev pub reach : ℤ → Reach
reach offset =
    if is_near offset
    then record { before = []; base = stack_pointer; displacement = offset }
    else record { before = long_constant (as_word offset) help ++ word (i.Addl stack_pointer help help); base = help; displacement = pos 0 }

abbrev pub load_from : ℤ → ℕ → List Line
load_from offset r = let at = reach offset in at.before ++ word (i.Ldw at.displacement at.base r)

abbrev pub store_to : ℤ → ℕ → List Line
store_to offset r = let at = reach offset in at.before ++ word (i.Stw r at.displacement at.base)

-- the address of a word of the frame in a register
abbrev pub frame_address : ℤ → ℕ → List Line
frame_address offset d = let at = reach offset in at.before ++ word (i.Ldo at.displacement at.base d)

-- ---- places

abbrev pub place_of : List Place → ℕ → Place
place_of places t = unwrap_or (slice_get places t) (Reg 0)

-- the register in which an operand is: its own, or the one into which it is loaded
abbrev pub operand_register : Place → ℕ → ℕ
operand_register (Reg r) other = r
operand_register (Slot offset) other = other

abbrev pub operand_lines : Place → ℕ → List Line
operand_lines (Reg r) other = []
operand_lines (Slot offset) other = load_from offset other

-- a temporary's word into a register
abbrev pub loaded : Place → ℕ → List Line
loaded (Reg r) d = copied r d
loaded (Slot offset) d = load_from offset d

-- the register in which a result is made, and the lines that put it where it belongs
abbrev pub result_register : Place → ℕ
result_register (Reg r) = r
result_register (Slot offset) = result

abbrev pub result_lines : Place → List Line
result_lines (Reg r) = []
result_lines (Slot offset) = store_to offset result

-- ---- scalars in memory

abbrev pub load_scalar : Kind → ℤ → ℕ → ℕ → Inst
load_scalar S8 im b t = i.Ldb im b t
load_scalar U8 im b t = i.Ldb im b t
load_scalar S16 im b t = i.Ldh im b t
load_scalar U16 im b t = i.Ldh im b t
load_scalar W32 im b t = i.Ldw im b t

abbrev pub store_scalar : Kind → ℕ → ℤ → ℕ → Inst
store_scalar S8 r im b = i.Stb r im b
store_scalar U8 r im b = i.Stb r im b
store_scalar S16 r im b = i.Sth r im b
store_scalar U16 r im b = i.Sth r im b
store_scalar W32 r im b = i.Stw r im b

-- what was loaded of a signed kind is extended by its sign
abbrev pub sign_spread : Kind → ℕ → List Line
sign_spread S8 t = word (i.Extrs t 31 8 t)
sign_spread S16 t = word (i.Extrs t 31 16 t)
sign_spread _ t = []

-- a scalar global is read into a register, or written from one, by its name
abbrev pub read_global : List ℕ → Kind → ℕ → List Line
read_global g k t =
    Fixed (i.Ldil 0 help) kind.Ldil (Named g) 0 ∷ Fixed (load_scalar k (pos 0) help t) kind.Im14 (Named g) 0 ∷ sign_spread k t

abbrev pub write_global : List ℕ → Kind → ℕ → List Line
write_global g k r =
    Fixed (i.Ldil 0 help) kind.Ldil (Named g) 0 ∷ Fixed (store_scalar k r (pos 0) help) kind.Im14 (Named g) 0 ∷ []
