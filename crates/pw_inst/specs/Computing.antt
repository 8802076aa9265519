-- What each form of instruction does, by what the registers read: the one table of it. The machine's step and the runs of
-- the lines of functions stand on it. And the registers that each form names.
use Rattle.std.specs.Prelude.{ℕ, ℤ, ◌+◌, ◌-◌, ◌*◌, ◌/◌, ◌%◌, ◌^◌, List, [], ◌∷◌, Bool, false, not, ◌==◌, nat_lt, bit_and, bit_or, bit_xor, if◌then◌else◌}
use Rattle.std.specs.Int.{cast_unsigned, w32}
use Rattle.pw_value.specs.Words.{signed_less, signed_at_most, unsigned_less, unsigned_at_most, unsigned_difference}
use Rattle.pw_inst.specs.Registers.{answer, argument_register, routine_link}
use Rattle.pw_inst.specs.declared.Inst.{Inst}
use Rattle.pw_inst.specs.declared.Inst.TheVariants.{Ldb, Ldh, Ldw, Ldo, Stb, Sth, Stw, Ldil, And, Or, Xor, Sub, Addl, Vshd, Mtctl, Comclr, Subi, Extru, Extrs, Zdep, Combt, Combf, Bl, Bv, Ble, Break}

-- ---- words

-- Conditions on two words: 1 equal, 2 signed less, 3 signed less or equal, 4 unsigned less,
-- 5 unsigned less or equal, and 0 never.
abbrev pub condition : ℕ → ℕ → ℕ → Bool
condition c a b =
    if c == 1 then a == b
    else if c == 2 then signed_less a b
    else if c == 3 then signed_at_most a b
    else if c == 4 then unsigned_less a b
    else if c == 5 then unsigned_at_most a b
    else false

-- the `len` bits of a word that end at bit p, bit 31 being the last
abbrev pub extracted : ℕ → ℕ → ℕ → ℕ
extracted word p len = word / 2 ^ (31 - p) % 2 ^ len

-- `len` bits, extended to a word by their sign
abbrev pub sign_extended : ℕ → ℕ → ℕ
sign_extended len bits = if nat_lt bits (2 ^ (len - 1)) then bits else 2 ^ 32 - 2 ^ len + bits

-- the low `len` bits of a word so that they end at bit p, the rest 0
abbrev pub deposited : ℕ → ℕ → ℕ → ℕ
deposited word p len = word % 2 ^ len * 2 ^ (31 - p)

-- the word of a base register plus a displacement, modulo 2^32
abbrev pub offset_by : ℕ → ℤ → ℕ
offset_by base im = (base + cast_unsigned w32 im) % 2 ^ 32

-- ---- what an instruction does

-- how much is loaded or stored
pub data Width : Type 0 where
  OneByte : Width
  HalfWord : Width
  WholeWord : Width

abbrev pub bytes_of_width : Width → ℕ
bytes_of_width OneByte = 1
bytes_of_width HalfWord = 2
bytes_of_width WholeWord = 4

pub data Action : Type 0 where
  -- a register takes a word
  Puts : ℕ → ℕ → Action
  -- from an address into a register; to an address a word
  Loads : Width → ℕ → ℕ → Action
  Stores : Width → ℕ → ℕ → Action
  -- the shift amount register takes a number
  Shifts : ℕ → Action
  -- a register takes 0, and the next instruction is passed over or not
  Clears : ℕ → Bool → Action
  -- a branch by a displacement, taken or not
  Branches : Bool → ℤ → Action
  -- by a displacement, and the address to return to goes into a register; the next instruction is passed over or not
  Links : ℤ → ℕ → Bool → Action
  -- to an address; the same with a link
  Jumps : ℕ → Bool → Action
  Calls : ℕ → Bool → Action
  -- BREAK, by its two numbers
  Asks : ℕ → ℕ → Action

-- the table, by what each register reads and by the shift amount
abbrev pub action : (ℕ → ℕ) → ℕ → Inst → Action
action r shift (Ldb im b t) = Loads OneByte (offset_by (r b) im) t
action r shift (Ldh im b t) = Loads HalfWord (offset_by (r b) im) t
action r shift (Ldw im b t) = Loads WholeWord (offset_by (r b) im) t
action r shift (Ldo im b t) = Puts t (offset_by (r b) im)
action r shift (Stb s im b) = Stores OneByte (offset_by (r b) im) (r s)
action r shift (Sth s im b) = Stores HalfWord (offset_by (r b) im) (r s)
action r shift (Stw s im b) = Stores WholeWord (offset_by (r b) im) (r s)
action r shift (Ldil im t) = Puts t (im * 2048)
action r shift (And r1 r2 t) = Puts t (bit_and (r r1) (r r2))
action r shift (Or r1 r2 t) = Puts t (bit_or (r r1) (r r2))
action r shift (Xor r1 r2 t) = Puts t (bit_xor (r r1) (r r2))
action r shift (Sub r1 r2 t) = Puts t (unsigned_difference (r r1) (r r2))
action r shift (Addl r1 r2 t) = Puts t ((r r1 + r r2) % 2 ^ 32)
action r shift (Vshd r1 r2 t) = Puts t ((r r1 * 2 ^ 32 + r r2) / 2 ^ shift % 2 ^ 32)
action r shift (Mtctl s) = Shifts (r s % 32)
action r shift (Comclr c f r1 r2 t) = let holds = condition c (r r1) (r r2) in Clears t (if f then not holds else holds)
action r shift (Subi im s t) = Puts t (unsigned_difference (cast_unsigned w32 im) (r s))
action r shift (Extru s p len t) = Puts t (extracted (r s) p len)
action r shift (Extrs s p len t) = Puts t (sign_extended len (extracted (r s) p len))
action r shift (Zdep s p len t) = Puts t (deposited (r s) p len)
action r shift (Combt c r1 r2 disp) = Branches (condition c (r r1) (r r2)) disp
action r shift (Combf c r1 r2 disp) = Branches (not (condition c (r r1) (r r2))) disp
action r shift (Bl disp t n) = Links disp t n
action r shift (Bv b n) = Jumps (r b) n
action r shift (Ble b n) = Calls (r b) n
action r shift (Break im5 im13) = Asks im5 im13

-- ---- the registers that an instruction names; register 0 counts as any

-- the sources, which it reads
abbrev pub source_registers : Inst → List ℕ
source_registers (Ldb im b t) = b ∷ []
source_registers (Ldh im b t) = b ∷ []
source_registers (Ldw im b t) = b ∷ []
source_registers (Ldo im b t) = b ∷ []
source_registers (Stb s im b) = s ∷ b ∷ []
source_registers (Sth s im b) = s ∷ b ∷ []
source_registers (Stw s im b) = s ∷ b ∷ []
source_registers (Ldil im t) = []
source_registers (And r1 r2 t) = r1 ∷ r2 ∷ []
source_registers (Or r1 r2 t) = r1 ∷ r2 ∷ []
source_registers (Xor r1 r2 t) = r1 ∷ r2 ∷ []
source_registers (Sub r1 r2 t) = r1 ∷ r2 ∷ []
source_registers (Addl r1 r2 t) = r1 ∷ r2 ∷ []
source_registers (Vshd r1 r2 t) = r1 ∷ r2 ∷ []
source_registers (Mtctl s) = s ∷ []
source_registers (Comclr c f r1 r2 t) = r1 ∷ r2 ∷ []
source_registers (Subi im s t) = s ∷ []
source_registers (Extru s p len t) = s ∷ []
source_registers (Extrs s p len t) = s ∷ []
source_registers (Zdep s p len t) = s ∷ []
source_registers (Combt c r1 r2 disp) = r1 ∷ r2 ∷ []
source_registers (Combf c r1 r2 disp) = r1 ∷ r2 ∷ []
source_registers (Bl disp t n) = []
source_registers (Bv b n) = b ∷ []
source_registers (Ble b n) = b ∷ []
source_registers (Break im5 im13) = argument_register 0 ∷ []

-- the registers into which an action puts a word; what a BREAK reads goes into that of a call's result
abbrev pub registers_put : Action → List ℕ
registers_put (Puts t word) = t ∷ []
registers_put (Loads width a t) = t ∷ []
registers_put (Stores width a word) = []
registers_put (Shifts n) = []
registers_put (Clears t skips) = t ∷ []
registers_put (Branches taken disp) = []
registers_put (Links disp t n) = t ∷ []
registers_put (Jumps a n) = []
registers_put (Calls a n) = routine_link ∷ []
registers_put (Asks im5 im13) = answer ∷ []

-- the targets, which it writes, whatever the registers read
abbrev pub target_registers : Inst → List ℕ
target_registers i = registers_put (action (λ r. 0) 0 i)
