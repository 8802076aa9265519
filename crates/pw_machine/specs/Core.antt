-- The state of the machine, apart from its input and output: registers, the two program counters, the
-- nullify bit, the shift amount register and the memory, as PA-RISC 1.1 has them.
use Rattle.std.specs.Prelude.{ℕ, ◌+◌, ◌%◌, ◌^◌, List, Option, Bool, false, ◌==◌, slice_index, slice_set, if◌then◌else◌}
use Rattle.pw_machine.specs.declared.ends.End.{End}
-- memory, big-endian
pub use Rattle.pw_pages.specs.Bytes.{byte_at, half_at, word_at, with_byte, with_half, with_word}

pub record Core : Type 0 where
  -- the 32 general registers, each a word
  pub registers : List ℕ
  -- the address of the instruction that is next, and of the one after it
  pub front : ℕ
  pub back : ℕ
  -- whether the next instruction is nullified
  pub nullify : Bool
  -- the shift amount register, below 32
  pub shift : ℕ
  -- the 64 MiB of memory, byte by byte
  pub memory : List ℕ
  -- how many words of text there are
  pub text : ℕ
  -- the address below which nothing is stored
  pub data_start : ℕ
  -- how the run ended, once it has
  pub stopped : Option End

-- ---- general registers

-- register 0 reads 0
abbrev pub register : Core → ℕ → ℕ
register core r = if r == 0 then 0 else slice_index core.registers r

-- register 0 ignores writes
abbrev pub with_register : Core → ℕ → ℕ → Core
with_register core r value = if r == 0 then core else record core { registers = slice_set core.registers r value }

-- ---- going on to the next instruction

-- the address 4 beyond back
abbrev pub next : Core → ℕ
next core = (core.back + 4) % 2 ^ 32

-- The instruction at back is next, nullified or not, and the one at `after` comes after it.
abbrev pub moved : Core → ℕ → Bool → Core
moved core after nullify = record core { front = core.back; back = after; nullify = nullify }

-- the same with no branch
abbrev pub advanced : Core → Core
advanced core = moved core (next core) false
