-- Which states of the machine are lawful, and how a later state of a run stands to an earlier one.
use Rattle.std.specs.Prelude.{ℕ, ◌≡◌, ◌<◌, ◌≤◌, ◌^◌, List, ◌++◌, length, slice_index}
use Rattle.pw_value.specs.Limits.{word_limit, memory_size}
use Rattle.pw_image.specs.Image.{data_start}
use Rattle.pw_machine.specs.Core.{Core, byte_at}
use Rattle.pw_machine.specs.Run.{State, Progress, Running, Stopped}

-- each is a byte
abbrev pub AreBytes : List ℕ → Type 0
AreBytes bytes = (i : ℕ) → slice_index bytes i < 2 ^ 8

-- There are 32 registers, each a word, of which register 0 is 0; the two program counters are words, and
-- the shift amount has five bits.
pub record AreRegistersLawful (core : Core) : Type 0 where
  pub count : length core.registers ≡ 32
  pub words : (r : ℕ) → slice_index core.registers r < 2 ^ 32
  pub zero : slice_index core.registers 0 ≡ 0
  pub front : core.front < 2 ^ 32
  pub back : core.back < 2 ^ 32
  pub shift : core.shift < 32

-- The memory has its size, and consists of bytes; the text is no longer than it may be, and the data begin
-- behind it.
pub record IsMemoryLawful (core : Core) : Type 0 where
  pub size : length core.memory ≡ memory_size
  pub bytes : AreBytes core.memory
  pub text : core.text ≤ word_limit
  pub data_from : core.data_start ≡ data_start core.text

pub record IsLawfulCore (core : Core) : Type 0 where
  pub registers : AreRegistersLawful core
  pub memory : IsMemoryLawful core

-- a lawful machine, whose input consists of bytes
pub record IsLawful (s : State) : Type 0 where
  pub core : IsLawfulCore s.core
  pub input : AreBytes s.rest

-- the state in which a run is, stopped or not
abbrev pub state_of : Progress → State
state_of (Running s) = s
state_of (Stopped end s) = s

-- where the text ends and the data begin, and all bytes below, are the same
pub record HasSameText (old new : Core) : Type 0 where
  pub text : new.text ≡ old.text
  pub data_from : new.data_start ≡ old.data_start
  pub bytes : (a : ℕ) → a < old.data_start → byte_at new.memory a ≡ byte_at old.memory a

-- What is left of the input is the end of what was left before, and bytes were appended to the output.
pub record HasGoneOn (old new : State) : Type 0 where
  pub consumed : List ℕ
  pub rest : old.rest ≡ consumed ++ new.rest
  pub appended : List ℕ
  pub output : new.output ≡ old.output ++ appended
  pub bytes : AreBytes appended

-- a later state of the same run
pub record IsLater (old new : State) : Type 0 where
  pub lawful : IsLawful new
  pub text : HasSameText old.core new.core
  pub streams : HasGoneOn old new
