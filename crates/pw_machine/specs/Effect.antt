-- The effect of what an instruction does on the machine, and of the step at front. All registers are read before
-- one is written.
use Rattle.std.specs.Prelude.{ℕ, ℤ, ◌+◌, ◌*◌, ◌%◌, ◌^◌, List, Option, Some, None, Bool, true, false, not, ◌&&◌, ◌||◌, ◌==◌, nat_lt, nat_le, if◌then◌else◌}
use Rattle.std.specs.Int.{cast_unsigned, w32}
use Rattle.pw_value.specs.Limits.{text_start, memory_size}
use Rattle.pw_inst.specs.Registers.{argument_register, routine_link}
use Rattle.pw_inst.specs.declared.Inst.{Inst}
use Rattle.pw_inst.specs.Computing.{Action, Puts, Loads, Stores, Shifts, Clears, Branches, Links, Jumps, Calls, Asks, Width, OneByte, HalfWord, WholeWord, bytes_of_width, offset_by, action}
use Rattle.pw_inst.specs.InstructionTable.{decoded}
use Rattle.pw_machine.specs.declared.ends.End.{End}
use Rattle.pw_machine.specs.declared.ends.End.TheVariants.{Ended, StackStop, Halted}
use Rattle.pw_machine.specs.declared.ends.Halt.{Halt}
use Rattle.pw_machine.specs.declared.ends.Halt.TheVariants.{Illegal, Unaligned, OutOfMemoryRange, TextWrite, BadBranch, BadBreak}
use Rattle.pw_machine.specs.Core.{Core, register, with_register, next, moved, advanced, byte_at, half_at, word_at, with_byte, with_half, with_word}

-- What a step does: it goes on to a state, asks for a byte of input, gives a byte of output, or ends the run.
pub data Effect : Type 0 where
  Goes : Core → Effect
  Reads : Effect
  Writes : ℕ → Effect
  Stops : End → Effect

-- ---- registers and memory

-- The instruction puts a word into a register, and the next one follows.
abbrev pub puts : Core → ℕ → ℕ → Effect
puts core t value = Goes (with_register (advanced core) t value)

-- a base register plus a displacement, modulo 2^32
abbrev pub address : Core → ℕ → ℤ → ℕ
address core b im = offset_by (register core b) im

-- The instruction at front halts the run.
abbrev pub halts : Core → Halt → Effect
halts core halt = Stops (Halted halt core.front)

-- An access to `size` bytes is tested in this order: whether it is aligned, whether it lies in the memory
-- from the start of the text on, and whether a store lies at or above the start of data.
abbrev pub access_fault : Core → ℕ → ℕ → Bool → Option Halt
access_fault core a size stores =
    if not (a % size == 0) then Some Unaligned
    else if nat_lt a text_start || nat_lt memory_size (a + size) then Some OutOfMemoryRange
    else if stores && nat_lt a core.data_start then Some TextWrite
    else None

-- the effect of an access, where it has no fault
abbrev pub unless : Option Halt → Core → Effect → Effect
unless None core effect = effect
unless (Some halt) core effect = halts core halt

-- what a load of `size` bytes does, where `value` is what stands in the memory
abbrev pub loads : Core → ℕ → ℕ → ℕ → ℕ → Effect
loads core a size t value = unless (access_fault core a size false) core (puts core t value)

-- what a store of `size` bytes does, where `memory` is what it leaves
abbrev pub stores : Core → ℕ → ℕ → List ℕ → Effect
stores core a size memory = unless (access_fault core a size true) core (Goes (record (advanced core) { memory = memory }))

-- ---- branches

-- the instruction's own address + 8 + 4 * disp
abbrev pub target : Core → ℤ → ℕ
target core disp = (core.front + 8 + 4 * cast_unsigned w32 disp) % 2 ^ 32

-- a branch that is taken where the test holds
abbrev pub branches_if : Core → Bool → ℤ → Effect
branches_if core taken disp = Goes (moved core (if taken then target core disp else next core) false)

-- BREAK 0,1 reads, 0,2 writes the low byte of the first argument's register, 0,3 ends with that byte, 0,4 stops for
-- want of stack; every other BREAK halts.
abbrev pub breaks : Core → ℕ → ℕ → Effect
breaks core im5 im13 =
    if im5 == 0 && im13 == 1 then Reads
    else if im5 == 0 && im13 == 2 then Writes (register core (argument_register 0) % 2 ^ 8)
    else if im5 == 0 && im13 == 3 then Stops (Ended (register core (argument_register 0) % 2 ^ 8))
    else if im5 == 0 && im13 == 4 then Stops StackStop
    else halts core BadBreak

-- ---- from what an instruction does to its effect

-- what stands at an address
abbrev pub memory_at : Width → List ℕ → ℕ → ℕ
memory_at OneByte memory a = byte_at memory a
memory_at HalfWord memory a = half_at memory a
memory_at WholeWord memory a = word_at memory a

-- the memory after a word is stored there, or the low part of it
abbrev pub memory_with : Width → List ℕ → ℕ → ℕ → List ℕ
memory_with OneByte memory a word = with_byte memory a word
memory_with HalfWord memory a word = with_half memory a word
memory_with WholeWord memory a word = with_word memory a word

abbrev pub effect_of_action : Core → Action → Effect
effect_of_action core (Puts t word) = puts core t word
effect_of_action core (Loads width a t) = loads core a (bytes_of_width width) t (memory_at width core.memory a)
effect_of_action core (Stores width a word) = stores core a (bytes_of_width width) (memory_with width core.memory a word)
effect_of_action core (Shifts n) = Goes (record (advanced core) { shift = n })
effect_of_action core (Clears t skips) = Goes (with_register (moved core (next core) skips) t 0)
effect_of_action core (Branches taken disp) = branches_if core taken disp
effect_of_action core (Links disp t n) = Goes (with_register (moved core (target core disp) n) t (next core))
effect_of_action core (Jumps a n) = Goes (moved core a n)
effect_of_action core (Calls a n) = Goes (with_register (moved core a n) routine_link (next core))
effect_of_action core (Asks im5 im13) = breaks core im5 im13

abbrev pub executed : Core → Inst → Effect
executed core i = effect_of_action core (action (λ r. register core r) core.shift i)

-- ---- the step at front

-- an address is a multiple of 4 inside the text
abbrev pub is_in_text : Core → ℕ → Bool
is_in_text core a = (a % 4 == 0) && nat_le text_start a && nat_lt a (text_start + 4 * core.text)

-- a word that is no instruction halts the run
abbrev pub effect_of_inst : Core → Option Inst → Effect
effect_of_inst core None = halts core Illegal
effect_of_inst core (Some inst) = executed core inst

-- Front has to be in the text. A nullified instruction only clears the bit; any other is decoded.
unfoldable pub effect_of : Core → Effect
effect_of core =
    if not (is_in_text core core.front) then halts core BadBranch
    else if core.nullify then Goes (advanced core)
    else effect_of_inst core (decoded (word_at core.memory core.front))
