-- Calls of the routines: the state of the machine in which one is entered, and what it leaves.
use Rattle.std.specs.Prelude.{ℕ, ℤ, Option, Some, None, true, ◌≡◌, ◌≢◌, ◌+◌, ◌*◌, ◌/◌, ◌%◌, ◌^◌, ◌<◌, ◌≤◌, Bool, false, ◌==◌, ◌||◌, List, length, slice_index, slice_set, int_div, int_rem}
use Rattle.std.specs.Int.{cast_signed, cast_unsigned, w32}
use Rattle.pw_value.specs.Limits.{text_start, word_limit}
use Rattle.pw_inst.specs.declared.Inst.{Inst}
use Rattle.pw_inst.specs.declared.Inst.TheVariants.{Ldb, Ldh, Ldw, Stb, Sth, Stw}
use Rattle.pw_inst.specs.InstructionTable.{decoded}
use Rattle.pw_machine.specs.Core.{Core, register, word_at}
use Rattle.pw_machine.specs.Run.{State, Running, run_of}

-- The words stand in the text from an address on, and the text goes on behind them: a return's last step
-- passes over the word there.
pub record StandsAt (words : List ℕ) (address : ℕ) (core : Core) : Type 0 where
  pub aligned : address % 4 ≡ 0
  pub above : text_start ≤ address
  pub within : address + 4 * length words < text_start + 4 * core.text
  pub text : core.text ≤ word_limit
  pub each : (i : ℕ) → i < length words → word_at core.memory (address + 4 * i) ≡ slice_index words i

-- 32 registers, each a word
pub record AreRegisters (registers : List ℕ) : Type 0 where
  pub count : length registers ≡ 32
  pub words : (r : ℕ) → slice_index registers r < 2 ^ 32

-- The machine runs, and the next instruction is the first of these words.
pub record Enters (words : List ℕ) (address : ℕ) (s : State) : Type 0 where
  pub stands : StandsAt words address s.core
  pub front : s.core.front ≡ address
  pub back : s.core.back ≡ address + 4
  pub nullify : s.core.nullify ≡ false
  pub stopped : s.core.stopped ≡ None
  pub registers : AreRegisters s.core.registers

-- The state after a return to the address in a register: the run goes on there with other registers, and
-- all else is as it was.
abbrev pub returned : State → ℕ → List ℕ → State
returned s link registers =
    let to = register s.core link in
    record s { core = record s.core { registers = registers; front = to; back = (to + 4) % 2 ^ 32; nullify = false } }

-- the registers that arithmetic may change
abbrev pub is_scratch : ℕ → Bool
is_scratch r = (r == 1) || (r == 21) || (r == 22) || (r == 25) || (r == 26) || (r == 28) || (r == 29)

-- a load or a store
abbrev pub is_access : Option Inst → Bool
is_access (Some (Ldb im b t)) = true
is_access (Some (Ldh im b t)) = true
is_access (Some (Ldw im b t)) = true
is_access (Some (Stb r im b)) = true
is_access (Some (Sth r im b)) = true
is_access (Some (Stw r im b)) = true
is_access _ = false

-- The next instruction stands at an address or behind it, below another, and neither loads nor stores; or it
-- is nullified, and then it may stand right behind.
pub record IsInside (address top : ℕ) (core : Core) : Type 0 where
  pub above : address ≤ core.front
  pub below : core.front ≤ top
  pub quiet : core.nullify ≡ false → (core.front < top) × (is_access (decoded (word_at core.memory core.front)) ≡ false)

-- it does so at each of the run's first steps
abbrev pub StaysInside : ℕ → ℕ → ℕ → State → Type 0
StaysInside address top steps s = (k : ℕ) (mid : State) → k < steps → run_of k s ≡ Running mid → IsInside address top mid.core

-- The run returns to the address in register 31 within so many steps, with a word in register 29 that is a
-- result, and with the scratch registers alone changed. Until then each step is inside the routine's words
-- (one that is nullified may stand right behind them), and none loads or stores.
pub record Computes (routine : List ℕ) (address : ℕ) (s : State) (bound : ℕ) (IsResult : ℕ → Type 0) : Type 0 where
  pub steps : ℕ
  pub soon : steps ≤ bound
  pub registers : List ℕ
  pub runs : run_of steps s ≡ Running (returned s 31 registers)
  pub inside : StaysInside address (address + 4 * length routine) steps s
  pub result : IsResult (slice_index registers 29)
  pub kept : (r : ℕ) → is_scratch r ≡ false → slice_index registers r ≡ slice_index s.core.registers r
  pub words : AreRegisters registers

-- ---- the results, of the words in registers 26 and 25

abbrev pub IsProduct : State → ℕ → Type 0
IsProduct s word = word ≡ register s.core 26 * register s.core 25 % 2 ^ 32

-- the unsigned quotient and remainder; any word for a zero divisor

abbrev pub IsQuotient : State → ℕ → Type 0
IsQuotient s word = register s.core 25 ≢ 0 → word ≡ register s.core 26 / register s.core 25

abbrev pub IsRemainder : State → ℕ → Type 0
IsRemainder s word = register s.core 25 ≢ 0 → word ≡ register s.core 26 % register s.core 25

-- The same of signed words: the quotient truncated towards 0, and the remainder with the dividend's sign.
-- ISO C90 6.3.5 leaves this way open where an operand is below 0. The smallest number by -1 has the quotient
-- 2^31, as a word.

abbrev pub signed : State → ℕ → ℤ
signed s r = cast_signed w32 (register s.core r)

abbrev pub IsSignedQuotient : State → ℕ → Type 0
IsSignedQuotient s word = register s.core 25 ≢ 0 → word ≡ cast_unsigned w32 (int_div (signed s 26) (signed s 25))

abbrev pub IsSignedRemainder : State → ℕ → Type 0
IsSignedRemainder s word = register s.core 25 ≢ 0 → word ≡ cast_unsigned w32 (int_rem (signed s 26) (signed s 25))

-- ---- the library

-- the state after a return to the address in register 2 with a word in register 28, and all else as it was
abbrev pub answers : State → ℕ → State
answers s word = returned s 2 (slice_set s.core.registers 28 word)

-- what register 26 gives to a call: its low 8 bits
abbrev pub given : State → ℕ
given s = register s.core 26 % 2 ^ 8
