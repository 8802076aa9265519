-- How a state of the machine shows one of the run of lines, and what the machine does where a word acts.
use Rattle.std.specs.Prelude.{ℕ, ◌≡◌, ◌≤◌}
use Rattle.pw_machine.specs.declared.ends.End.TheVariants.{StackStop}
use Rattle.pw_machine.specs.Core.{Core, register, next, byte_at}
use Rattle.pw_machine.specs.Effect.{Effect, Goes, Stops}
use Rattle.pw_run_languages.specs.Acts as lines
use Rattle.pw_run_languages.specs.Acts.{Act, Acts, Full, Fails}

-- The registers are the same, and so is the memory from the start of the data on; below it the machine has its text.
pub record Shows (c : lines.Core) (core : Core) : Type 0 where
  pub registers : (r : ℕ) → c.registers r ≡ register core r
  pub memory : (a : ℕ) → core.data_start ≤ a → c.memory a ≡ byte_at core.memory a
  pub shift : c.shift ≡ core.shift
  pub skip : c.skip ≡ core.nullify

-- the instruction at back is next, the one at an address comes after it, and the text is the same
pub record Heads (old new : Core) (to : ℕ) : Type 0 where
  pub front : new.front ≡ old.back
  pub back : new.back ≡ to
  pub text : new.text ≡ old.text
  pub data_start : new.data_start ≡ old.data_start
  pub stopped : new.stopped ≡ old.stopped

-- an effect leads to the instruction at back and then to an address, and to a state of registers and memory
pub record Leads (core : Core) (effect : Effect) (c : lines.Core) (to : ℕ) : Type 0 where
  pub new : Core
  pub goes : effect ≡ Goes new
  pub shows : Shows c new
  pub heads : Heads core new to

-- an effect does what a word does, unless that is none that code should have
abbrev pub DoesSo : Core → Effect → Act → Type 0
DoesSo core effect (Acts c) = Leads core effect c (next core)
DoesSo core effect Full = effect ≡ Stops StackStop
DoesSo core effect Fails = Unit {0}
