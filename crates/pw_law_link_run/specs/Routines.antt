-- Calls of routines, as the lines and the machine see them.
use Rattle.std.specs.Prelude.{ℕ, ◌≡◌, ◌+◌, ◌*◌, ◌<◌, ◌≤◌, false, Option, Some, None, List, ◌∷◌, length, slice_index, Contains}
use Rattle.std.specs.List.{AllByRecursion}
use Rattle.pw_inst.specs.declared.relocation.Symbol.TheVariants as symbol
use Rattle.pw_machine.specs.Core.{register}
use Rattle.pw_machine.specs.Run.{State, Running, run_of}
use Rattle.pw_milli.specs.Calls.{StandsAt, AreRegisters, Enters, returned, is_scratch, StaysInside}
use Rattle.pw_delay.specs.declared.items.Word.{Word}
use Rattle.pw_delay.specs.declared.items.Turn.TheVariants.{CallTo}
use Rattle.pw_delay.specs.declared.items.Item.{Item}
use Rattle.pw_delay.specs.declared.items.Item.TheVariants.{Turns}
use Rattle.pw_run_languages.specs.Acts as lines
use Rattle.pw_run_languages.specs.LineRun.{Frame, Machine, Step, On, left_behind, linked, return_address, result_of, scratch_registers, with_scratch, with_result, step, steps}
use Rattle.pw_run_languages.specs.MachineRun.{Call, function_at}
use Rattle.pw_law_link_run.specs.Leaving.{AreByRegisters}
use Rattle.pw_law_link_run.specs.Steps.{Setting, map_in, At}
use Rattle.pw_law_link_run.specs.Placing.{IsLeft}
use Rattle.pw_law_link_run.specs.Simulating.{calls_from, noted_by, IsCaller}
use Rattle.pw_law_link_run.specs.Meeting.{IsSteady}

-- where no call leads, and no function begins
pub record IsClear (x : Setting) (address top : ℕ) (calls : List Call) : Type 0 where
  pub links : AllByRecursion (λ call. call.link < address) calls
  pub entries : (a : ℕ) → address ≤ a → a < top → function_at (map_in x) a ≡ None

-- what a routine makes, where it has a result
abbrev pub ResultIs : Option ℕ → ℕ → Type 0
ResultIs (Some n) word = word ≡ n
ResultIs None word = Unit {0}

-- what a routine does from a state in which it is entered
pub record Makes (words : List ℕ) (address : ℕ) (s : State) (j : ℕ) : Type 0 where
  pub steps : ℕ
  pub registers : List ℕ
  pub runs : run_of steps s ≡ Running (returned s 31 registers)
  pub inside : StaysInside address (address + 4 * length words) steps s
  pub result : ResultIs (result_of j (register s.core 26) (register s.core 25)) (slice_index registers 29)
  pub kept : (r : ℕ) → is_scratch r ≡ false → slice_index registers r ≡ slice_index s.core.registers r
  pub range : AreRegisters registers

-- the state of the lines behind it, where these words are left
abbrev pub after_routine : Machine → ℕ → (ℕ → ℕ) → Machine
after_routine m j ws = record m {
  core = record m.core {
    registers = with_result (result_of j (lines.register m.core 26) (lines.register m.core 25)) (with_scratch ws scratch_registers m.core.registers);
  };
}

-- at the first word of a routine
pub record Begins (x : Setting) (m : Machine) (k address : ℕ) (words : List ℕ) : Type 0 where
  pub there : Contains x.program.functions m.frame.function
  pub left : IsLeft x m.frame.function m.frame.left (lines.register m.core 31)
  pub callers : AllByRecursion (IsCaller x) m.callers
  pub run : m.core.skip ≡ false
  pub count : m.events ≤ k
  pub read : m.read + length m.rest ≡ length x.start.rest
  pub at : At x k m.core address (address + 4) m.rest m.out (noted_by x m)
  pub stands : StandsAt words address x.start.core
  pub clear : IsClear x address (address + 4 * length words) (calls_from x m.frame m.callers)
  pub below : lines.register m.core 31 < address

-- a routine of a number stands in the text, and does what its law says; no function is in it, and no call returns there
pub record HasRoutine (x : Setting) (j : ℕ) : Type 0 where
  pub words : List ℕ
  pub stands : StandsAt words (x.addresses.routine j) x.start.core
  pub entries : (a : ℕ) → x.addresses.routine j ≤ a → a < x.addresses.routine j + 4 * length words → function_at (map_in x) a ≡ None
  pub apart : (g : Frame) → IsCaller x g → return_address x.addresses g g.left < x.addresses.routine j
  pub some : 1 ≤ length words
  pub by_registers : AreByRegisters words
  pub makes : (s : State) → Enters words (x.addresses.routine j) s → Makes words (x.addresses.routine j) s j

pub record HasRoutines (x : Setting) : Type 0 where
  pub divs : HasRoutine x 0
  pub divu : HasRoutine x 1
  pub mul : HasRoutine x 2
  pub rems : HasRoutine x 3
  pub remu : HasRoutine x 4

-- the state at the turn, and behind its branch
abbrev pub calling_routine : Machine → ℕ → Option Word → List Item → Machine
calling_routine m j slot rest = left_behind (Turns (CallTo (symbol.Routine j) 31) slot ∷ rest) m

abbrev pub to_routine : Setting → Machine → List Item → Machine
to_routine x m rest = linked 31 (return_address x.addresses m.frame rest) (left_behind rest m)

-- ---- the words that are left

-- What the lines have a routine leave is what it leaves, by the registers at its first word: whatever else the machine
-- has there, with a return below the routine.
abbrev pub LeavesSo : (x : Setting) (j : ℕ) → HasRoutine x j → ((ℕ → ℕ) → ℕ → ℕ) → Type 0
LeavesSo x j h left =
    (registers : ℕ → ℕ) (s : State) (e : Enters h.words (x.addresses.routine j) s) → ((r : ℕ) → registers r ≡ register s.core r)
    → slice_index s.core.registers 0 ≡ 0 → register s.core 31 < x.addresses.routine j → (r : ℕ)
    → left registers r ≡ slice_index (h.makes s e).registers r

pub record LeaveSo (x : Setting) (has : HasRoutines x) (scratch : ℕ → (ℕ → ℕ) → ℕ → ℕ) : Type 0 where
  pub divs : LeavesSo x 0 has.divs (scratch 0)
  pub divu : LeavesSo x 1 has.divu (scratch 1)
  pub mul : LeavesSo x 2 has.mul (scratch 2)
  pub rems : LeavesSo x 3 has.rems (scratch 3)
  pub remu : LeavesSo x 4 has.remu (scratch 4)

-- ---- every state of a run is steady

abbrev pub IsSteadyRun : Setting → (ℕ → (ℕ → ℕ) → ℕ → ℕ) → Step → Type 0
IsSteadyRun x scratch s =
    (n : ℕ) (m : Machine) (item : Item) (rest : List Item) → steps x.program x.addresses scratch n s ≡ On m → m.frame.left ≡ item ∷ rest
    → IsSteady x m item (step x.program x.addresses scratch m)
