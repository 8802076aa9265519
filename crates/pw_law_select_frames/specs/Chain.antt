-- Functions that are active in both runs, one above the other: what each saved stands in its frame, and who called it goes on
-- from the address that stands below its stack pointer.
use Rattle.std.specs.Prelude.{ℕ, suc, ◌≡◌, ◌+◌, ◌-◌, ◌*◌, ◌<◌, List, [], ◌∷◌, ◌++◌, map, length}
use Rattle.pw_value.specs.declared.value.Value.{Value}
use Rattle.pw_value.specs.declared.value.Pointer.{Pointer}
use Rattle.pw_value.specs.Objects.{Object}
use Rattle.pw_inst.specs.Registers.{stack_pointer}
use Rattle.pw_db.specs.Database.{IsDirectives}
use Rattle.pw_alloc.specs.declared.located.Located.{Located}
use Rattle.pw_alloc.specs.Frames.{head_size, link_place}
use Rattle.pw_delay.specs.declared.items.Item.{Item}
use Rattle.pw_delay.specs.Items.{slotted}
use Rattle.pw_select_lines.specs.Operations.{call_result}
use Rattle.pw_run.specs.Runs.{AreAlike}
use Rattle.pw_run_languages.specs.Traces.{StandAlike}
use Rattle.pw_run_languages.specs.Programs.{Program}
use Rattle.pw_run_languages.specs.Addresses.{Addresses}
use Rattle.pw_run_languages.specs.Acts.{Core, register, number_at}
use Rattle.pw_run_languages.specs.Standing.{ByteStands, ValueStands, given_back}
use Rattle.pw_run_languages.specs.LineRun.{Frame, Machine, globals_in, return_address}
use Rattle.pw_run_languages.specs.Links.{GoesOn}
use Rattle.pw_run_languages.specs.PlacedRun as placed
use Rattle.pw_run_languages.specs.Direction.{with_functions}
use Rattle.pw_run_languages.specs.Serving.{Serves, IsTempRegister}
use Rattle.pw_run_languages.specs.SelectionLaws.{with_lines, line_program}
use Rattle.pw_law_select_states.specs.Laid.{address, AreLaid, BytesAreThere, Lives, size_of}
use Rattle.pw_law_select_states.specs.Frames.{HasFrame, FrameHolds}
use Rattle.pw_law_select_states.specs.States.{RegistersHold, Stands}
use Rattle.pw_law_select_frames.specs.Blocks.{lines_from, items_from}

-- the values of saved registers stand in words below an address, from the number of the first on
abbrev pub SavedStand : (Pointer → ℕ) → (ℕ → ℕ) → ℕ → ℕ → List (ℕ × Value) → Type 0
SavedStand address memory top i [] = Unit {0}
SavedStand address memory top i (s ∷ rest) =
    ValueStands address s.1 (number_at 4 memory (top - 4 * (i + 1))) × SavedStand address memory top (suc i) rest

-- the end of a function's frame, by the stack pointer at its call
abbrev pub frame_top : placed.Frame → Frame → ℕ
frame_top f l = l.stack + f.function.frame

-- A function that is active in both runs. Its places serve it, its webs have registers of their own, it has room for its
-- temporaries, and what it saved stands behind the head of its frame.
pub record IsActive (address : Pointer → ℕ) (memory : ℕ → ℕ) (f : placed.Frame) (l : Frame) : Type 0 where
  pub function : l.function ≡ with_lines f.function
  pub serves : Serves f.function.body f.function
  pub directives : IsDirectives f.function.body.directives
  pub room : length f.temps ≡ f.function.body.temps
  pub saved : map (λ s. s.0) f.saved ≡ f.function.saved
  pub words : SavedStand address memory (frame_top f l - head_size f.function.body) 0 f.saved

-- all of them, the latest first
abbrev pub AllActive : (Pointer → ℕ) → (ℕ → ℕ) → List placed.Frame → List Frame → Type 0
AllActive address memory [] [] = Unit {0}
AllActive address memory (f ∷ fs) (l ∷ ls) = IsActive address memory f l × AllActive address memory fs ls
AllActive address memory fs ls = ⊥

-- ---- globals at calls and returns

-- where the registers hold the values, and those that were saved stand in words, each global has the like place with like
-- contents
abbrev pub GlobalsAreAlike : Type 0
GlobalsAreAlike =
    (p : Program) (w : Addresses) (functions : List Located) (site : ℕ → ℕ) (registers : ℕ → Value) (objects : List Object) (c : Core) (fs : List placed.Frame) (ls : List Frame)
    → RegistersHold (address p w site) registers c → AllActive (address p w site) c.memory fs ls → AreLaid p w site objects → BytesAreThere (address p w site) site objects c.memory
    → AreAlike (StandAlike (ByteStands (address p w site)) (ValueStands (address p w site)))
    (placed.globals_now (with_functions p functions) registers fs objects) (globals_in (line_program p functions) w c ls)

-- registers that a function gives back hold the values that the placed run gives back
abbrev pub GivenRegistersHold : Type 0
GivenRegistersHold =
    (address : Pointer → ℕ) (registers : ℕ → Value) (c e : Core) (f : placed.Frame) (l : Frame) → IsActive address c.memory f l → RegistersHold address registers c
    → ((r : ℕ) → IsTempRegister r → register e r ≡ given_back c.memory (frame_top f l - head_size f.function.body) 0 f.function.saved c.registers r)
    → RegistersHold address (placed.with_registers f.saved registers) e

-- ---- functions that wait

-- A function that waits for one that it called, by what that one has of the placed run, and the stack pointer at its call:
-- its frame ends there, it goes on behind the call with the result, and from the address that stands in its head. The objects that
-- lived at its own call stand below its frame; since then its slots alone have come to live.
pub record Waits (p : Program) (w : Addresses) (site : ℕ → ℕ) (objects : List Object) (memory : ℕ → ℕ) (callee : placed.Frame) (stack : ℕ) (f : placed.Frame) (l : Frame) : Type 0 where
  pub active : IsActive (address p w site) memory f l
  pub top : stack ≡ frame_top f l
  pub frame : HasFrame w site objects f.function stack
  pub holds : FrameHolds (address p w site) site f memory stack
  pub later : (o : ℕ) → o < callee.base → Lives objects o → o < f.base + length f.function.body.slots
  pub old : (o : ℕ) → o < f.base → Lives objects o → site o + size_of objects o < l.stack
  pub left : l.left ≡ slotted (call_result f.function.places callee.result ++ lines_from f.function f.block f.ops f.end)
  pub behind : GoesOn l
  pub link : number_at 4 memory (stack - link_place) ≡ return_address w l l.left

-- all that wait, the latest first; below the first function of a run is the base of the stack
abbrev pub AllWait : Program → Addresses → (ℕ → ℕ) → List Object → (ℕ → ℕ) → placed.Frame → ℕ → List placed.Frame → List Frame → Type 0
AllWait p w site objects memory callee stack [] [] = stack ≡ w.base
AllWait p w site objects memory callee stack (f ∷ fs) (l ∷ ls) =
    Waits p w site objects memory callee stack f l × AllWait p w site objects memory f l.stack fs ls
AllWait p w site objects memory callee stack fs ls = ⊥

-- ---- both runs

-- A state of the placed run stands in one of the lines, with all that are active.
pub record BothStand (p : Program) (w : Addresses) (site : ℕ → ℕ) (m : placed.Machine) (l : Machine) : Type 0 where
  pub stands : Stands p w site m l.core
  pub active : IsActive (address p w site) l.core.memory m.frame l.frame
  pub top : register l.core stack_pointer ≡ frame_top m.frame l.frame
  pub later : (o : ℕ) → Lives m.objects o → o < m.frame.base + length m.frame.function.body.slots
  pub old : (o : ℕ) → o < m.frame.base → Lives m.objects o → site o + size_of m.objects o < l.frame.stack
  pub left : l.frame.left ≡ items_from m.frame.function m.frame.block m.frame.ops m.frame.end
  pub inside : (before : List Item) × (l.frame.function.items ≡ before ++ l.frame.left)
  pub callers : AllWait p w site m.objects l.core.memory m.frame l.frame.stack m.callers l.callers
