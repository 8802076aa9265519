-- States of both runs amid a function, whatever lines are left of it, and what lines that call nothing leave of such a state.
use Rattle.std.specs.Prelude.{ℕ, false, ◌≡◌, ◌+◌, ◌<◌, List, ◌∷◌, ◌++◌, length}
use Rattle.pw_inst.specs.Registers.{stack_pointer}
use Rattle.pw_inst.specs.declared.line.Line.{Line}
use Rattle.pw_webflow.specs.declared.web.WebOp.{WebOp}
use Rattle.pw_alloc.specs.Frames.{head_size}
use Rattle.pw_delay.specs.declared.items.Item.{Item}
use Rattle.pw_delay.specs.Items.{slotted}
use Rattle.pw_select_lines.specs.Operations.{layout, web_op_lines}
use Rattle.pw_select.specs.Selection.{slot_offsets}
use Rattle.pw_run_languages.specs.Traces.{Event}
use Rattle.pw_run_languages.specs.Programs.{Program}
use Rattle.pw_run_languages.specs.Addresses.{Addresses, AreLawful}
use Rattle.pw_run_languages.specs.Acts.{Core, register}
use Rattle.pw_run_languages.specs.LineRun as run
use Rattle.pw_run_languages.specs.PlacedRun as placed
use Rattle.pw_run_languages.specs.Serving.{IsTempRegister}
use Rattle.pw_law_select_states.specs.Laid.{address, Lives, size_of}
use Rattle.pw_law_select_states.specs.Passes.{Leaves, IsElsewhere, further}
use Rattle.pw_law_select_states.specs.States.{Stands}
use Rattle.pw_law_select_frames.specs.Blocks.{lines_from}
use Rattle.pw_law_select_frames.specs.Chain.{IsActive, AllWait, BothStand, frame_top}
use Rattle.pw_law_select_frames.specs.Extending.{KeepsObjects, FramesAreKnown}

-- A state of the placed run stands in one of the lines, with all that are active, and these lines are left of the function.
pub record BothAmid (p : Program) (w : Addresses) (site : ℕ → ℕ) (lines : List Line) (m : placed.Machine) (l : run.Machine) : Type 0 where
  pub stands : Stands p w site m l.core
  pub active : IsActive (address p w site) l.core.memory m.frame l.frame
  pub top : register l.core stack_pointer ≡ frame_top m.frame l.frame
  pub old : (o : ℕ) → o < m.frame.base → Lives m.objects o → site o + size_of m.objects o < l.frame.stack
  pub later : (o : ℕ) → Lives m.objects o → o < m.frame.base + length m.frame.function.body.slots
  pub left : l.frame.left ≡ slotted lines
  pub inside : (before : List Item) × (l.frame.function.items ≡ before ++ l.frame.left)
  pub callers : AllWait p w site m.objects l.core.memory m.frame l.frame.stack m.callers l.callers

-- at a whole state the lines that are left are those of the rest of its block
abbrev pub left_of : placed.Frame → List Line
left_of f = lines_from f.function f.block f.ops f.end

-- one state is another but for values of temporaries and registers, bytes of objects, and what has been shown
pub record StaysInFrame (site : ℕ → ℕ) (m n : placed.Machine) : Type 0 where
  pub frame : n.frame ≡ record m.frame { temps = n.frame.temps }
  pub room : length n.frame.temps ≡ length m.frame.temps
  pub callers : n.callers ≡ m.callers
  pub objects : KeepsObjects site site m.objects n.objects
  pub count : length n.objects ≡ length m.objects

-- The stack pointer stays, and of memory what is not of the operation, but for the head of the frame, where arguments stand.
pub record LeavesBehind (site : ℕ → ℕ) (m : placed.Machine) (c core : Core) : Type 0 where
  pub top : register core stack_pointer ≡ register c stack_pointer
  pub memory : (a : ℕ) → a + head_size m.frame.function.body < register c stack_pointer → IsElsewhere site m.objects m.frame.function (register c stack_pointer) a → core.memory a ≡ c.memory a

-- what lines leave that follow one another
abbrev pub LeavesCompose : Type 0
LeavesCompose =
    (site : ℕ → ℕ) (m n : placed.Machine) (c d e : Core) → StaysInFrame site m n → Leaves site m c d → Leaves site n d e → Leaves site m c e

-- Where lines lead from one state to such another, and change nothing of those that wait, both runs are amid the function again.
abbrev pub LinesGoOn : Type 0
LinesGoOn =
    (p : Program) (w : Addresses) (site : ℕ → ℕ) (xs rest : List Line) (m n : placed.Machine) (l : run.Machine) (core : Core) (more : ℕ) (log : List (Event ℕ ℕ))
    → AreLawful p w → BothAmid p w site (xs ++ rest) m l → FramesAreKnown p m → StaysInFrame site m n → Stands p w site n core → LeavesBehind site m l.core core
    → BothAmid p w site rest n (further (slotted rest) core more log l)

-- A whole state is amid the rest of its block, and the other way round. Where an operation is next, its lines are.
abbrev pub WholeStatesAreAmid : Type 0
WholeStatesAreAmid = (p : Program) (w : Addresses) (site : ℕ → ℕ) (m : placed.Machine) (l : run.Machine) → BothStand p w site m l → BothAmid p w site (left_of m.frame) m l

abbrev pub StatesAmidAreWhole : Type 0
StatesAmidAreWhole = (p : Program) (w : Addresses) (site : ℕ → ℕ) (m : placed.Machine) (l : run.Machine) → BothAmid p w site (left_of m.frame) m l → BothStand p w site m l

abbrev pub OperationsAreNext : Type 0
OperationsAreNext =
    (p : Program) (w : Addresses) (site : ℕ → ℕ) (m : placed.Machine) (l : run.Machine) (o : WebOp) (ops : List WebOp) → BothStand p w site m l → m.frame.ops ≡ o ∷ ops
    → BothAmid p w site (web_op_lines (layout m.frame.function.places (slot_offsets m.frame.function)) o ++ left_of (record m.frame { ops = ops })) (record m { frame = record m.frame { ops = ops } }) l

-- a state stands where the registers of webs and temporaries, the stack pointer and memory are the same
abbrev pub StatesStandOver : Type 0
StatesStandOver =
    (p : Program) (w : Addresses) (site : ℕ → ℕ) (m : placed.Machine) (c e : Core) → Stands p w site m c → ((r : ℕ) → IsTempRegister r → register e r ≡ register c r)
    → register e stack_pointer ≡ register c stack_pointer → e.memory ≡ c.memory → e.skip ≡ false → Stands p w site m e
