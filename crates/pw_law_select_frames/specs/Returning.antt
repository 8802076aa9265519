-- A whole return: behind the webs, the lines go through the end of a function to its caller, and both runs note the return alike.
use Rattle.std.specs.Prelude.{ℕ, ◌≡◌, ◌+◌, ◌-◌, ◌<◌, ◌≤◌, Option, List, ◌∷◌, ◌++◌, length}
use Rattle.std.specs.List.{AllByRecursion}
use Rattle.pw_inst.specs.Registers.{answer, stack_pointer}
use Rattle.pw_inst.specs.declared.line.Line.{Line}
use Rattle.pw_inst.specs.declared.line.Line.TheVariants.{Leave}
use Rattle.pw_alloc.specs.declared.located.Located.{Located}
use Rattle.pw_alloc.specs.Frames.{head_size}
use Rattle.pw_delay.specs.declared.items.Item.{Item}
use Rattle.pw_delay.specs.Items.{slotted}
use Rattle.pw_select_lines.specs.Operations.{call_result}
use Rattle.pw_run.specs.Runs.{AreAlike}
use Rattle.pw_run_languages.specs.Traces.{Returned}
use Rattle.pw_run_languages.specs.Programs.{Program, globals_of}
use Rattle.pw_run_languages.specs.Addresses.{Addresses, AreLawful}
use Rattle.pw_run_languages.specs.Acts.{register}
use Rattle.pw_run_languages.specs.Standing.{EventInWords, given_back}
use Rattle.pw_run_languages.specs.LineRun as run
use Rattle.pw_run_languages.specs.LineRun.{globals_in}
use Rattle.pw_run_languages.specs.Links.{GoesOn, LinksStand}
use Rattle.pw_run_languages.specs.PlacedRun as placed
use Rattle.pw_run_languages.specs.PlacedRun.{globals_now, kept, name_of, noted}
use Rattle.pw_run_languages.specs.Direction.{with_functions}
use Rattle.pw_run_languages.specs.Serving.{IsTempRegister}
use Rattle.pw_run_languages.specs.SelectionLaws.{line_program}
use Rattle.pw_law_select_states.specs.Laid.{address, Lives, size_of}
use Rattle.pw_law_select_states.specs.Passes.{IsAmid}
use Rattle.pw_law_select_states.specs.Pointers.{FrameIsKnown}
use Rattle.pw_law_select_states.specs.States.{Stands}
use Rattle.pw_law_select_frames.specs.Leaving.{leaving}
use Rattle.pw_law_select_frames.specs.Blocks.{lines_from}
use Rattle.pw_law_select_frames.specs.Chain.{IsActive, AllWait, frame_top}
use Rattle.pw_law_select_frames.specs.Ending.{given_to}

-- A state of both runs in which the active function has not taken the result of its call yet.
pub record BothTake (p : Program) (w : Addresses) (site : ℕ → ℕ) (t : Option ℕ) (m : placed.Machine) (l : run.Machine) : Type 0 where
  pub stands : Stands p w site m l.core
  pub active : IsActive (address p w site) l.core.memory m.frame l.frame
  pub top : register l.core stack_pointer ≡ frame_top m.frame l.frame
  pub old : (o : ℕ) → o < m.frame.base → Lives m.objects o → site o + size_of m.objects o < l.frame.stack
  pub later : (o : ℕ) → Lives m.objects o → o < m.frame.base + length m.frame.function.body.slots
  pub left : l.frame.left ≡ slotted (call_result m.frame.function.places t ++ lines_from m.frame.function m.frame.block m.frame.ops m.frame.end)
  pub behind : GoesOn l.frame
  pub callers : AllWait p w site m.objects l.core.memory m.frame l.frame.stack m.callers l.callers

-- Both runs are at the end of a function, behind the webs.
pub record MayReturn (p : Program) (w : Addresses) (site : ℕ → ℕ) (m : placed.Machine) (l : run.Machine) (caller : placed.Frame) (callers : List placed.Frame) (waiting : run.Frame) (waits : List run.Frame) (rest : List Line) : Type 0 where
  pub lawful : AreLawful p w
  pub stands : Stands p w site m l.core
  pub active : IsActive (address p w site) l.core.memory m.frame l.frame
  pub top : register l.core stack_pointer ≡ frame_top m.frame l.frame
  pub left : l.frame.left ≡ slotted (leaving m.frame.function ++ Leave ∷ rest)
  pub inside : (before : List Item) × (l.frame.function.items ≡ before ++ l.frame.left)
  pub below : l.callers ≡ waiting ∷ waits
  pub wait : AllWait p w site m.objects l.core.memory m.frame l.frame.stack (caller ∷ callers) (waiting ∷ waits)
  pub known : AllByRecursion (FrameIsKnown p (length m.objects)) (caller ∷ callers)
  pub base : m.frame.base ≤ length m.objects
  pub globals : (o : ℕ) → o < length (globals_of p) → o < m.frame.base
  pub log : AreAlike (EventInWords p w.named) m.trace l.trace

-- the placed run with the caller, before it takes the result
abbrev pub back_with : Program → List Located → placed.Frame → List placed.Frame → placed.Machine → placed.Machine
back_with p functions caller callers m =
    let n = given_to caller callers m in
    noted (Returned (name_of m.frame) 0 (globals_now (with_functions p functions) n.registers (caller ∷ callers) n.objects) m.frame.before (kept n.registers)) n

-- They come to the caller, which may take the answer.
pub record Returns (p : Program) (w : Addresses) (functions : List Located) (scratch : ℕ → (ℕ → ℕ) → ℕ → ℕ) (site : ℕ → ℕ) (m : placed.Machine) (l : run.Machine) (caller : placed.Frame) (callers : List placed.Frame) : Type 0 where
  pub count : ℕ
  pub last : run.Machine
  pub steps : run.steps (line_program p functions) w scratch count (run.On l) ≡ run.On last
  pub amid : (k : ℕ) (n : run.Machine) → 0 < k → k < count → run.steps (line_program p functions) w scratch k (run.On l) ≡ run.On n → IsAmid n.frame
  pub takes : BothTake p w site m.frame.result (back_with p functions caller callers m) last
  pub value : register last.core answer ≡ register l.core answer
  pub given : (r : ℕ) → IsTempRegister r → register last.core r ≡ given_back l.core.memory (frame_top m.frame l.frame - head_size m.frame.function.body) 0 m.frame.function.saved l.core.registers r
  pub memory : last.core.memory ≡ l.core.memory
  pub frames : l.callers ≡ last.frame ∷ last.callers
  pub noted : last.trace ≡ Returned (run.name_of l.frame) 0 (globals_in (line_program p functions) w last.core l.callers) l.frame.before (run.kept last.core) ∷ l.trace
  pub show : (last.rest ≡ l.rest) × (last.read ≡ l.read) × (last.out ≡ l.out) × (l.events ≤ last.events)
  pub log : AreAlike (EventInWords p w.named) (back_with p functions caller callers m).trace last.trace

abbrev pub FunctionsComeBack : Type 0
FunctionsComeBack =
    (p : Program) (w : Addresses) (functions : List Located) (scratch : ℕ → (ℕ → ℕ) → ℕ → ℕ) (site : ℕ → ℕ) (m : placed.Machine) (l : run.Machine)
    (caller : placed.Frame) (callers : List placed.Frame) (waiting : run.Frame) (waits : List run.Frame) (rest : List Line)
    → MayReturn p w site m l caller callers waiting waits rest → Returns p w functions scratch site m l caller callers

-- the return addresses of all that are active stand in memory then, and where a function begins those of its callers
abbrev pub LinksStandThen : Type 0
LinksStandThen =
    (p : Program) (w : Addresses) (site : ℕ → ℕ) (t : Option ℕ) (m : placed.Machine) (l : run.Machine) → BothTake p w site t m l → LinksStand w l.core (l.frame ∷ l.callers)
