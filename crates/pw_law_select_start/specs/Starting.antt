-- The start of both runs: `$start` is active in both, behind its check and its saved registers, before its webs are loaded.
use Rattle.std.specs.Prelude.{ℕ, ◌≡◌, ◌≢◌, ◌-◌, ◌*◌, ◌+◌, Some, List, [], ◌∷◌, map, slice_get}
use Rattle.pw_value.specs.ProgramNames.{start_name}
use Rattle.pw_inst.specs.Registers.{help, second, stack_pointer}
use Rattle.pw_db.specs.Limits.{kept_registers}
use Rattle.pw_db.specs.Database.{IsDirectives}
use Rattle.pw_alloc.specs.declared.located.Located.{Located}
use Rattle.pw_alloc.specs.Frames.{head_size}
use Rattle.pw_webflow.specs.declared.web.WebBlock.{WebBlock}
use Rattle.pw_delay.specs.Items.{slotted}
use Rattle.pw_run_languages.specs.Traces.{Called}
use Rattle.pw_run_languages.specs.Programs.{Program, AreBytes, globals_of}
use Rattle.pw_run_languages.specs.LawfulPrograms.{IsProgram, StartFits}
use Rattle.pw_run_languages.specs.Addresses.{Addresses, AreLawful}
use Rattle.pw_run_languages.specs.Acts.{Core, register, number_at}
use Rattle.pw_run_languages.specs.Serving.{Serves}
use Rattle.pw_run_languages.specs.LineRun as run
use Rattle.pw_run_languages.specs.LineRun.{with_globals}
use Rattle.pw_run_languages.specs.PlacedRun as placed
use Rattle.pw_run_languages.specs.PlacedRun.{entered_webs, enters_webs, first_block}
use Rattle.pw_run_languages.specs.Direction.{with_functions}
use Rattle.pw_run_languages.specs.SelectionLaws.{line_program}
use Rattle.pw_law_select_memory.specs.Numbers.{HoldsBytes}
use Rattle.pw_law_select_states.specs.Passes.{Passes, further}
use Rattle.pw_law_select_frames.specs.Amid.{BothAmid}
use Rattle.pw_law_select_frames.specs.Arriving.{lines_behind_entry}
use Rattle.pw_law_select_frames.specs.Extending.{FramesAreKnown}
use Rattle.pw_law_select_frames.specs.Library.{ShowAlike}

-- what is given: the function is `$start`, its places serve it, and the stack holds its frame
pub record MayStart (p : Program) (functions : List Located) (w : Addresses) (input : List ℕ) (f : Located) (b : WebBlock) : Type 0 where
  pub program : IsProgram p
  pub lawful : AreLawful p w
  pub bytes : AreBytes input
  pub named : placed.function_named (with_functions p functions) start_name ≡ Some f
  pub block : first_block f ≡ Some b
  pub serves : Serves f.body f
  pub directives : IsDirectives f.body.directives
  pub frame : p.frame_of f.body.name ≡ f.frame
  pub fits : StartFits p

-- the placed run enters the webs of `$start` next, in a state that stands in the lines behind the saved registers
pub record Starts (p : Program) (functions : List Located) (w : Addresses) (scratch : ℕ → (ℕ → ℕ) → ℕ → ℕ) (input : List ℕ) (f : Located) (b : WebBlock) : Type 0 where
  pub begun : placed.Machine
  pub placed_start : placed.start (with_functions p functions) input ≡ enters_webs (with_functions p functions) (entered_webs f) begun
  pub first : run.Machine
  pub lines_start : run.start (line_program p functions) w input ≡ run.On first
  pub at_items : first.frame.left ≡ first.frame.function.items
  pub alone : (begun.callers ≡ []) × (first.callers ≡ [])
  pub function : (begun.frame.function ≡ f) × (begun.frame.block ≡ 0) × (begun.frame.ops ≡ b.ops) × (begun.frame.end ≡ b.end)
  pub before : first.frame.before ≡ map first.core.registers kept_registers
  pub trace : first.trace ≡ Called start_name (run.globals_in (line_program p functions) w first.core []) (run.kept first.core) ∷ []
  pub site : ℕ → ℕ
  pub core : Core
  pub passes : Passes (line_program p functions) w scratch first (slotted (lines_behind_entry f)) core []
  pub begins : BothAmid p w site (lines_behind_entry f) begun (further (slotted (lines_behind_entry f)) core passes.more [] first)
  pub known : FramesAreKnown p begun
  pub show : ShowAlike p w begun first
  pub registers : (r : ℕ) → r ≢ help → r ≢ second → r ≢ stack_pointer → register core r ≡ register first.core r
  pub words : (i r : ℕ) → slice_get f.saved i ≡ Some r → number_at 4 core.memory (first.frame.stack + f.frame - head_size f.body - 4 * (i + 1)) ≡ register first.core r

abbrev pub RunsStart : Type 0
RunsStart =
    (p : Program) (functions : List Located) (w : Addresses) (scratch : ℕ → (ℕ → ℕ) → ℕ → ℕ) (input : List ℕ) (f : Located) (b : WebBlock)
    → MayStart p functions w input f b → Starts p functions w scratch input f b

-- the memory of the start is of bytes
abbrev pub StartMemoryHoldsBytes : Type 0
StartMemoryHoldsBytes = (p : Program) (w : Addresses) → IsProgram p → HoldsBytes (with_globals w (globals_of p) (λ a. 0))
