-- A whole call, up to the webs and parameters of the function that is called: both runs note it alike, and all that were active
-- before wait.
use Rattle.std.specs.Prelude.{ℕ, ◌≡◌, ◌≢◌, ◌+◌, ◌-◌, ◌*◌, ◌<◌, ◌≤◌, Option, Some, List, [], ◌∷◌, ◌++◌, slice_get}
use Rattle.pw_inst.specs.Registers.{return_address, stack_pointer, help, second}
use Rattle.pw_inst.specs.declared.line.Line.{Line}
use Rattle.pw_db.specs.Database.{IsDirectives}
use Rattle.pw_webflow.specs.declared.web.WebBlock.{WebBlock}
use Rattle.pw_alloc.specs.declared.located.Located.{Located}
use Rattle.pw_alloc.specs.Frames.{head_size}
use Rattle.pw_delay.specs.Items.{slotted}
use Rattle.pw_select.specs.Selection.{slot_offsets, webs_loaded, parameters_in, blocks_lines}
use Rattle.pw_run.specs.Runs.{AreAlike}
use Rattle.pw_run_languages.specs.Traces.{Called}
use Rattle.pw_run_languages.specs.Programs.{Program}
use Rattle.pw_run_languages.specs.Addresses.{Addresses, AreLawful}
use Rattle.pw_run_languages.specs.Acts.{Core, register, number_at}
use Rattle.pw_run_languages.specs.Standing.{EventInWords}
use Rattle.pw_run_languages.specs.LineRun as run
use Rattle.pw_run_languages.specs.PlacedRun as placed
use Rattle.pw_run_languages.specs.PlacedRun.{globals_now, kept, noted, counted, entered}
use Rattle.pw_run_languages.specs.Direction.{with_functions}
use Rattle.pw_run_languages.specs.Serving.{Serves}
use Rattle.pw_run_languages.specs.SelectionLaws.{line_program, with_lines}
use Rattle.pw_law_select_states.specs.Passes.{Passes, further}
use Rattle.pw_law_select_states.specs.Pointers.{AreKnown}
use Rattle.pw_law_select_frames.specs.Extending.{KeepsObjects}
use Rattle.pw_law_select_frames.specs.Amid.{BothAmid}
use Rattle.pw_law_select_frames.specs.Returning.{BothTake}

-- the lines of a function behind its check and its saved registers
abbrev pub lines_behind_entry : Located → List Line
lines_behind_entry f =
    webs_loaded f.body.directives.webs ++ parameters_in f.frame f.places 0 f.body.params ++ blocks_lines f (slot_offsets f) 0 f.body.blocks

-- Both runs are at a call, with the return address in its register, and the stack holds the frame.
pub record MayEnter (p : Program) (w : Addresses) (site : ℕ → ℕ) (f : Located) (t : Option ℕ) (m : placed.Machine) (l : run.Machine) : Type 0 where
  pub lawful : AreLawful p w
  pub takes : BothTake p w site t m l
  pub known : AreKnown p m
  pub serves : Serves f.body f
  pub directives : IsDirectives f.body.directives
  pub link : register l.core return_address ≡ run.return_address w l.frame l.frame.left
  pub fits : register l.core stack_pointer + f.frame ≤ w.limit
  pub log : AreAlike (EventInWords p w.named) m.trace l.trace

-- the placed run in the function, before its webs and parameters are there
abbrev pub called_in : Program → List Located → Located → WebBlock → Option ℕ → placed.Machine → placed.Machine
called_in p functions f b t m =
    entered f b t (counted (noted (Called f.body.name (globals_now (with_functions p functions) m.registers (m.frame ∷ m.callers) m.objects) (kept m.registers)) m))

pub record IsEntered (p : Program) (w : Addresses) (functions : List Located) (scratch : ℕ → (ℕ → ℕ) → ℕ → ℕ) (site : ℕ → ℕ) (f : Located) (b : WebBlock) (t : Option ℕ) (m : placed.Machine) (l : run.Machine) : Type 0 where
  pub after : ℕ → ℕ
  pub core : Core
  pub passes : Passes (line_program p functions) w scratch (run.enters (line_program p functions) w (with_lines f) l) (slotted (lines_behind_entry f)) core []
  pub keeps : KeepsObjects site after m.objects (called_in p functions f b t m).objects
  pub begins : BothAmid p w after (lines_behind_entry f) (called_in p functions f b t m) (further (slotted (lines_behind_entry f)) core passes.more [] (run.enters (line_program p functions) w (with_lines f) l))
  -- arguments stand where they stood
  pub registers : (r : ℕ) → r ≢ help → r ≢ second → r ≢ stack_pointer → register core r ≡ register l.core r
  pub memory : (a : ℕ) → a + 20 < register l.core stack_pointer → core.memory a ≡ l.core.memory a
  -- what it saved stands in words
  pub words : (i r : ℕ) → slice_get f.saved i ≡ Some r → number_at 4 core.memory (register l.core stack_pointer + f.frame - head_size f.body - 4 * (i + 1)) ≡ register l.core r
  pub log : AreAlike (EventInWords p w.named) (called_in p functions f b t m).trace (run.enters (line_program p functions) w (with_lines f) l).trace

abbrev pub FunctionsAreEntered : Type 0
FunctionsAreEntered =
    (p : Program) (w : Addresses) (functions : List Located) (scratch : ℕ → (ℕ → ℕ) → ℕ → ℕ) (site : ℕ → ℕ) (f : Located) (b : WebBlock) (t : Option ℕ) (m : placed.Machine) (l : run.Machine)
    → MayEnter p w site f t m l → IsEntered p w functions scratch site f b t m l
