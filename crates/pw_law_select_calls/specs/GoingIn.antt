-- From the start of a function, where its registers are saved, to its first block: its webs are loaded, and it takes its arguments.
use Rattle.std.specs.Prelude.{ℕ, ◌≡◌, ◌+◌, ◌-◌, ◌<◌, ◌≤◌, ◌^◌, Some, List, ◌∷◌, ◌++◌, length, slice_get}
use Rattle.std.specs.List.{AllByRecursion}
use Rattle.pw_value.specs.declared.value.Byte.{Byte}
use Rattle.pw_value.specs.declared.value.Value.{Value}
use Rattle.pw_inst.specs.Registers.{stack_pointer}
use Rattle.pw_inst.specs.declared.line.Line.{Line}
use Rattle.pw_webflow.specs.declared.web.WebBlock.{WebBlock}
use Rattle.pw_webflow.specs.ValidWebs.{IsWebFn}
use Rattle.pw_alloc.specs.declared.located.Located.{Located}
use Rattle.pw_alloc.specs.Frames.{head_size}
use Rattle.pw_run.specs.Runs.{AreAlike}
use Rattle.pw_run_languages.specs.Traces.{Event}
use Rattle.pw_run_languages.specs.Programs.{Program}
use Rattle.pw_run_languages.specs.LawfulPrograms.{IsProgram}
use Rattle.pw_run_languages.specs.Addresses.{Addresses, AreLawful}
use Rattle.pw_run_languages.specs.Acts.{Core, register}
use Rattle.pw_run_languages.specs.Standing.{ValueStands, EventInWords}
use Rattle.pw_run_languages.specs.LineRun as run
use Rattle.pw_run_languages.specs.PlacedRun as placed
use Rattle.pw_run_languages.specs.PlacedRun.{entered_webs, enters_webs, with_parameters}
use Rattle.pw_run_languages.specs.Direction.{with_functions}
use Rattle.pw_run_languages.specs.SelectionLaws.{line_program}
use Rattle.pw_law_select_states.specs.Laid.{address, Avoid}
use Rattle.pw_law_select_states.specs.Passes.{Passes, Leaves, further}
use Rattle.pw_law_select_frames.specs.Arguments.{argument_word, arguments_size}
use Rattle.pw_law_select_frames.specs.Blocks.{items_from}
use Rattle.pw_law_select_frames.specs.Chain.{BothStand}
use Rattle.pw_law_select_frames.specs.Extending.{FramesAreKnown}
use Rattle.pw_law_select_frames.specs.Amid.{BothAmid}
use Rattle.pw_law_select_frames.specs.Arriving.{lines_behind_entry}
use Rattle.pw_law_select_known.specs.Laws.{IsAccess}

-- Both runs are behind the saved registers of a function that begins at a block, with the words of its arguments where the caller
-- has put them.
pub record MayGoIn (p : Program) (w : Addresses) (site : ℕ → ℕ) (f : Located) (b : WebBlock) (args : List Value) (m : placed.Machine) (l : run.Machine) : Type 0 where
  pub program : IsProgram p
  pub lawful : AreLawful p w
  pub function : m.frame.function ≡ f
  pub amid : BothAmid p w site (lines_behind_entry f) m l
  pub known : FramesAreKnown p m
  pub body : IsWebFn f.body
  pub count : length args ≡ f.body.params
  pub words : (k : ℕ) (v : Value) → slice_get args k ≡ Some v
      → ValueStands (address p w site) v (argument_word l.core (register l.core stack_pointer - f.frame) k) × (argument_word l.core (register l.core stack_pointer - f.frame) k < 2 ^ 32)
  pub stacked : 4 < length args → w.base + f.frame + arguments_size (length args) ≤ register l.core stack_pointer
  -- the words of arguments are of no live object
  pub clear : 4 < length args → Avoid site m.objects (register l.core stack_pointer - f.frame - arguments_size (length args)) (register l.core stack_pointer - f.frame)
  pub block : slice_get f.body.blocks 0 ≡ Some b
  pub at : m.frame.block ≡ 0
  pub ops : m.frame.ops ≡ b.ops
  pub end : m.frame.end ≡ b.end

-- Its first block begins.
pub record GoesIn (p : Program) (functions : List Located) (w : Addresses) (scratch : ℕ → (ℕ → ℕ) → ℕ → ℕ) (site : ℕ → ℕ) (f : Located) (b : WebBlock) (args : List Value) (m n : placed.Machine) (l : run.Machine) : Type 0 where
  pub core : Core
  pub log : List (Event ℕ ℕ)
  pub passes : Passes (line_program p functions) w scratch l (items_from f 0 b.ops b.end) core log
  pub leaves : Leaves site m l.core core
  pub stands : BothStand p w site (with_parameters 0 args n) (further (items_from f 0 b.ops b.end) core passes.more log l)
  pub shown : ((with_parameters 0 args n).rest ≡ m.rest) × ((with_parameters 0 args n).read ≡ m.read) × ((with_parameters 0 args n).out ≡ m.out) × ((with_parameters 0 args n).events ≡ m.events)
  pub logs : AreAlike (EventInWords p w.named) m.trace l.trace → AreAlike (EventInWords p w.named) (with_parameters 0 args n).trace (log ++ l.trace)
  pub own : List (Event Byte Value)
  pub quiet : AllByRecursion (λ e. IsAccess e) own
  pub noted : (with_parameters 0 args n).trace ≡ own ++ m.trace

abbrev pub FunctionsGoIn : Type 0
FunctionsGoIn =
    (p : Program) (functions : List Located) (w : Addresses) (scratch : ℕ → (ℕ → ℕ) → ℕ → ℕ) (site : ℕ → ℕ) (f : Located) (b : WebBlock) (args : List Value) (m n : placed.Machine) (l : run.Machine)
    → MayGoIn p w site f b args m l → enters_webs (with_functions p functions) (entered_webs f) m ≡ placed.On n → GoesIn p functions w scratch site f b args m n l

-- the head of a caller's frame, in which they stand, is clear of them
abbrev pub ArgumentsStandClear : Type 0
ArgumentsStandClear =
    (p : Program) (w : Addresses) (site : ℕ → ℕ) (lines : List Line) (m : placed.Machine) (l : run.Machine) (caller : placed.Frame) (callers : List placed.Frame) (n : ℕ)
    → BothAmid p w site lines m l → m.callers ≡ caller ∷ callers → arguments_size n ≤ head_size caller.function.body
    → Avoid site m.objects (register l.core stack_pointer - m.frame.function.frame - arguments_size n) (register l.core stack_pointer - m.frame.function.frame)
