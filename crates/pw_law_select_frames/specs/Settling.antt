-- From behind the webs of a function to its first block: it takes its arguments, and the state of both runs stands whole.
use Rattle.std.specs.Prelude.{ℕ, ◌≡◌, Some, List, [], ◌++◌, slice_get}
use Rattle.pw_value.specs.declared.value.Value.{Value}
use Rattle.pw_inst.specs.declared.line.Line.{Line}
use Rattle.pw_webflow.specs.declared.web.WebBlock.{WebBlock}
use Rattle.pw_alloc.specs.declared.located.Located.{Located}
use Rattle.pw_select.specs.Selection.{slot_offsets, parameters_in, blocks_lines}
use Rattle.pw_run_languages.specs.Programs.{Program}
use Rattle.pw_run_languages.specs.Addresses.{Addresses}
use Rattle.pw_run_languages.specs.Acts.{Core}
use Rattle.pw_run_languages.specs.LineRun as run
use Rattle.pw_run_languages.specs.PlacedRun as placed
use Rattle.pw_run_languages.specs.PlacedRun.{with_parameters}
use Rattle.pw_run_languages.specs.SelectionLaws.{line_program}
use Rattle.pw_law_select_states.specs.Passes.{Passes, Leaves, further}
use Rattle.pw_law_select_frames.specs.Blocks.{items_from}
use Rattle.pw_law_select_frames.specs.Chain.{BothStand}
use Rattle.pw_law_select_frames.specs.Extending.{FramesAreKnown}
use Rattle.pw_law_select_frames.specs.Amid.{BothAmid}
use Rattle.pw_law_select_frames.specs.Receiving.{MayTake}

-- the lines of a function behind its webs
abbrev pub lines_behind_webs : Located → List Line
lines_behind_webs f = parameters_in f.frame f.places 0 f.body.params ++ blocks_lines f (slot_offsets f) 0 f.body.blocks

-- Both runs are behind the webs of a function that begins at a block.
pub record MaySettle (p : Program) (w : Addresses) (functions : List Located) (site : ℕ → ℕ) (args : List Value) (b : WebBlock) (m : placed.Machine) (l : run.Machine) : Type 0 where
  pub amid : BothAmid p w site (lines_behind_webs m.frame.function) m l
  pub takes : MayTake (line_program p functions) w site args m l.core
  pub known : FramesAreKnown p m
  pub block : slice_get m.frame.function.body.blocks 0 ≡ Some b
  pub at : m.frame.block ≡ 0
  pub ops : m.frame.ops ≡ b.ops
  pub end : m.frame.end ≡ b.end

pub record Settles (p : Program) (w : Addresses) (functions : List Located) (scratch : ℕ → (ℕ → ℕ) → ℕ → ℕ) (site : ℕ → ℕ) (args : List Value) (b : WebBlock) (m : placed.Machine) (l : run.Machine) : Type 0 where
  pub core : Core
  pub passes : Passes (line_program p functions) w scratch l (items_from m.frame.function 0 b.ops b.end) core []
  pub leaves : Leaves site m l.core core
  pub stands : BothStand p w site (with_parameters 0 args m) (further (items_from m.frame.function 0 b.ops b.end) core passes.more [] l)

abbrev pub FirstBlocksBegin : Type 0
FirstBlocksBegin =
    (p : Program) (w : Addresses) (functions : List Located) (scratch : ℕ → (ℕ → ℕ) → ℕ → ℕ) (site : ℕ → ℕ) (args : List Value) (b : WebBlock) (m : placed.Machine) (l : run.Machine)
    → MaySettle p w functions site args b m l → Settles p w functions scratch site args b m l
