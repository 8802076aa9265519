-- A function that is called: behind its first words and those that save registers, the state in which the placed run has
-- entered it stands, with new objects in its frame.
use Rattle.std.specs.Prelude.{ℕ, ◌≡◌, ◌≢◌, ◌+◌, ◌-◌, ◌*◌, ◌<◌, ◌≤◌, ◌^◌, ◌⊎◌, Option, Some, [], ◌++◌, map, length, slice_get}
use Rattle.pw_inst.specs.Registers.{help, second, return_address, stack_pointer}
use Rattle.pw_db.specs.Database.{IsDirectives}
use Rattle.pw_webflow.specs.declared.web.WebBlock.{WebBlock}
use Rattle.pw_alloc.specs.declared.located.Located.{Located}
use Rattle.pw_alloc.specs.Frames.{head_size, link_place}
use Rattle.pw_select_lines.specs.Registers.{store_to}
use Rattle.pw_select.specs.Selection.{entry_lines, saved_lines}
use Rattle.pw_run_languages.specs.Addresses.{Addresses, AreLawful}
use Rattle.pw_run_languages.specs.Acts.{Core, register, number_at}
use Rattle.pw_run_languages.specs.LineRun.{LineProgram}
use Rattle.pw_run_languages.specs.FlowRun.{with_slots}
use Rattle.pw_run_languages.specs.PlacedRun.{Machine, entered}
use Rattle.pw_run_languages.specs.Serving.{Serves}
use Rattle.pw_law_select_rows.specs.Straight.{words_of}
use Rattle.pw_law_select_states.specs.Laid.{address, Lives, size_of}
use Rattle.pw_law_select_states.specs.Pointers.{AreKnown}
use Rattle.pw_law_select_states.specs.States.{Stands}
use Rattle.pw_law_select_frames.specs.Going.{Goes}
use Rattle.pw_law_select_frames.specs.Chain.{SavedStand}
use Rattle.pw_law_select_frames.specs.Extending.{KeepsObjects}

-- A function may be entered: the caller's state stands, its pointers are known, all its objects are below the stack pointer,
-- and the stack holds the frame.
pub record MayBegin (lines : LineProgram) (w : Addresses) (site : ℕ → ℕ) (m : Machine) (f : Located) (c : Core) : Type 0 where
  pub lawful : AreLawful lines.flow w
  pub stands : Stands lines.flow w site m c
  pub known : AreKnown lines.flow m
  pub below : (o : ℕ) → Lives m.objects o → site o + size_of m.objects o < register c stack_pointer
  pub serves : Serves f.body f
  pub directives : IsDirectives f.body.directives
  pub link : register c return_address < 2 ^ 32
  pub fits : register c stack_pointer + f.frame ≤ w.limit

-- It is entered. Arguments stay where they are, and so does what is below the stack pointer at the call, but for the return
-- address there.
pub record Begins (lines : LineProgram) (w : Addresses) (site : ℕ → ℕ) (m : Machine) (f : Located) (b : WebBlock) (t : Option ℕ) (c : Core) : Type 0 where
  pub after : ℕ → ℕ
  pub core : Core
  pub goes : Goes lines w (words_of (entry_lines f.frame ++ saved_lines store_to (head_size f.body) 0 f.saved)) [] c core
  pub keeps : KeepsObjects site after m.objects (with_slots f.body.slots m.objects)
  pub new : (o : ℕ) → length m.objects ≤ o → Lives (with_slots f.body.slots m.objects) o → register c stack_pointer ≤ after o
  pub stands : Stands lines.flow w after (entered f b t m) core
  pub pointer : register core stack_pointer ≡ register c stack_pointer + f.frame
  pub registers : (r : ℕ) → r ≢ help → r ≢ second → r ≢ stack_pointer → register core r ≡ register c r
  pub memory : (a : ℕ) → a < register c stack_pointer → (a + 20 < register c stack_pointer) ⊎ (register c stack_pointer ≤ a + 16) → core.memory a ≡ c.memory a
  pub link : number_at 4 core.memory (register c stack_pointer - link_place) ≡ register c return_address
  pub words : (i r : ℕ) → slice_get f.saved i ≡ Some r → number_at 4 core.memory (register c stack_pointer + f.frame - head_size f.body - 4 * (i + 1)) ≡ register c r
  pub saved : SavedStand (address lines.flow w after) core.memory (register core stack_pointer - head_size f.body) 0 (map (λ r. (r, m.registers r)) f.saved)

abbrev pub FunctionsBegin : Type 0
FunctionsBegin =
    (lines : LineProgram) (w : Addresses) (site : ℕ → ℕ) (m : Machine) (f : Located) (b : WebBlock) (t : Option ℕ) (c : Core)
    → MayBegin lines w site m f c → Begins lines w site m f b t c
