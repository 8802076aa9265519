-- How a function ends behind its webs: the saved registers and the return address come back, and the frame is left.
use Rattle.std.specs.Prelude.{ℕ, ◌≡◌, ◌≢◌, ◌+◌, ◌-◌, ◌%◌, List, [], ◌++◌}
use Rattle.pw_inst.specs.Registers.{help, return_address, stack_pointer}
use Rattle.pw_inst.specs.declared.line.Line.{Line}
use Rattle.pw_alloc.specs.declared.located.Located.{Located}
use Rattle.pw_alloc.specs.Frames.{link_place, head_size, below}
use Rattle.pw_select_lines.specs.Registers.{load_from}
use Rattle.pw_select.specs.Selection.{saved_lines, frame_left}
use Rattle.pw_run_languages.specs.Addresses.{Addresses}
use Rattle.pw_run_languages.specs.Acts.{Core, register, number_at}
use Rattle.pw_run_languages.specs.LineRun.{LineProgram}
use Rattle.pw_run_languages.specs.Standing.{given_back}
use Rattle.pw_law_select_rows.specs.Straight.{words_of}
use Rattle.pw_law_select_states.specs.States.{IsOfWords}
use Rattle.pw_law_select_frames.specs.Going.{Goes}
use Rattle.pw_law_select_frames.specs.Stack.{IsTop}
use Rattle.pw_law_select_frames.specs.Saving.{MaySave}

-- the epilogue behind the webs, without the return
abbrev pub leaving : Located → List Line
leaving f =
    saved_lines load_from (head_size f.body) 0 f.saved
    ++ load_from (below (f.frame + link_place)) return_address
    ++ frame_left f.frame

pub record Leaves (p : LineProgram) (w : Addresses) (f : Located) (c : Core) : Type 0 where
  pub core : Core
  pub goes : Goes p w (words_of (leaving f)) [] c core
  pub holds : IsOfWords core
  pub link : register core return_address ≡ number_at 4 c.memory (register c stack_pointer - (f.frame + link_place))
  pub pointer : register core stack_pointer ≡ register c stack_pointer - f.frame
  pub registers : (r : ℕ) → r ≢ 0 → r ≢ help → r ≢ return_address → r ≢ stack_pointer
      → register core r ≡ given_back c.memory (register c stack_pointer - head_size f.body) 0 f.saved c.registers r
  pub memory : core.memory ≡ c.memory

abbrev pub FramesAreLeft : Type 0
FramesAreLeft =
    (p : LineProgram) (w : Addresses) (f : Located) (c : Core) → MaySave p w (head_size f.body) f.saved c
    → IsTop w (register c stack_pointer) f.frame → f.frame % 4 ≡ 0 → Leaves p w f c
