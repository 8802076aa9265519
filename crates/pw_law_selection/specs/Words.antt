-- Registers of the run of selected lines hold words, whatever has been done.
use Rattle.std.specs.Prelude.{ℕ, ◌≡◌, ◌^◌, ◌<◌, List}
use Rattle.pw_db.specs.declared.database.Directives.{Directives}
use Rattle.pw_alloc.specs.declared.located.Located.{Located}
use Rattle.pw_run_languages.specs.Programs.{Program}
use Rattle.pw_run_languages.specs.Addresses.{Addresses}
use Rattle.pw_run_languages.specs.Acts.{register}
use Rattle.pw_run_languages.specs.LineRun.{Machine, On, steps, start}
use Rattle.pw_run_languages.specs.SelectionLaws.{line_program}
use Rattle.pw_law_selection.specs.Following.{IsGiven}

abbrev pub RegistersHoldWords : Type 0
RegistersHoldWords =
    (p : Program) (d : List (List ℕ × Directives)) (functions : List Located) (w : Addresses) (scratch : ℕ → (ℕ → ℕ) → ℕ → ℕ) (input : List ℕ) → IsGiven p d functions w input
    → (k : ℕ) (l : Machine) → steps (line_program p functions) w scratch k (start (line_program p functions) w input) ≡ On l → (r : ℕ) → register l.core r < 2 ^ 32
