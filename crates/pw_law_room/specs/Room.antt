-- Whether the functions have room on the stack whose calls are active by what was noted.
use Rattle.std.specs.Prelude.{ℕ, ◌≤◌, List, [], ◌∷◌, map}
use Rattle.std.specs.List.{sum_by}
use Rattle.pw_run_languages.specs.Traces.{Event}
use Rattle.pw_run_languages.specs.Traffic.{active}
use Rattle.pw_run_languages.specs.Programs.{Program}

-- their names, the latest first
abbrev pub names_active : {B V : Type 0} → List (Event B V) → List (List ℕ)
names_active log = map (λ c. c.function) (active log)

abbrev pub HasRoom : {B V : Type 0} → Program → List (Event B V) → Type 0
HasRoom p log = sum_by p.frame_of (names_active log) ≤ p.stack

-- so it is before each event of a log
abbrev pub HadRoom : {B V : Type 0} → Program → List (Event B V) → Type 0
HadRoom p [] = Unit {0}
HadRoom p (e ∷ log) = HasRoom p log × HadRoom p log
