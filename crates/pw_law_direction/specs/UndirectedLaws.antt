-- The law of direction where no global is in a register.
use Rattle.std.specs.Prelude.{ℕ, ◌≡◌, List, []}
use Rattle.std.specs.List.{AllByRecursion}
use Rattle.pw_db.specs.declared.database.Directives.{Directives}
use Rattle.pw_db.specs.Database.{IsDatabase, empty}
use Rattle.pw_db_sound.specs.CallGraphs.{Graph}
use Rattle.pw_db_sound.specs.Sound.{Sound}
use Rattle.pw_run_languages.specs.Programs.{Program}
use Rattle.pw_run_languages.specs.LawfulPrograms.{IsProgram}
use Rattle.pw_run_languages.specs.PlacementLaws.{DirectionKeeps}

abbrev pub EmptyDirectionKeeps : Type 0
EmptyDirectionKeeps = (p : Program) (input : List ℕ) → IsProgram p → DirectionKeeps p [] input

-- no function of the database is told anything
abbrev pub SaysNothing : List (List ℕ × Directives) → Type 0
SaysNothing d = AllByRecursion (λ f. f.1 ≡ empty) d

-- such a database is sound, for whatever program
abbrev pub WeblessIsSound : Type 0
WeblessIsSound = (g : Graph) (d : List (List ℕ × Directives)) → SaysNothing d → Sound g d

-- and the law of direction holds of it
abbrev pub WeblessDirectionKeeps : Type 0
WeblessDirectionKeeps =
    (p : Program) (d : List (List ℕ × Directives)) (input : List ℕ) → IsProgram p → IsDatabase d → SaysNothing d → DirectionKeeps p d input
