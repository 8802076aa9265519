-- The files that a session leaves alone.
use Rattle.std.specs.Prelude.{◌≡◌, ◌≢◌, ◌≤◌, ℕ, ◌⊎◌, List, [], ◌++◌, length}
use Rattle.std.specs.List.{AllByRecursion}
use Rattle.pw_io.specs.Files.{Told}
use Rattle.pw_store_texts.specs.Names.{IsTextFile}
use Rattle.pw_top_answer.specs.declared.answer.Answer.{Answer}
use Rattle.pw_top_answer.specs.declared.answer.Answer.TheVariants.{StoreFault}
use Rattle.pw_law_session.specs.FromSession.FromBuildFiles.Genuine.{IsBuiltName}
use Rattle.pw_commands.specs.Others.{IsSameBut}

-- a text's file, or one of a build's
abbrev pub IsPutName : List ℕ → Type 0
IsPutName name = IsTextFile name ⊎ IsBuiltName name

-- The store tells the names that were put besides, and every file has its old bytes, or is absent as before, but those of
-- these names, those that were removed, as they may be, and, where the store failed, perhaps of one more, whose put failed.
pub record LeavesRest (may : List ℕ → Type 0) (answer : Answer) (told left : Told) : Type 0 where
  pub put : List (List ℕ)
  pub removed : List (List ℕ)
  pub failed : List (List ℕ)
  pub own : AllByRecursion IsPutName (put ++ failed)
  pub lawful : AllByRecursion may removed
  pub one : length failed ≤ 1
  pub none : answer ≢ StoreFault → failed ≡ []
  pub told_so : left.puts ≡ told.puts ++ put
  pub same : IsSameBut (put ++ (failed ++ removed)) told.files left.files
