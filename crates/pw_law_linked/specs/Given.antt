-- What the law of linking is given.
use Rattle.std.specs.Prelude.{ℕ, ◌≡◌, None, List}
use Rattle.std.specs.List.{AllByRecursion}
use Rattle.pw_db.specs.declared.database.Directives.{Directives}
use Rattle.pw_db.specs.Database.{IsDirectives}
use Rattle.pw_object.specs.declared.object.Object.{Object}
use Rattle.pw_alloc.specs.declared.located.Located.{Located}
use Rattle.pw_link.specs.Linking.{size_fault}
use Rattle.pw_run_languages.specs.Programs.{Program}
use Rattle.pw_run_languages.specs.LawfulPrograms.{IsProgram}
use Rattle.pw_run_languages.specs.Direction.{directed_functions}
use Rattle.pw_run_languages.specs.Serving.{AllServe}
use Rattle.pw_run_languages.specs.LinkingLaws.{AreObjectsOf, AreNamesApart}

-- The objects of a lawful program, whose functions have places that serve them under lawful directives; text and memory
-- are large enough for it.
pub record IsGiven (p : Program) (d : List (List ℕ × Directives)) (functions : List Located) (objects : List Object) : Type 0 where
  pub program : IsProgram p
  pub apart : AreNamesApart p
  pub directives : AllByRecursion (λ f. IsDirectives f.1) d
  pub serve : AllServe (directed_functions p d) functions
  pub made : AreObjectsOf p functions objects
  pub fits : size_fault objects p.stack ≡ None
