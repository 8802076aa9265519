-- What allocation owes.
use Rattle.std.specs.Prelude.{ℕ, ◌≤◌, List, map, Contains}
use Rattle.std.specs.List.{AllByRecursion}
use Rattle.pw_db.specs.Limits.{first_register, last_register}
use Rattle.pw_db.specs.declared.database.Directives.{Directives}
use Rattle.pw_db.specs.Database.{IsWeb, webs_of, IsDatabase}
use Rattle.pw_webflow.specs.declared.web.WebFn.{WebFn}
use Rattle.pw_alloc.specs.declared.located.Located.{Located}
use Rattle.pw_alloc_temps.specs.Temporaries.{allocated}
use Rattle.pw_run_languages.specs.Programs.{Program}
use Rattle.pw_run_languages.specs.Direction.{directed_functions}
use Rattle.pw_run_languages.specs.Serving.{Serves, AllServe}

-- a callee keeps the registers of a function's webs, and those that it saves for others
pub record AreKept (d : Directives) : Type 0 where
  pub webs : AllByRecursion IsWeb (webs_of d)
  pub saves : (r : ℕ) → Contains d.saves r → (first_register ≤ r) × (r ≤ last_register)

-- its places serve every directed function of such directives, whichever registers it is free to use
abbrev pub TemporariesServe : Type 0
TemporariesServe = (f : WebFn) → AreKept f.directives → Serves f (allocated f)

-- a program's functions under directives, with the places that allocation gives
abbrev pub allocated_functions : Program → List (List ℕ × Directives) → List Located
allocated_functions p d = map allocated (directed_functions p d)

-- and so all functions of a program under a lawful database
abbrev pub TemporariesServePrograms : Type 0
TemporariesServePrograms = (p : Program) (d : List (List ℕ × Directives)) → IsDatabase d → AllServe (directed_functions p d) (allocated_functions p d)
