-- What sound directives give for selection: callers answer for the registers of those that they call. And they hold nothing in
-- those that these are free to use.
use Rattle.std.specs.Prelude.{ℕ, ◌≢◌, Some, List, slice_get, Contains}
use Rattle.pw_db.specs.declared.database.Directives.{Directives}
use Rattle.pw_db.specs.Database.{IsDatabase}
use Rattle.pw_webflow.specs.ValidWebs.{HasRegister}
use Rattle.pw_alloc.specs.declared.located.Place.TheVariants.{Reg}
use Rattle.pw_alloc.specs.declared.located.Located.{Located}
use Rattle.pw_db_sound.specs.CallGraphs.{Calls}
use Rattle.pw_db_sound.specs.Sound.{Sound, IsFree}
use Rattle.pw_run_languages.specs.Programs.{Program}
use Rattle.pw_run_languages.specs.Calls.{AreGuarded}
use Rattle.pw_run_languages.specs.LawfulPrograms.{graph_of}
use Rattle.pw_run_languages.specs.Direction.{directed_functions}
use Rattle.pw_run_languages.specs.Serving.{IsHeld, AllServe}

abbrev pub SoundDirectivesGuard : Type 0
SoundDirectivesGuard =
    (p : Program) (d : List (List ℕ × Directives)) (functions : List Located) →
    IsDatabase d → Sound (graph_of p) d → AllServe (directed_functions p d) functions → AreGuarded (graph_of p) d functions

-- Nothing that the function needs behind a call stands in the register: it is that of none of its webs, and of no temporary that
-- it holds.
pub record HoldsNothingIn (f : Located) (r : ℕ) : Type 0 where
  pub webs : ¬ HasRegister f.body.directives r
  pub temps : (t : ℕ) → IsHeld f.body t → slice_get f.places t ≢ Some (Reg r)

-- so it is of each caller of a function that is free to use the register
abbrev pub CallersHoldNothingThere : Type 0
CallersHoldNothingThere =
    (p : Program) (d : List (List ℕ × Directives)) (functions : List Located) →
    IsDatabase d → Sound (graph_of p) d → AllServe (directed_functions p d) functions →
    (f : Located) (callee : List ℕ) (r : ℕ) → Contains functions f → Calls (graph_of p) f.body.name callee → IsFree d callee r → HoldsNothingIn f r
