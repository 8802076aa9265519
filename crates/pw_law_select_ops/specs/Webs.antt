-- The lines that load a web where a function enters it, and those that store it back where the function leaves it.
use Rattle.std.specs.Prelude.{ℕ, ◌≡◌, ◌≢◌, List, ◌++◌}
use Rattle.pw_inst.specs.Registers.{help}
use Rattle.pw_inst.specs.declared.line.Line.{Line}
use Rattle.pw_db.specs.declared.database.Web.{Web}
use Rattle.pw_webflow.specs.ValidWebs.{HasRegister}
use Rattle.pw_alloc.specs.declared.located.Located.{Located}
use Rattle.pw_delay.specs.declared.items.Item.{Item}
use Rattle.pw_delay.specs.Items.{slotted}
use Rattle.pw_select.specs.Selection.{loaded_web, stored_back}
use Rattle.pw_run_languages.specs.Programs.{Program}
use Rattle.pw_run_languages.specs.LawfulPrograms.{IsProgram}
use Rattle.pw_run_languages.specs.Addresses.{Addresses}
use Rattle.pw_run_languages.specs.Serving.{IsTempRegister}
use Rattle.pw_run_languages.specs.Acts.{register}
use Rattle.pw_run_languages.specs.LineRun.{LineProgram, Machine}
use Rattle.pw_run_languages.specs.PlacedRun as placed
use Rattle.pw_run_languages.specs.Direction.{with_functions}
use Rattle.pw_run_languages.specs.SelectionLaws.{line_program}
use Rattle.pw_law_select_states.specs.States.{Stands}
use Rattle.pw_law_select_states.specs.Passes.{Follows}
use Rattle.pw_law_select_places.specs.Places.{IsServed}

-- Both runs stand at a web of the active function, which has its register: the placed run's state stands in words, and of the
-- function's items those are left that the web's lines give, and those of more lines.
pub record StandAtWeb (p : Program) (functions : List Located) (w : Addresses) (site : ℕ → ℕ) (lines : List Line) (x : Web) (m : placed.Machine) (l : Machine) (before : List Item) (more : List Line) : Type 0 where
  pub program : IsProgram p
  pub served : IsServed (line_program p functions) w m
  pub temp : IsTempRegister x.reg
  pub has : HasRegister m.frame.function.body.directives x.reg
  pub stands : Stands p w site m l.core
  pub left : l.frame.left ≡ slotted (lines ++ more)
  pub items : l.frame.function.items ≡ before ++ l.frame.left

-- the lines follow, and of all registers change that of addresses and that of the web alone
pub record WebFollows (p : Program) (lines : LineProgram) (w : Addresses) (scratch : ℕ → (ℕ → ℕ) → ℕ → ℕ) (site : ℕ → ℕ) (x : Web) (m n : placed.Machine) (l : Machine) (rest : List Item) : Type 0 where
  pub follows : Follows p lines w scratch site m n l rest
  pub registers : (r : ℕ) → r ≢ help → r ≢ x.reg → register follows.core r ≡ register l.core r

abbrev pub WebLoadsFollow : Type 0
WebLoadsFollow =
    (p : Program) (functions : List Located) (w : Addresses) (scratch : ℕ → (ℕ → ℕ) → ℕ → ℕ) (site : ℕ → ℕ) (m n : placed.Machine) (l : Machine) (before : List Item) (more : List Line) (x : Web)
    → StandAtWeb p functions w site (loaded_web x) x m l before more → placed.enters (with_functions p functions) x m ≡ placed.On n
    → WebFollows p (line_program p functions) w scratch site x m n l (slotted more)

abbrev pub WebStoresFollow : Type 0
WebStoresFollow =
    (p : Program) (functions : List Located) (w : Addresses) (scratch : ℕ → (ℕ → ℕ) → ℕ → ℕ) (site : ℕ → ℕ) (m n : placed.Machine) (l : Machine) (before : List Item) (more : List Line) (x : Web)
    → StandAtWeb p functions w site (stored_back x) x m l before more → placed.leaves (with_functions p functions) x m ≡ placed.On n
    → WebFollows p (line_program p functions) w scratch site x m n l (slotted more)
