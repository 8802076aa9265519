-- Rows of words that act from one core to another, without a turn of control.
use Rattle.std.specs.Prelude.{ℕ, false, ◌≡◌, List, ◌++◌}
use Rattle.pw_delay.specs.declared.items.Word.{Word}
use Rattle.pw_run_languages.specs.Traces.{Event}
use Rattle.pw_run_languages.specs.Addresses.{Addresses}
use Rattle.pw_run_languages.specs.Acts.{Core, Acts}
use Rattle.pw_run_languages.specs.LineRun.{LineProgram}
use Rattle.pw_law_select_rows.specs.Straight.{ran, noted}

-- the words act from one core to another, and note these events
pub record Goes (p : LineProgram) (w : Addresses) (words : List Word) (events : List (Event ℕ ℕ)) (c e : Core) : Type 0 where
  pub acts : ran w words c ≡ Acts e
  pub skip : e.skip ≡ false
  pub notes : (log : List (Event ℕ ℕ)) → noted p w words c log ≡ events ++ log
