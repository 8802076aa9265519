-- Globals all of whose webs have a register.
use Rattle.std.specs.Prelude.{ℕ, ◌≢◌, None, List, Contains}
use Rattle.pw_summary.specs.declared.summary.Summary.{Summary}
use Rattle.pw_webs.specs.declared.web.RawWeb.{RawWeb}
use Rattle.pw_db.specs.declared.database.Directives.{Directives}
use Rattle.pw_colour.specs.Colours.{IsDatabaseOf, global_of}

abbrev pub AreColoured : {ss : List Summary} {colours : ℕ} {db : List (List ℕ × Directives)} → IsDatabaseOf ss colours db → List ℕ → Type 0
AreColoured i v = (w : RawWeb) → Contains i.coloured (w, None) → (global_of i.graph w).0 ≢ v
