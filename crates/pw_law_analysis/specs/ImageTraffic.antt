-- The law of traffic of an image that runs: what its trace obeys, by the summaries and the number of registers that it was
-- built with.
use Rattle.std.specs.Prelude.{ℕ, List, Contains}
use Rattle.pw_value.specs.declared.value.Kind.{Kind}
use Rattle.pw_db.specs.declared.database.Directives.{Directives}
use Rattle.pw_summary.specs.declared.summary.Summary.{Summary}
use Rattle.pw_image.specs.declared.image.Image.{Image}
use Rattle.pw_colour.specs.Colours.{IsDatabaseOf}
use Rattle.pw_run_languages.specs.Traffic.{ObeysTrafficFor}
use Rattle.pw_run_languages.specs.ImageTrace.{trace_of}
use Rattle.pw_law_analysis.specs.PlacedGlobals.{AreColoured}

-- an eligible global all of whose webs have a register
pub record IsPlaced {ss : List Summary} {colours : ℕ} {db : List (List ℕ × Directives)} (i : IsDatabaseOf ss colours db) (v : List ℕ) : Type 0 where
  pub kind : Kind
  pub eligible : Contains i.graph.globals (v, kind)
  pub coloured : AreColoured i v

-- Each load and store of such a global within so many steps stands in an active call of an entry of one of its webs, where
-- it is the first; a store only where the web writes, and no function is called behind it.
pub record Traffic (ss : List Summary) (colours : ℕ) (image : Image) (input : List ℕ) : Type 0 where
  pub database : List (List ℕ × Directives)
  pub is : IsDatabaseOf ss colours database
  pub obeys : (m : ℕ) → ObeysTrafficFor (IsPlaced is) database (trace_of image is.graph.globals input m)
