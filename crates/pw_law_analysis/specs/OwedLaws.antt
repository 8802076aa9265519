-- What the analyser owes to the layers between C and words, as statements, and what they give together.
use Rattle.std.specs.Prelude.{ℕ, ◌≡◌, ◌≤◌, None, List, Contains}
use Rattle.std.specs.List.{AllByRecursion}
use Rattle.pw_value.specs.Limits.{stack_least}
use Rattle.pw_value.specs.declared.value.Kind.{Kind}
use Rattle.pw_db.specs.declared.database.Directives.{Directives}
use Rattle.pw_db.specs.Limits.{colour_limit, register_count}
use Rattle.pw_db.specs.Database.{IsDatabase}
use Rattle.pw_summary.specs.declared.summary.Summary.{Summary}
use Rattle.pw_summary.specs.Summary.{IsSummary}
use Rattle.pw_graph.specs.Program.{AreLinked}
use Rattle.pw_colour.specs.Colours.{IsDatabaseOf}
use Rattle.pw_db_sound.specs.CallGraphs.{SayTheSame}
use Rattle.pw_db_sound.specs.Sound.{Sound}
use Rattle.pw_run_languages.specs.Traces.{Event}
use Rattle.pw_run_languages.specs.Traffic.{IsCovered, ObeysTraffic}
use Rattle.pw_alloc.specs.declared.located.Located.{Located}
use Rattle.pw_object.specs.declared.object.Object.{Object}
use Rattle.pw_link.specs.Linking.{size_fault}
use Rattle.pw_run_agreement.specs.Agreement.{IsDefined}
use Rattle.pw_run_languages.specs.Programs as flows
use Rattle.pw_run_languages.specs.Programs.{AreBytes}
use Rattle.pw_run_languages.specs.LawfulPrograms.{graph_of}
use Rattle.pw_run_languages.specs.Direction.{directed_functions}
use Rattle.pw_run_languages.specs.PlacementLaws.{DirectionKeeps, PlacesKeep}
use Rattle.pw_run_languages.specs.Serving.{AllServe}
use Rattle.pw_run_languages.specs.SelectionLaws.{SelectionKeepsRuns}
use Rattle.pw_run_languages.specs.LinkingLaws.{AreObjectsOf, AreNamesApart, frame_in, LinkKeepsRuns}
use Rattle.pw_cmean.specs.Worlds.{Program}
use Rattle.pw_law_source.specs.Source.{source_runs}
use Rattle.pw_law_layers.specs.Whole.{Implements, Holds, image_of}
use Rattle.pw_law_analysis.specs.SummaryGraphs.{named_graph}
use Rattle.pw_law_analysis.specs.PlacedGlobals.{AreColoured}
use Rattle.pw_law_analysis.specs.ImageTraffic.{Traffic}
use Rattle.pw_law_analysis.specs.ImageRegisters.{CallsKeepRegisters}

-- ---- the laws

-- summaries that a program can be linked of
pub record AreSummaries (ss : List Summary) : Type 0 where
  pub each : AllByRecursion IsSummary ss
  pub linked : AreLinked ss

-- the database is lawful, for no more registers than a callee keeps
abbrev pub DatabaseIsLawful : Type 0
DatabaseIsLawful =
    (ss : List Summary) (colours : ℕ) (db : List (List ℕ × Directives)) → AreSummaries ss → colours ≤ register_count →
    IsDatabaseOf ss colours db → IsDatabase db

-- it is sound for the graph of its summaries, for no more registers than webs may have
abbrev pub DatabaseIsSound : Type 0
DatabaseIsSound =
    (ss : List Summary) (colours : ℕ) (db : List (List ℕ × Directives)) → AreSummaries ss → colours ≤ colour_limit →
    (i : IsDatabaseOf ss colours db) → Sound (named_graph ss i.graph) db

-- every function that refers to a global all of whose webs have a register is in one of these
abbrev pub ColouredIsCovered : Type 0
ColouredIsCovered =
    (ss : List Summary) (colours : ℕ) (db : List (List ℕ × Directives)) → AreSummaries ss →
    (i : IsDatabaseOf ss colours db) (v : List ℕ) (k : Kind) → Contains i.graph.globals (v, k) → AreColoured i v →
    IsCovered (named_graph ss i.graph) db v

-- ---- together

-- what direction and the law of traffic want of a database, over flow graphs
pub record Serves (q : flows.Program) (ss : List Summary) (colours : ℕ) (db : List (List ℕ × Directives)) (i : IsDatabaseOf ss colours db) : Type 0 where
  pub database : IsDatabase db
  pub sound : Sound (graph_of q) db
  -- the law of traffic over the flow graphs is that over the summaries
  pub traffic : (l : List (Event ℕ ℕ)) → ObeysTraffic (graph_of q) db l → ObeysTraffic (named_graph ss i.graph) db l
  pub covered : (v : List ℕ) (k : Kind) → Contains i.graph.globals (v, k) → AreColoured i v → IsCovered (named_graph ss i.graph) db v

-- of flow graphs of which the summaries say what they say themselves
abbrev pub AnalysesCompose : Type 0
AnalysesCompose =
    DatabaseIsLawful → DatabaseIsSound → ColouredIsCovered →
    (q : flows.Program) (ss : List Summary) (colours : ℕ) (db : List (List ℕ × Directives)) →
    AreSummaries ss → colours ≤ colour_limit → (i : IsDatabaseOf ss colours db) → SayTheSame (named_graph ss i.graph) (graph_of q) →
    Serves q ss colours db i

-- ---- with the layers between C and words

-- Flow graphs that implement the program, built with the database that the analyser makes of their summaries: of any
-- summaries whose graph says what the flow graphs' says.
pub record IsAnalysed (p : Program) (q : flows.Program) (ss : List Summary) (colours : ℕ) (db : List (List ℕ × Directives)) (functions : List Located) (objects : List Object) : Type 0 where
  pub implements : Implements p q
  pub frames : q.frame_of ≡ frame_in (image_of objects q.stack)
  pub names : AreNamesApart q
  pub enough : stack_least ≤ q.stack
  pub linked : AreSummaries ss
  pub few : colours ≤ colour_limit
  pub database : IsDatabaseOf ss colours db
  pub alike : SayTheSame (named_graph ss database.graph) (graph_of q)
  pub serve : AllServe (directed_functions q db) functions
  pub made : AreObjectsOf q functions objects
  pub fits : size_fault objects q.stack ≡ None

-- What holds of a built program; and where the source is defined, the law of traffic of its image, and that calls keep registers
-- there.
pub record HoldsOver (p : Program) (q : flows.Program) (ss : List Summary) (colours : ℕ) (db : List (List ℕ × Directives)) (functions : List Located) (objects : List Object) (input : List ℕ) : Type 0 where
  pub holds : Holds p q db functions objects input
  pub traffic : IsDefined (source_runs p (frame_in (image_of objects q.stack)) q.stack input) → Traffic ss colours (image_of objects q.stack) input
  pub registers : IsDefined (source_runs p (frame_in (image_of objects q.stack)) q.stack input) → CallsKeepRegisters db (image_of objects q.stack) input

abbrev pub AllLawsCompose : Type 0
AllLawsCompose =
    SelectionKeepsRuns → LinkKeepsRuns → DatabaseIsLawful → DatabaseIsSound → ColouredIsCovered →
    (p : Program) (q : flows.Program) (ss : List Summary) (colours : ℕ) (db : List (List ℕ × Directives)) (functions : List Located) (objects : List Object) (input : List ℕ) →
    IsAnalysed p q ss colours db functions objects → AreBytes input → DirectionKeeps q db input → PlacesKeep q db functions input →
    HoldsOver p q ss colours db functions objects input
