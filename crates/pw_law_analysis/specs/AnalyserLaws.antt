-- What the analyser's laws give, now that they stand: the same as in pw_law_analysis, without them as premises.
use Rattle.std.specs.Prelude.{ℕ, ◌≤◌, List}
use Rattle.pw_db.specs.Limits.{colour_limit}
use Rattle.pw_db.specs.declared.database.Directives.{Directives}
use Rattle.pw_summary.specs.declared.summary.Summary.{Summary}
use Rattle.pw_graph.specs.declared.graph.CallGraph.{CallGraph}
use Rattle.pw_graph.specs.Program.{IsGraphOf}
use Rattle.pw_colour.specs.Colours.{IsDatabaseOf}
use Rattle.pw_clusters.specs.ByName.{IsNamed}
use Rattle.pw_alloc.specs.declared.located.Located.{Located}
use Rattle.pw_object.specs.declared.object.Object.{Object}
use Rattle.pw_db_sound.specs.CallGraphs.{SayTheSame}
use Rattle.pw_run_languages.specs.Programs as flows
use Rattle.pw_run_languages.specs.Programs.{AreBytes}
use Rattle.pw_run_languages.specs.LawfulPrograms.{graph_of}
use Rattle.pw_run_languages.specs.SelectionLaws.{SelectionKeepsRuns}
use Rattle.pw_cmean.specs.Worlds.{Program}
use Rattle.pw_image.specs.declared.image.Image.{Image}
use Rattle.pw_law_analysis.specs.ImageRegisters.{CallsKeepRegisters, SavedRegistersComeBack}
use Rattle.pw_law_analysis.specs.SummaryGraphs.{named_graph}
use Rattle.pw_law_analysis.specs.OwedLaws.{AreSummaries, Serves, IsAnalysed, HoldsOver}

-- the graph of summaries by names says what their call graph says by places
abbrev pub NamedGraphsSayTheSame : Type 0
NamedGraphsSayTheSame = (ss : List Summary) (g : CallGraph) → IsGraphOf ss g → IsNamed g (named_graph ss g)

-- the database serves flow graphs of which its summaries say what they say themselves
abbrev pub DatabasesServe : Type 0
DatabasesServe =
    (q : flows.Program) (ss : List Summary) (colours : ℕ) (db : List (List ℕ × Directives)) →
    AreSummaries ss → colours ≤ colour_limit → (i : IsDatabaseOf ss colours db) → SayTheSame (named_graph ss i.graph) (graph_of q) →
    Serves q ss colours db i

-- what holds of a program that was built with this database and with places that serve, from the law of selection
abbrev pub LayersGiveAll : Type 0
LayersGiveAll =
    SelectionKeepsRuns →
    (p : Program) (q : flows.Program) (ss : List Summary) (colours : ℕ) (db : List (List ℕ × Directives)) (functions : List Located) (objects : List Object) (input : List ℕ) →
    IsAnalysed p q ss colours db functions objects → AreBytes input →
    HoldsOver p q ss colours db functions objects input

-- where calls keep registers, what a root saves for its cluster comes back
abbrev pub RootsKeepRegisters : Type 0
RootsKeepRegisters =
    (ss : List Summary) (colours : ℕ) (db : List (List ℕ × Directives)) (v : Image) (input : List ℕ) →
    AreSummaries ss → colours ≤ colour_limit → IsDatabaseOf ss colours db → CallsKeepRegisters db v input → SavedRegistersComeBack db v input
