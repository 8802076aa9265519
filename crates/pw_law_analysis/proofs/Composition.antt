-- The laws of the analyser give what direction and the law of traffic want of a database.
use Rattle.std.specs.Prelude.{ℕ, List}
use Rattle.std.proofs.Common.{arith}
use Rattle.pw_db.specs.declared.database.Directives.{Directives}
use Rattle.pw_db_sound.specs.CallGraphs.{Graph, SayTheSame}
use Rattle.pw_db_sound.specs.Sound.{Sound}
use Rattle.pw_run_languages.specs.Traces.{Event}
use Rattle.pw_run_languages.specs.Traffic.{ObeysTraffic}
use Rattle.pw_run_languages.specs.LawfulPrograms.{graph_of}
use Rattle.pw_law_analysis.specs.SummaryGraphs.{named_graph}
use Rattle.pw_law_analysis.specs.OwedLaws.{AnalysesCompose}

-- by what soundness and traffic rest on
pub composes : ((g h : Graph) (d : List (List ℕ × Directives)) → SayTheSame g h → Sound g d → Sound h d)
    → ((g h : Graph) (d : List (List ℕ × Directives)) (l : List (Event ℕ ℕ)) → SayTheSame g h → ObeysTraffic h d l → ObeysTraffic g d l)
    → AnalysesCompose
composes sound_again traffic_again lawful sound covered q ss colours db linked few i same = record {
  database = lawful ss colours db linked (omega (arith, few)) i;
  sound = sound_again (named_graph ss i.graph) (graph_of q) db same (sound ss colours db linked few i);
  traffic = λ l o. traffic_again (named_graph ss i.graph) (graph_of q) db l same o;
  covered = covered ss colours db linked i;
}
