use Rattle.pw_run_languages.proofs.Traffic.{traffic_again}
use Rattle.pw_run_languages.proofs.notes.traffic_rests_on_relations.Goals as goal

pub returns : goal.returns
returns c = λ g h d l s. traffic_again g h d s l
