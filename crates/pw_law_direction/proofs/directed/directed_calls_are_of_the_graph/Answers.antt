use Rattle.pw_run_languages.specs.LawfulPrograms.{graph_of}
use Rattle.pw_run_languages.specs.Calls.{FollowsCalls}
use Rattle.pw_law_direction.proofs.Following.{follows, last_follows}
use Rattle.pw_law_direction.proofs.Running.{run_notes}
use Rattle.pw_law_direction.proofs.directed.directed_calls_are_of_the_graph.Goals as goal

pub returns : goal.returns
returns c = λ p d input ok n. run_notes p d ok (FollowsCalls (graph_of p)) (λ acts regs l t. follows p d t) (λ l t. last_follows p d t) input n
