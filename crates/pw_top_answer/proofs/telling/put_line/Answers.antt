use Rattle.pw_top_answer.proofs.TellLemmas.{put_tells}
use Rattle.pw_top_answer.proofs.telling.put_line.Goals as goal

pub returns : goal.returns
returns g c = put_tells c.put.result _ _ _ _ _ c.put.ensures.ok c.put.ensures.failed c.put.ensures.cause
