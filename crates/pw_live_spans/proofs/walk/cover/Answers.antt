use Rattle.pw_live_spans.proofs.Covering.{alone, with_last}
use Rattle.pw_live_spans.proofs.walk.cover.Goals as goal

pub returns-in_ok-push-in-None : goal.returns-in_ok-push-in-None
returns-in_ok-push-in-None c = alone c.args.spans.now c.pop.new.self c.push.new.self c.args.from c.args.to c.in-None.ensures.0 c.in-None.ensures.1 c.in_ok-push-in-None.ensures

pub returns-in_ok-put_behind-in-Some : goal.returns-in_ok-put_behind-in-Some
returns-in_ok-put_behind-in-Some c = with_last c.args.spans.now c.pop.new.self c.put_behind.new.spans c.in-Some.last c.args.from c.args.to c.in-Some.ensures c.in_ok-put_behind-in-Some.ensures
