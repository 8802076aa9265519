use Rattle.pw_live_spans.proofs.Covering.{put_both}
use Rattle.pw_live_spans.proofs.walk.put_both.Goals as goal

pub returns : goal.returns
returns c = put_both c.args.spans.now c.push.new.self c.push-2.new.self c.args.last c.args.from c.args.to c.in_ok-push.ensures c.in_ok-push-2.ensures
