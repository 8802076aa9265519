use Rattle.std.proofs.Common.{refl}
use Rattle.pw_live_spans.proofs.Covering.{put_joined}
use Rattle.pw_live_spans.proofs.walk.put_joined.Goals as goal

pub returns : goal.returns
returns c = put_joined c.args.spans.now c.push.new.self c.args.last.0 c.args.last.1 c.args.from c.args.last.0 refl c.requires.up c.requires.points c.in_ok-push.ensures
