use Rattle.pw_list.proofs.Gathered.{seen_front}
use Rattle.pw_list.proofs.database.uses_at.Goals as goal

pub returns : goal.returns
returns c =
    seen_front c.args.id c.args.start c.args.uses.now c.split_at-2.result.0.now c.split_at.result.1.now c.count_of.result c.split_at.ensures.back c.count_of.ensures.count c.split_at-2.ensures.front
