use Rattle.std.proofs.Common.{◌+◌, refl}
use Rattle.pw_live_spans.proofs.Walking.{ahead_with, open_marks, open_with}
use Rattle.pw_live_spans.proofs.walk.Walk.start.Goals as goal

pub invariant_of-self : goal.invariant_of-self
invariant_of-self c = let w = c.args.self.now in record { same = w.same; ahead = ahead_with w.ends.items c.args.t w.place w.ahead }

pub returns-clause-marked : goal.returns-clause-marked
returns-clause-marked c = open_marks c.args.self.now _ c.args.t refl refl c.requires.shut refl

pub returns-clause-opens : goal.returns-clause-opens
returns-clause-opens c = open_with c.args.self.now.ends.items c.args.t (c.args.self.now.place + 1) c.requires.shut
