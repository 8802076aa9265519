use Rattle.std.proofs.Common.{map, arith}
use Rattle.pw_link_rules.specs.Entries.{declaration}
use Rattle.pw_link_rules.proofs.Clashes.{soonest_skips, soonest_takes}
use Rattle.pw_link_rules.proofs.conflicts.sooner.Goals as goal

pub returns-in-None : goal.returns-in-None
returns-in-None c = soonest_skips (map declaration c.args.all.now) c.args.i c.args.k c.args.found.0 c.args.found.1 c.requires.so_far (λ b t. absurd (c.in-None.ensures b t))

pub returns-then-next-found : goal.returns-then-next-found
returns-then-next-found c = soonest_takes (map declaration c.args.all.now) c.args.i c.args.k c.args.found.0 c.args.found.1 c.args.stop c.in-Some.next c.requires.so_far c.requires.run c.requires.low c.requires.high c.in-Some.ensures c.if-next-found.true

pub returns-else-next-found : goal.returns-else-next-found
returns-else-next-found c = soonest_skips (map declaration c.args.all.now) c.args.i c.args.k c.args.found.0 c.args.found.1 c.requires.so_far (λ b t. let le = c.in-Some.ensures.next b t in omega (arith, le, c.if-next-found.false))
