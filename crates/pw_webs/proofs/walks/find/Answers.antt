use Rattle.pw_webs.proofs.WalkLaws.{visit_outside, visit_again, visit_new, clash, held_again}
use Rattle.pw_webs.proofs.walks.find.Goals as goal

pub returns-then-not-contains : goal.returns-then-not-contains
returns-then-not-contains c = visit_outside c.args.place c.args.within.now c.args.found.now c.args.waiting.now.items (λ h. clash c.contains.result c.if-not-contains.true (c.contains.ensures.1 h))

pub returns-then-not-insert : goal.returns-then-not-insert
returns-then-not-insert c =
    visit_again c.args.place c.args.within.now c.args.found.now c.insert.new.self c.args.waiting.now.items (c.contains.ensures.0 c.if-not-contains.false)
    (held_again c.args.found.now c.args.place c.insert.result c.insert.ensures.added c.if-not-insert.true) c.insert.ensures.length c.insert.ensures.holds

pub returns : goal.returns
returns c =
    visit_new c.args.place c.args.within.now c.args.found.now c.insert.new.self c.args.waiting.now.items c.push.new.self.items (c.contains.ensures.0 c.if-not-contains.false)
    (c.insert.ensures.added.0 c.if-not-insert.false) c.insert.ensures.length c.insert.ensures.holds c.in_ok-push.ensures.items
