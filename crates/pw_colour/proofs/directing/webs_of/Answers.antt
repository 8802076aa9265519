use Rattle.pw_webs.proofs.WalkLaws.{clash}
use Rattle.pw_colour.proofs.Numbered.{webs_put, webs_skip}
use Rattle.pw_colour.proofs.directing.webs_of.Goals as goal
use Rattle.pw_colour.proofs.directing.webs_of.Goals.{then-contains+in_ok-web_of+in_ok-push, else-contains}

pub loop-each-preserved : goal.loop-each-preserved
loop-each-preserved c =
    let g = c.args.graph.now in
    let cs = c.args.coloured.now in
    let i = c.loop-each.each-index in
    let item = c.each-item.result in
    elim c.if-contains.branch [
      | then-contains+in_ok-web_of+in_ok-push w ↦
          rw w.webs-is (webs_put g cs i c.args.place item c.loop-each.webs w.push.new.self w.in_ok-web_of.field-0 w.role_of.result c.loop-each-test.true c.each-item.is (c.contains.ensures.0 w.if-contains.true) w.in_ok-web_of.ensures w.role_of.ensures w.in_ok-push.ensures c.loop-each.invariant)
      | else-contains w ↦
          rw w.webs-is (webs_skip g cs i c.args.place item c.loop-each.webs c.loop-each-test.true c.each-item.is (λ h. clash c.contains.result w.if-contains.false (c.contains.ensures.1 h)) c.loop-each.invariant)
    ]
