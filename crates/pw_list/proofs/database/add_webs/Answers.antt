use Rattle.std.proofs.Common.{map, ap, ◌∙◌}
use Rattle.pw_list.specs.Gathering.{entry_view}
use Rattle.pw_list.proofs.Gathered.{inserted_view, web_added}
use Rattle.pw_list.proofs.database.add_webs.Goals as goal

pub loop-web-preserved : goal.loop-web-preserved
loop-web-preserved c =
    web_added (map entry_view c.args.known.now.entries) c.args.webs.now c.loop-web.web-index c.web-item.result (map entry_view c.loop-web.known.entries) (map entry_view c.insert.new.self.entries)
    c.loop-web-test.true c.web-item.is c.loop-web.invariant (ap (map entry_view) c.in_ok-insert.ensures.entries ∙ inserted_view _ _ c.loop-web.known.entries)
