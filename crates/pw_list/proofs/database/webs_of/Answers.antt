use Rattle.std.proofs.Common.{map, ap, sym, ◌∙◌}
use Rattle.pw_list.specs.Gathering.{entry_view}
use Rattle.pw_list.proofs.Gathered.{entries_empty, function_added}
use Rattle.pw_list.proofs.database.webs_of.Goals as goal

pub loop-function-init : goal.loop-function-init
loop-function-init c = ap (map entry_view) c.new-webs.ensures.empty ∙ sym entries_empty

pub loop-function-preserved : goal.loop-function-preserved
loop-function-preserved c =
    function_added c.args.functions.now c.loop-function.function-index c.function-item.result (map entry_view c.loop-function.webs.entries) (map entry_view c.add_webs.new.known.entries) c.as_slice.result.now
    c.loop-function-test.true c.function-item.is c.loop-function.invariant c.as_slice.ensures c.in_ok-add_webs.ensures
