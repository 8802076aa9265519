use Rattle.std.proofs.Common.{rules}
use Rattle.pw_cpp_sources.proofs.Joining.{behind-more}
use Rattle.pw_cpp_sources.proofs.source.source_of.Goals as goal

pub loop-text-preserved : goal.loop-text-preserved
loop-text-preserved c =
    behind-more c.args.files.now c.loop-text.text-index c.loop-text.bytes.items c.loop-text.spans.items c.loop-text.invariant c.loop-text-item.result c.loop-text-test.true c.loop-text-item.is
    c.extend_from_slice.new.self.items
    c.push-in-loop-text.new.self.items
    (record { from = c.len-from.result; end = c.len-end.result })
    (search (rules, c.in_ok-extend_from_slice.ensures.items, c.as_slice.ensures.value, c.in_ok-push.ensures.items))
    c.in_ok-push-2.ensures.items
    (search (rules, c.len-from.ensures, c.in_ok-push.ensures.items))
    (search (rules, c.len-end.ensures))
