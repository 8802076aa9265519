use Rattle.std.proofs.Common.{below_more, ap, ◌∙◌, sym}
use Rattle.std.specs.Str.{bytes_eq}
use Rattle.pw_fields.proofs.NameTables.{taken, skipped, not_true, not_false, read_on, seen_at}
use Rattle.pw_fields.proofs.names.distinct.Goals.{then-ne+in_ok-copy+in_ok-push, else-ne}
use Rattle.pw_fields.proofs.names.distinct.Goals as goal

pub loop-name-preserved : goal.loop-name-preserved
loop-name-preserved c =
    let on = read_on (λ name. name.now) c.loop-name.names.items c.loop-name.before.now c.args.sorted.now c.loop-name.name-index c.name-item.result _ c.loop-name-test.true c.name-item.is c.loop-name.invariant.made in
    record {
      made = elim c.if-ne.branch [
        | then-ne+in_ok-copy+in_ok-push w ↦ rw (w.names-is, w.before-is, w.in_ok-push.ensures.items, w.in_ok-copy.ensures, c.as_bytes-bytes.ensures.bytes)
            (taken c.loop-name.names.items c.loop-name.before.now c.name-item.result.now _ _ (ap (bytes_eq c.loop-name.before.now) (sym c.as_bytes-bytes.ensures.bytes) ∙ not_true _ w.if-ne.ensures) on)
        | else-ne w ↦ rw (w.names-is, w.before-is)
            (skipped c.loop-name.names.items c.loop-name.before.now c.name-item.result.now _ _ (ap (bytes_eq c.loop-name.before.now) (sym c.as_bytes-bytes.ensures.bytes) ∙ not_false _ w.if-ne.ensures) on)
      ];
      lengths = below_more _ _ c.loop-name.invariant.lengths (λ d. rw (seen_at (λ name. name.now) c.args.sorted.now c.loop-name.name-index c.name-item.result c.loop-name-test.true c.name-item.is d) c.as_bytes-bytes.ensures.length);
    }
