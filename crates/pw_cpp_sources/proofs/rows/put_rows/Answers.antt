use Rattle.pw_cpp_sources.proofs.InRows.{behind-first, rows-on}
use Rattle.pw_cpp_sources.proofs.rows.put_rows.Goals as goal

pub loop-places-preserved : goal.loop-places-preserved
loop-places-preserved c =
    rows-on c.args.source.now c.args.rows.now c.args.tokens.now c.args.out.now.items c.loop-places.places.now c.loop-places.left.now c.loop-places.out.items c.loop-places.invariant
    c.in-len1-up.len_at_least _ (behind-first c.loop-places.places.now) c.first_row.result c.first_row.ensures c.row_len-count.result c.row_len-count.ensures.value c.tokens_before.result.now
    c.tokens_before.ensures c.put_row.new.out.items c.in_ok-put_row.ensures c.tokens_from-left.result.now c.tokens_from-left.ensures
