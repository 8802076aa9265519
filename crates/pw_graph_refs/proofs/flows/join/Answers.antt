use Rattle.std.proofs.Common.{vec_len}
use Rattle.std.proofs.lemmas.Option.{slice_get_read}
use Rattle.pw_graph_refs.proofs.Flowing.{join_row}
use Rattle.pw_graph_refs.proofs.flows.join.Goals as goal

pub returns-clause-holds : goal.returns-clause-holds
returns-clause-holds c =
    let rows = c.args.table.now.rows in
    let old = c.index_mut.result.now in
    join_row rows.items c.args.place old c.union_with.new.self c.args.row.now (slice_get_read rows.items (vec_len rows) c.args.place old rows.ok.0 c.requires.place c.index_mut.ensures.value) c.union_with.ensures.holds
