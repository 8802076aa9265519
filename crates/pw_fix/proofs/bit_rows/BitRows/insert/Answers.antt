use Rattle.std.proofs.Common.{vec_len}
use Rattle.std.proofs.lemmas.Option.{slice_get_read}
use Rattle.pw_fix.proofs.Tables.{insert_row, row_at}
use Rattle.pw_fix.proofs.bit_rows.BitRows.insert.Goals as goal

pub returns-clause-holds : goal.returns-clause-holds
returns-clause-holds c =
    let rows = c.args.self.now.rows in
    let old = c.index_mut.result.now in
    insert_row rows.items c.args.n c.args.i old c.insert.new.self (slice_get_read rows.items (vec_len rows) c.args.n old rows.ok.0 c.requires.row c.index_mut.ensures.value) c.insert.ensures.holds

pub returns-clause-added : goal.returns-clause-added
returns-clause-added c =
    let rows = c.args.self.now.rows in
    let old = c.index_mut.result.now in
    let there = slice_get_read rows.items (vec_len rows) c.args.n old rows.ok.0 c.requires.row c.index_mut.ensures.value in
    ((λ t h. c.insert.ensures.added.0 t (row_at rows.items c.args.n c.args.i old there h)), (λ no. c.insert.ensures.added.1 (λ h. no (old, there, h))))
