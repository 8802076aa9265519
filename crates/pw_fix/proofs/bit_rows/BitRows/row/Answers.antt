use Rattle.std.proofs.Common.{◌≡◌, vec_len}
use Rattle.std.proofs.lemmas.Option.{slice_get_read}
use Rattle.pw_fix.specs.declared.bit_row.BitRow.{BitRow}
use Rattle.pw_fix.proofs.Places.{All-at}
use Rattle.pw_fix.proofs.Tables.{row_at}
use Rattle.pw_fix.proofs.bit_rows.BitRows.row.Goals as goal

pub returns-clause-length : goal.returns-clause-length
returns-clause-length c =
    let table = c.args.self.now in
    let row = c.index.result.now in
    All-at (λ (r : BitRow). r.len ≡ table.len) table.rows.items c.args.n row table.uniform (slice_get_read table.rows.items (vec_len table.rows) c.args.n row table.rows.ok.0 c.requires c.index.ensures)

pub returns-clause-holds : goal.returns-clause-holds
returns-clause-holds c = λ i.
    let table = c.args.self.now in
    let row = c.index.result.now in
    let there = slice_get_read table.rows.items (vec_len table.rows) c.args.n row table.rows.ok.0 c.requires c.index.ensures in
    ((λ h. (row, there, h)), (λ h. row_at table.rows.items c.args.n i row there h))
