use Rattle.std.proofs.Common.{vec_len}
use Rattle.std.proofs.lemmas.Option.{slice_get_read}
use Rattle.pw_fix.proofs.Tables.{row_at}
use Rattle.pw_fix.proofs.bit_rows.BitRows.contains.Goals as goal

pub returns : goal.returns
returns c =
    let rows = c.args.self.now.rows in
    let row = c.index.result.now in
    let there = slice_get_read rows.items (vec_len rows) c.args.n row rows.ok.0 c.requires c.index.ensures in
    ((λ t. (row, there, c.contains.ensures.0 t)), (λ h. c.contains.ensures.1 (row_at rows.items c.args.n c.args.i row there h)))
