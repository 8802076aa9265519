use Rattle.std.proofs.Common.{List, Bool, length, sym, subst}
use Rattle.pw_where.specs.Calls.{entries_of, text_end, Tells}
use Rattle.pw_where.proofs.Tables.{entries_within, tells_marked, within_length}
use Rattle.pw_where.proofs.entries.table_of.Goals as goal

pub returns : goal.returns
returns c =
    let xs = entries_of c.args.functions.now in
    let table = c.in_ok-table.table.items in
    subst (λ (t : List Bool). Tells t xs) (sym c.mark_all.ensures)
    (tells_marked xs table c.in_ok-table.ensures.none (within_length xs text_end (length table) c.in_ok-table.ensures.length (entries_within text_end c.args.functions.now c.requires)))
