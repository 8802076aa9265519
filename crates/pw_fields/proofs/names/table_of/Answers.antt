use Rattle.pw_fields.proofs.NameTables.{table_result}
use Rattle.pw_fields.proofs.names.table_of.Goals as goal

pub returns : goal.returns
returns c =
    let made = c.distinct.ensures.made in
    table_result (λ name. name.now) c.args.used.items c.sort_unstable.new.self.items c.distinct.result c.sort_unstable.ensures.permutation c.sort_unstable.ensures.sorted
    (rw (← c.deref.ensures.value) made) (rw (← c.deref.ensures.value) c.distinct.ensures.lengths)
