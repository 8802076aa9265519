use Rattle.pw_summarise.proofs.names.function_names.Goals as goal

pub returns : goal.returns
returns c = rw c.from_vec.ensures (rw (c.in_ok-add_blocks.ensures, c.new-names.ensures.items, c.as_slice.ensures) at c.in_ok-table_of.ensures)
