use Rattle.std.proofs.Common.{ℕ, List, subst}
use Rattle.pw_summarise.specs.Summarises.{IsOrdered}
use Rattle.pw_summarise.proofs.Orders.{freed_ordered}
use Rattle.pw_summarise.proofs.shapes.called_shapes.Goals as goal

pub returns : goal.returns
returns c =
    let source = rw (c.new-shapes.ensures.items, c.as_slice.ensures) at c.in_ok-add_blocks.ensures in
    rw c.from_vec.ensures (subst (λ (texts : List (List ℕ)). IsOrdered (λ text. text) texts c.dedup.new.self.items) source
    (freed_ordered c.add_blocks.new.shapes.items c.sort_unstable.new.self.items c.dedup.new.self.items c.sort_unstable.ensures.permutation c.sort_unstable.ensures.sorted c.dedup.ensures.filtered))
