use Rattle.pw_flow.specs.FlowGraph.{named_in}
use Rattle.pw_summarise.proofs.Orders.{table_ordered}
use Rattle.pw_summarise.proofs.making.interface_of.Goals as goal

pub returns : goal.returns
returns c = record {
  declared = rw c.as_slice.ensures at c.in_ok-declared.ensures;
  used = table_ordered c.in_ok-used.used (named_in c.args.flow.now) c.in_ok-used.ensures;
}
