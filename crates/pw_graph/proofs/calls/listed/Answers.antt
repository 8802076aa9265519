use Rattle.std.proofs.Common.{◌∙◌}
use Rattle.pw_graph.proofs.Members.{members_below}
use Rattle.pw_graph.proofs.calls.listed.Goals as goal

pub narrowed-requires : goal.narrowed-requires
narrowed-requires c = members_below c.args.row.now c.deref.result.now 4294967296 c.requires (c.deref.ensures.value ∙ c.in_ok-places.ensures)
