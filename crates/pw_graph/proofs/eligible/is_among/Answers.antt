use Rattle.std.proofs.Common.{sym, ◌∙◌}
use Rattle.pw_fields.proofs.NameTables.{found_among}
use Rattle.pw_graph.proofs.eligible.is_among.Goals as goal

pub returns : goal.returns
returns c = c.is_some.ensures ∙ sym (found_among c.args.names.now c.args.name.now c.find_name.result c.find_name.ensures.found c.find_name.ensures.none)
