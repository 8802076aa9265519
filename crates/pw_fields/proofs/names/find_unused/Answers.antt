use Rattle.std.proofs.Common.{◌∙◌}
use Rattle.pw_fields.proofs.NameTables.{unused_alike}
use Rattle.pw_fields.proofs.names.find_unused.Goals as goal

pub returns : goal.returns
returns c = c.first_outside.ensures ∙ rw c.deref.ensures.value (unused_alike c.args.names.now c.in_ok-wanted.wanted.items _ c.args.behind c.in_ok-wanted.ensures)
