use Rattle.std.proofs.Common.{ap, bytes_eq, is_some, ◌∙◌}
use Rattle.pw_check_names.proofs.Places.{position_found}
use Rattle.pw_check_names.proofs.names.NameList.contains.Goals as goal

pub returns : goal.returns
returns c = c.is_some.ensures ∙ ap is_some c.position.ensures ∙ position_found (bytes_eq c.args.name.now) c.args.self.now
