use Rattle.std.proofs.Common.{position, bytes_eq, ap, ◌∙◌}
use Rattle.pw_check_names.proofs.LinkedLemmas.{position_linked}
use Rattle.pw_check_names.proofs.linked.LinkedNames.position.Goals as goal

pub returns : goal.returns
returns c =
    c.position.ensures
    ∙ ap (position (bytes_eq c.args.name.now)) c.args.self.now.named
    ∙ position_linked c.args.name.now c.args.self.now.items.items
