use Rattle.std.proofs.Common.{bytes_eq, ap, ◌∙◌}
use Rattle.std.specs.List.{list_any}
use Rattle.pw_check_records.proofs.NameLemmas.{any_named}
use Rattle.pw_check_records.proofs.members.MemberList.contains.Goals as goal

pub returns : goal.returns
returns c =
    c.contains.ensures
    ∙ ap (list_any (bytes_eq c.args.name.now)) c.args.self.now.named
    ∙ any_named c.args.name.now c.args.self.now.items.items
