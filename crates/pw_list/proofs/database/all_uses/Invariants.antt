use Rattle.std.proofs.Common.{◌≡◌, map, take}
use Rattle.pw_db.specs.declared.database.Role.TheVariants.{Entry, Member}
use Rattle.pw_list.specs.DatabaseText.{uses}
use Rattle.pw_list.specs.Gathering.{use_view}
use Rattle.pw_list.proofs.database.all_uses.Given as goal

abbrev pub invariant-loop-function : goal.invariant-loop-function
invariant-loop-function l = record {
  entries : map use_view l.uses.entries.items ≡ uses Entry (take l.function-index l.functions);
  members : map use_view l.uses.members.items ≡ uses Member (take l.function-index l.functions);
}
