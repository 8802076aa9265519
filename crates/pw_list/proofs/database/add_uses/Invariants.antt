use Rattle.std.proofs.Common.{◌≡◌, ◌++◌, map, take}
use Rattle.std.specs.Prelude.{filter}
use Rattle.pw_db.specs.declared.database.Role.TheVariants.{Entry, Member}
use Rattle.pw_list.specs.DatabaseText.{has_role}
use Rattle.pw_list.specs.Gathering.{use_view}
use Rattle.pw_list.proofs.database.add_uses.Given as goal

abbrev pub invariant-loop-web : goal.invariant-loop-web
invariant-loop-web l = record {
  entries : map use_view l.uses.entries.items ≡ map use_view l.fn.uses.entries.items ++ map (λ w. (w.0.id, l.function.0)) (filter (λ w. has_role Entry w.1) (take l.web-index l.webs));
  members : map use_view l.uses.members.items ≡ map use_view l.fn.uses.members.items ++ map (λ w. (w.0.id, l.function.0)) (filter (λ w. has_role Member w.1) (take l.web-index l.webs));
}
