use Rattle.std.proofs.Common.{◌≡◌, ◌≤◌, ◌++◌, drop, length, map}
use Rattle.pw_list.specs.Gathering.{lines_from, use_view}
use Rattle.pw_list.proofs.database.push_webs.Given as goal

abbrev pub invariant-loop-web : goal.invariant-loop-web
invariant-loop-web l = record {
  entries : l.first_entry ≤ length l.uses.entries.items;
  members : l.first_member ≤ length l.uses.members.items;
  written : l.out.items ++ lines_from (map (λ w. w.now) l.web-iterator) (drop l.first_entry (map use_view l.uses.entries.items)) (drop l.first_member (map use_view l.uses.members.items))
      ≡ l.fn.out.items ++ lines_from (map (λ e. e.1.now) l.fn.webs.entries) (map use_view l.uses.entries.items) (map use_view l.uses.members.items);
}
