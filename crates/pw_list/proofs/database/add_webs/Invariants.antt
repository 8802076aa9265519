use Rattle.std.proofs.Common.{◌≡◌, map, take}
use Rattle.std.specs.Prelude.{fold}
use Rattle.pw_list.specs.Gathering.{entry_view, with_entry}
use Rattle.pw_list.proofs.database.add_webs.Given as goal

abbrev pub invariant-loop-web : goal.invariant-loop-web
invariant-loop-web l = map entry_view l.known.entries ≡ fold with_entry (map entry_view l.fn.known.entries) (map (λ w. w.0) (take l.web-index l.webs))
