use Rattle.std.proofs.Common.{◌++◌, ℕ, List, map, take}
use Rattle.pw_link.specs.Layout.{global_site}
use Rattle.pw_link.specs.Views.{standing_view, Tells}
use Rattle.pw_link.proofs.sites.add_data.Given as goal

abbrev pub invariant-loop-each : goal.invariant-loop-each
invariant-loop-each l = (sites : List (List ℕ × ℕ)) → Tells l.fn.names.entries sites → Tells l.names.entries (sites ++ map (global_site l.start) (map standing_view (take l.each-index l.objects)))
