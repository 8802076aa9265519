use Rattle.std.proofs.Common.{◌++◌, ℕ, List, map, take}
use Rattle.pw_link.specs.Layout.{function_site}
use Rattle.pw_link.specs.Views.{placed_view, Tells}
use Rattle.pw_link.proofs.sites.add_text.Given as goal

abbrev pub invariant-loop-each : goal.invariant-loop-each
invariant-loop-each l = (sites : List (List ℕ × ℕ)) → Tells l.fn.names.entries sites → Tells l.names.entries (sites ++ map function_site (map placed_view (take l.each-index l.text)))
