use Rattle.std.proofs.Common.{◌≡◌, ◌++◌, ℕ, List, map, take}
use Rattle.pw_link.specs.Linking.{item_at}
use Rattle.pw_link.specs.Views.{Tells}
use Rattle.pw_link.proofs.image.add_items.Given as goal

abbrev pub invariant-loop-offset : goal.invariant-loop-offset
invariant-loop-offset l = (named : List (List ℕ × ℕ)) → Tells l.sites.names.entries named → l.out ≡ l.fn.out ++ map (item_at named l.standing.offset) (take l.offset-index l.standing.global.now.items)
