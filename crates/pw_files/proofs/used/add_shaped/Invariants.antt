use Rattle.std.proofs.Common.{◌≡◌, ◌++◌, map, take}
use Rattle.pw_files.proofs.used.add_shaped.Given as goal

abbrev pub invariant-loop-item : goal.invariant-loop-item
invariant-loop-item l = map (λ name. name.now) l.used.items ≡ map (λ name. name.now) l.fn.used.items ++ map (λ f. f.0) (take l.item-index l.items)
