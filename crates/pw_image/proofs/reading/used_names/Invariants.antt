use Rattle.std.proofs.Common.{◌≡◌, ◌++◌, map, take}
use Rattle.pw_image.proofs.reading.used_names.Given as goal

abbrev pub invariant-loop-global : goal.invariant-loop-global
invariant-loop-global l = map (λ name. name.now) l.used.items ≡ map (λ f. f.name) l.image.functions ++ map (λ g. g.name) (take l.global-index l.image.globals)
