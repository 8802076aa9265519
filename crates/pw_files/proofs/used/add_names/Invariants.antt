use Rattle.std.proofs.Common.{◌≡◌, ◌++◌, map, take}
use Rattle.pw_files.proofs.used.add_names.Given as goal

abbrev pub invariant-loop-name : goal.invariant-loop-name
invariant-loop-name l = map (λ name. name.now) l.used.items ≡ map (λ name. name.now) l.fn.used.items ++ take l.name-index l.names
