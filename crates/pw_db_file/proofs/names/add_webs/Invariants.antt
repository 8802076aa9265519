use Rattle.std.proofs.Common.{◌≡◌, ◌++◌, map, take}
use Rattle.pw_db_file.proofs.names.add_webs.Given as goal

abbrev pub invariant-loop-web : goal.invariant-loop-web
invariant-loop-web l = map (λ name. name.now) l.used.items ≡ map (λ name. name.now) l.fn.used.items ++ map (λ w. w.global) (map (λ w. w.0) (take l.web-index l.webs))
