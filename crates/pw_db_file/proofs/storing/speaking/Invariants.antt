use Rattle.std.proofs.Common.{◌≡◌, map, take}
use Rattle.std.specs.Prelude.{filter}
use Rattle.pw_db.specs.Database.{says_something}
use Rattle.pw_db_file.proofs.storing.speaking.Given as goal

abbrev pub invariant-loop-function : goal.invariant-loop-function
invariant-loop-function l = map (λ f. f.now) l.stored.items ≡ filter says_something (take l.function-index l.functions)
