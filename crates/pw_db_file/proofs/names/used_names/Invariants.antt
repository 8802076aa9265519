use Rattle.std.proofs.Common.{◌≡◌, map, take}
use Rattle.pw_db_file.specs.Spelling.{names_of}
use Rattle.pw_db_file.proofs.names.used_names.Given as goal

abbrev pub invariant-loop-function : goal.invariant-loop-function
invariant-loop-function l = map (λ name. name.now) l.used.items ≡ names_of (map (λ f. f.now) (take l.function-index l.functions))
