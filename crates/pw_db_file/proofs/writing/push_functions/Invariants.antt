use Rattle.std.proofs.Common.{◌≡◌, ◌++◌, take, ◌<◌, get_or, ℕ, map, Bor}
use Rattle.std.specs.List.{flat_map}
use Rattle.pw_value.specs.declared.name.Name.{Name}
use Rattle.pw_db.specs.declared.database.Directives.{Directives}
use Rattle.pw_db_file.specs.Spelling.{function, FitsFunction}
use Rattle.pw_db_file.proofs.writing.push_functions.Given as goal

abbrev pub invariant-loop-function : goal.invariant-loop-function
invariant-loop-function l = record {
  written : l.out.items ≡ l.fn.out.items ++ flat_map (function l.version l.names) (map (λ f. f.now) (take l.function-index l.functions));
  fits : (k : ℕ) → k < l.function-index → (d : Bor (Name × Directives)) → FitsFunction (get_or l.functions k d).now;
}
