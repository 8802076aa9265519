use Rattle.std.proofs.Common.{◌≡◌, All, map, take}
use Rattle.pw_db.specs.Database.{HasDirectives}
use Rattle.pw_db.proofs.choosing.of_module.Given as goal

abbrev pub invariant-loop-name : goal.invariant-loop-name
invariant-loop-name l = record {
  names : map (λ f. f.0) l.all.items ≡ take l.name-index l.functions;
  directives : All (λ f. HasDirectives l.db.functions f) l.all.items;
}
