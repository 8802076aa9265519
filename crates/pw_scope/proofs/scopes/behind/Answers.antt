use Rattle.std.proofs.Common.{◌≡◌, ◌-◌, ◌≤◌, length, take, drop, map, refl, sym, ap, ◌∙◌, arith}
use Rattle.std.proofs.Math.ListN.{length-drop}
use Rattle.std.proofs.lemmas.List.{drop-map, take_all}
use Rattle.pw_scope.specs.Log.{declared_by}
use Rattle.pw_scope.proofs.scopes.behind.Goals as goal

pub returns-then-len-entries : goal.returns-then-len-entries
returns-then-len-entries g c =
    let short : length (drop c.args.len c.args.entries.now) ≤ length c.args.entries.now - c.args.len = omega (arith, length-drop c.args.len c.args.entries.now) in
    ap declared_by (take_all _ (drop c.args.len c.args.entries.now) short) ∙ sym (drop-map _ c.args.len c.args.entries.now)
