use Rattle.std.proofs.Common.{◌≡◌, List, Option, subst, sym}
use Rattle.std.specs.Borrow.{Bor}
use Rattle.std.specs.Prelude.{option_map}
use Rattle.pw_cpp_expand.specs.Expansion.{replaced}
use Rattle.pw_cpp_expand.specs.Numbered.{IsAdded, all_named}
use Rattle.pw_cpp_expand.specs.declared.progress.Lexeme.{Lexeme}
use Rattle.pw_cpp_expand.proofs.Results.{added-one}
use Rattle.pw_cpp_expand.proofs.result.push_replaced.Goals as goal
use Rattle.pw_cpp_sets.specs.Sets.{set_at}

pub returns-in_default : goal.returns-in_default
returns-in_default c =
    let P : Option (Bor (List Lexeme)) → Type 0 = λ x.
    IsAdded c.args.sets.now c.args.made.now c.args.sets.now c.push.new.self
    (replaced (set_at c.args.sets.now c.args.replaced.hidden) c.args.replaced.place c.args.token (option_map (λ found. all_named c.args.sets.now found.now) x)) in
    subst P (sym c.in_default.is)
    (added-one c.args.sets.now c.args.made.now c.push.new.self c.args.token c.args.replaced.hidden c.args.replaced.place c.requires.made c.requires.hidden c.in_ok-push.ensures)
