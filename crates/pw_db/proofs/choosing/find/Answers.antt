use Rattle.std.proofs.Common.{nat_cmp, subst}
use Rattle.std.specs.Prelude.{Contains}
use Rattle.pw_value.specs.declared.name.Name.{Name}
use Rattle.pw_db.specs.declared.database.Directives.{Directives}
use Rattle.std.proofs.Common.{rules}
use Rattle.std.specs.Cmp.Lexicographic.{slice_cmp}
use Rattle.std.proofs.lemmas.Fn.{always_returns_same}
use Rattle.pw_files.proofs.Searches.{found_none}
use Rattle.pw_db.proofs.ChoosingLaws.{found_at}
use Rattle.pw_db.proofs.choosing.find.Goals as goal

pub returns-in-Ok-clause-found : goal.returns-in-Ok-clause-found
returns-in-Ok-clause-found c =
    subst (λ (f : Name × Directives). Contains c.args.functions.now (c.args.name.now, f.1)) c.index-functions-place.is
    (found_at c.args.functions.now c.args.name.now c.in-Ok.place c.index-functions-place.result c.in-Ok.ensures.bound
    (c.in-Ok.ensures.position (λ f. slice_cmp nat_cmp f.0 c.args.name.now) (always_returns_same _ _ _ (λ a r f h. (search rules, search rules)))) c.index-functions-place.is)

pub returns-in-Err-clause-none : goal.returns-in-Err-clause-none
returns-in-Err-clause-none c =
    found_none (λ f. f.0) c.args.functions.now c.args.name.now c.in-Err.field-0 c.requires
    (c.in-Err.ensures.position (λ f. slice_cmp nat_cmp f.0 c.args.name.now) (always_returns_same _ _ _ (λ a r f h. (search rules, search rules))))
