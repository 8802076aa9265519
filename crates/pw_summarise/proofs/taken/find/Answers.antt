use Rattle.std.proofs.Common.{ℕ, List, nat_cmp, rules, sym}
use Rattle.std.specs.Cmp.Lexicographic.{slice_cmp}
use Rattle.std.proofs.lemmas.Fn.{always_returns_same}
use Rattle.pw_files.proofs.Searches.{found, found_none}
use Rattle.pw_summarise.proofs.ShapeLaws.{shape_at, none_there}
use Rattle.pw_summarise.proofs.taken.find.Goals as goal

pub returns-in-Ok : goal.returns-in-Ok
returns-in-Ok c =
    sym (shape_at c.args.list.now c.args.name.now c.in-Ok.place c.index-list-place.result c.requires c.in-Ok.ensures.bound
    (found (λ (f : List ℕ × List ℕ). f.0) c.args.list.now c.args.name.now c.in-Ok.place
    (c.in-Ok.ensures.position (λ f. slice_cmp nat_cmp f.0 c.args.name.now) (always_returns_same _ _ _ (λ a r f h. (search rules, search rules))))))

pub returns-in-Err : goal.returns-in-Err
returns-in-Err c =
    sym (none_there c.args.list.now c.args.name.now
    (found_none (λ (f : List ℕ × List ℕ). f.0) c.args.list.now c.args.name.now c.in-Err.field-0 c.requires
    (c.in-Err.ensures.position (λ f. slice_cmp nat_cmp f.0 c.args.name.now) (always_returns_same _ _ _ (λ a r f h. (search rules, search rules))))))
