use Rattle.std.proofs.Common.{ℕ, List, nat_cmp, rules}
use Rattle.std.specs.Cmp.Lexicographic.{slice_cmp}
use Rattle.std.proofs.lemmas.Fn.{always_returns_same}
use Rattle.pw_files.proofs.Searches.{found, found_none}
use Rattle.pw_summarise.proofs.weights.find.Goals as goal

pub returns-in-Ok-clause-found : goal.returns-in-Ok-clause-found
returns-in-Ok-clause-found c =
    found (λ (r : List ℕ × ℕ × ℕ). r.0) c.args.refs.now c.args.name.now c.in-Ok.place
    (c.in-Ok.ensures.position (λ r. slice_cmp nat_cmp r.0 c.args.name.now) (always_returns_same _ _ _ (λ a r f h. (search rules, search rules))))

pub returns-in-Err-clause-none : goal.returns-in-Err-clause-none
returns-in-Err-clause-none c =
    found_none (λ (r : List ℕ × ℕ × ℕ). r.0) c.args.refs.now c.args.name.now c.in-Err.field-0 c.requires
    (c.in-Err.ensures.position (λ r. slice_cmp nat_cmp r.0 c.args.name.now) (always_returns_same _ _ _ (λ a r f h. (search rules, search rules))))
