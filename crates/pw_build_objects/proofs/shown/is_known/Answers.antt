use Rattle.std.proofs.Common.{List, ℕ, sym, subst, ◌∙◌, inl, inr}
use Rattle.std.specs.Prelude.{Contains}
use Rattle.pw_build_objects.proofs.ShownLaws.{found_by_halves, plain_view}
use Rattle.pw_build_objects.proofs.shown.is_known.Goals as goal

pub returns-then-is_ok : goal.returns-then-is_ok
returns-then-is_ok c = λ t.
    let found = found_by_halves (λ x. x) c.args.used.now c.args.name.now c.binary_search.result (sym c.is_ok.ensures.value ∙ c.if-is_ok.true) c.binary_search.ensures.bound c.binary_search.ensures.ok in
    inl (subst (λ (ns : List (List ℕ)). Contains ns c.args.name.now) (plain_view c.args.used.now) found)

pub returns-else-is_ok : goal.returns-else-is_ok
returns-else-is_ok c = λ t. inr (found_by_halves (λ global. global.now) c.args.globals.now c.args.name.now c.binary_search-else-is_ok.result (sym c.is_ok-else-is_ok.ensures.value ∙ t) c.binary_search-else-is_ok.ensures.bound c.binary_search-else-is_ok.ensures.ok)
