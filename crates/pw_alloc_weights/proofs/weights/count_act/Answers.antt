use Rattle.std.proofs.Common.{◌≡◌, ◌<◌, ◌+◌, ◌*◌, ◌==◌, ◌∙◌, ℕ, List, All, length, sym, subst}
use Rattle.std.specs.Prelude.{Option, IfSome, slice_index}
use Rattle.std.specs.List.{count_by}
use Rattle.std.proofs.lemmas.List.Elements.{All-from_recursion}
use Rattle.pw_alloc_weights.proofs.Counting.{act_some, act_none}
use Rattle.pw_alloc_weights.proofs.weights.count_act.Goals as goal

pub count_uses-requires : goal.count_uses-requires
count_uses-requires c =
    let n = length c.args.weights.now in
    subst (λ (ts : List ℕ). All (λ t. t < n) ts) (sym c.uses.ensures) (All-from_recursion (λ t. t < n) c.args.act.now.uses c.requires.uses)

pub count-requires : goal.count-requires
count-requires c =
    subst (λ (n : ℕ). c.in-Some.t < n) (sym c.count_uses.ensures.length)
    (subst (λ (o : Option ℕ). IfSome o (λ t. t < length c.args.weights.now)) (sym c.defines.ensures ∙ c.in-Some.is) c.requires.defines)

pub returns-in_ok-count-in-Some-clause-value : goal.returns-in_ok-count-in-Some-clause-value
returns-in_ok-count-in-Some-clause-value c = λ u.
    let old = slice_index c.args.weights.now u in
    let mid = slice_index c.count_uses.new.weights u in
    let used = subst (λ (ts : List ℕ). mid ≡ old + c.args.factor * count_by (λ t. t == u) ts) c.uses.ensures (c.in_ok-count_uses.ensures.value u) in
    act_some c.args.act.now c.in-Some.t u c.args.factor old mid (slice_index c.count.new.weights u) (sym c.defines.ensures ∙ c.in-Some.is) used (c.in_ok-count-in-Some.ensures.value u)

pub returns-in-None-clause-value : goal.returns-in-None-clause-value
returns-in-None-clause-value c = λ u.
    let old = slice_index c.args.weights.now u in
    let mid = slice_index c.count_uses.new.weights u in
    let used = subst (λ (ts : List ℕ). mid ≡ old + c.args.factor * count_by (λ t. t == u) ts) c.uses.ensures (c.in_ok-count_uses.ensures.value u) in
    act_none c.args.act.now u c.args.factor old mid (sym c.defines.ensures ∙ c.in-None.is) used
