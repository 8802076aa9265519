use Rattle.std.proofs.Common.{◌≡◌, ◌+◌, ◌∙◌, ℕ, List, [], ◌∷◌, ◌++◌, ap, arith}
use Rattle.std.specs.List.{range_with_len}
use Rattle.pw_cluster_roots.proofs.Lists.{range_more}
use Rattle.pw_cluster_roots.proofs.rounds.own_roots.Goals as goal

pub loop-place-preserved : goal.loop-place-preserved
loop-place-preserved c =
    let n : ℕ = c.loop-place.place in
    let same : n ≡ 0 + n = omega arith in
    c.in_ok-push.ensures.items ∙ ap (λ (xs : List ℕ). xs ++ n ∷ []) c.loop-place.invariant ∙ ap (λ (k : ℕ). range_with_len 0 n ++ k ∷ []) same ∙ range_more 0 n
