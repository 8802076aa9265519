use Rattle.std.proofs.Common.{◌≡◌, ◌≤◌, ◌-◌, ◌+◌, ◌∙◌, ℕ, List, [], ◌∷◌, ◌++◌, ap, arith}
use Rattle.std.specs.List.{range_with_len}
use Rattle.pw_cluster_roots.proofs.Lists.{range_more}
use Rattle.pw_cluster_roots.proofs.saving.last_registers.Goals as goal

pub loop-register-preserved : goal.loop-register-preserved
loop-register-preserved c =
    let start : ℕ = 19 - c.args.count in
    let r : ℕ = c.loop-register.register in
    let low = c.loop-register.invariant.0 in
    let here : r ≡ start + (r - start) = omega (arith, low) in
    let next : (r - start) + 1 ≡ r + 1 - start = omega (arith, low) in (
      omega (arith, low),
      c.in_ok-push.ensures ∙ ap (λ (xs : List ℕ). xs ++ r ∷ []) c.loop-register.invariant.1 ∙ ap (λ (k : ℕ). range_with_len start (r - start) ++ k ∷ []) here ∙ range_more start (r - start) ∙ ap (range_with_len start) next,
    )
