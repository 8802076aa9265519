use Rattle.std.proofs.Common.{◌≡◌, ℕ, List, [], All, vec_len}
use Rattle.pw_live_spans.proofs.walk.no_spans.Given as goal

abbrev pub invariant-loop : goal.invariant-loop
invariant-loop l = record {
  count : vec_len l.lists ≡ l.counter;
  none : All (λ (spans : List (ℕ × ℕ)). spans ≡ []) l.lists.items;
}
