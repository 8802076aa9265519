use Rattle.std.proofs.Common.{◌≡◌, ℕ, List, [], All, vec_len}
use Rattle.pw_alloc_taken.proofs.facts.no_definitions.Given as goal

abbrev pub invariant-loop : goal.invariant-loop
invariant-loop l = record {
  count : vec_len l.rows ≡ l.counter;
  none : All (λ (row : List ℕ). row ≡ []) l.rows.items;
}
