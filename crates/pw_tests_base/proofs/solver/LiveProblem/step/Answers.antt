use Rattle.std.proofs.Common.{ℕ, inl, inr}
use Rattle.pw_tests_base.proofs.solver.LiveProblem.step.Goals as goal

pub returns-clause-outflow : goal.returns-clause-outflow
returns-clause-outflow c = λ k.
    let joined = c.union_with.ensures.holds k in
    let left = c.subtract.ensures.holds k in
    let copied = c.copy_from.ensures.holds k in
    let writes = c.row.ensures.holds k in
    let reads = c.row-2.ensures.holds k in (
      (λ h. elim (joined.0 h) [ inl m ↦ inl (copied.0 (left.0 m).0, (λ w. (left.0 m).1 (writes.1 w))) | inr r ↦ inr (reads.0 r) ]),
      elim [ inl w ↦ joined.1 (inl (left.1 (copied.1 w.0, (λ r. w.1 (writes.0 r))))) | inr w ↦ joined.1 (inr (reads.1 w)) ],
    )
