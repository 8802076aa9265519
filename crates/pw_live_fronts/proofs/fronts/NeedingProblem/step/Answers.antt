use Rattle.std.proofs.Common.{inl, inr}
use Rattle.pw_live_fronts.proofs.fronts.NeedingProblem.step.Goals as goal

pub returns-clause-outflow : goal.returns-clause-outflow
returns-clause-outflow c = λ i. (
  λ h. elim ((c.union_with.ensures.holds i).0 h) [
    | inl k ↦ let s = (c.subtract.ensures.holds i).0 k in inr ((c.copy_from.ensures.holds i).0 s.0, λ d. s.1 ((c.row.ensures.holds i).1 d))
    | inr u ↦ inl ((c.row-2.ensures.holds i).0 u)
  ],
  λ h. (c.union_with.ensures.holds i).1 (elim h [
    | inl u ↦ inr ((c.row-2.ensures.holds i).1 u)
    | inr k ↦ inl ((c.subtract.ensures.holds i).1 ((c.copy_from.ensures.holds i).1 k.0, λ d. k.1 ((c.row.ensures.holds i).0 d)))
  ]),
)
