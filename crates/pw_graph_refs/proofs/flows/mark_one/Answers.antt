use Rattle.std.proofs.Common.{inl, inr}
use Rattle.std.proofs.lemmas.Bool.{both_ways}
use Rattle.pw_graph_refs.proofs.flows.mark_one.Goals as goal

pub returns-then-not-has_weight-clause-holds : goal.returns-then-not-has_weight-clause-holds
returns-then-not-has_weight-clause-holds c = λ n v. (λ h. inl h, λ h. elim h [ inl k ↦ k | inr w ↦ absurd (both_ways c.has_weight.result c.if-not-has_weight.true (c.has_weight.ensures.1 w.2)) ])

pub returns-clause-holds : goal.returns-clause-holds
returns-clause-holds c = λ n v. (
  λ h. elim ((c.insert.ensures.holds n v).0 h) [ inl w ↦ inr (w.0, w.1, c.has_weight.ensures.0 c.if-not-has_weight.false) | inr k ↦ inl k ],
  λ h. elim h [ inl k ↦ (c.insert.ensures.holds n v).1 (inr k) | inr w ↦ (c.insert.ensures.holds n v).1 (inl (w.0, w.1)) ],
)
