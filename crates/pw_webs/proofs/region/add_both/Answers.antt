use Rattle.std.proofs.Common.{inl, inr}
use Rattle.pw_webs.proofs.WalkLaws.{clash}
use Rattle.pw_webs.proofs.region.add_both.Goals as goal

pub returns-then-not-contains-clause-holds : goal.returns-then-not-contains-clause-holds
returns-then-not-contains-clause-holds c = λ f. (λ h. inl h, λ h. elim h [ inl k ↦ k | inr w ↦ absurd (clash c.contains.result c.if-not-contains.true (c.contains.ensures.1 w.1)) ])

pub returns-then-not-contains-2-clause-holds : goal.returns-then-not-contains-2-clause-holds
returns-then-not-contains-2-clause-holds c = λ f. (λ h. inl h, λ h. elim h [ inl k ↦ k | inr w ↦ absurd (clash c.contains-2.result c.if-not-contains-2.true (c.contains-2.ensures.1 w.2)) ])

pub returns-clause-holds : goal.returns-clause-holds
returns-clause-holds c = λ f. (
  λ h. elim ((c.insert.ensures.holds f).0 h) [ inl e ↦ inr (e, c.contains.ensures.0 c.if-not-contains.false, c.contains-2.ensures.0 c.if-not-contains-2.false) | inr k ↦ inl k ],
  λ h. elim h [ inl k ↦ (c.insert.ensures.holds f).1 (inr k) | inr w ↦ (c.insert.ensures.holds f).1 (inl w.0) ],
)
