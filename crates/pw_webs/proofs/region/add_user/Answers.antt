use Rattle.std.proofs.Common.{inl, inr}
use Rattle.pw_webs.proofs.WalkLaws.{clash}
use Rattle.pw_webs.proofs.region.add_user.Goals as goal

pub returns-then-not-is_user-clause-holds : goal.returns-then-not-is_user-clause-holds
returns-then-not-is_user-clause-holds c = λ f. (λ h. inl h, λ h. elim h [ inl k ↦ k | inr w ↦ absurd (clash c.is_user.result c.if-not-is_user.true (c.is_user.ensures.1 w.1)) ])

pub returns-clause-holds : goal.returns-clause-holds
returns-clause-holds c = λ f. (
  λ h. elim ((c.insert.ensures.holds f).0 h) [ inl e ↦ inr (e, c.is_user.ensures.0 c.if-not-is_user.false) | inr k ↦ inl k ],
  λ h. elim h [ inl k ↦ (c.insert.ensures.holds f).1 (inr k) | inr w ↦ (c.insert.ensures.holds f).1 (inl w.0) ],
)
