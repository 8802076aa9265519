use Rattle.std.proofs.Common.{inl, inr}
use Rattle.pw_webs.proofs.RegionLaws.{if_true, if_false}
use Rattle.pw_webs.proofs.region.add_called.Goals as goal

pub returns-then-not-is_any_within-clause-holds : goal.returns-then-not-is_any_within-clause-holds
returns-then-not-is_any_within-clause-holds c = λ f. (λ h. inl h, λ h. elim h [ inl k ↦ k | inr w ↦ absurd (if_false c.is_any_within.result _ _ c.is_any_within.ensures c.if-not-is_any_within.true w.1.0 w.1.1 w.1.2) ])

pub returns-clause-holds : goal.returns-clause-holds
returns-clause-holds c = λ f. (
  λ h. elim ((c.add_row.ensures.holds f).0 h) [ inl k ↦ inl k | inr k ↦ inr (k, if_true c.is_any_within.result _ _ c.is_any_within.ensures c.if-not-is_any_within.false) ],
  λ h. elim h [ inl k ↦ (c.add_row.ensures.holds f).1 (inl k) | inr w ↦ (c.add_row.ensures.holds f).1 (inr w.0) ],
)
