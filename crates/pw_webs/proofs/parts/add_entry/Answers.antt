use Rattle.std.proofs.Common.{refl, inl, inr}
use Rattle.pw_webs.proofs.RegionLaws.{if_true, if_false}
use Rattle.pw_webs.proofs.parts.add_entry.Goals as goal

pub returns-then-is_any_within-clause-others : goal.returns-then-is_any_within-clause-others
returns-then-is_any_within-clause-others c = inr (if_true c.is_any_within.result _ _ c.is_any_within.ensures c.if-is_any_within.true)

pub returns-then-is_any_within-clause-added : goal.returns-then-is_any_within-clause-added
returns-then-is_any_within-clause-added c = λ f h. inl h

pub returns-then-is_any_within-clause-kept : goal.returns-then-is_any_within-clause-kept
returns-then-is_any_within-clause-kept c = λ f h. h

pub returns-clause-kept : goal.returns-clause-kept
returns-clause-kept c = λ f h. (c.insert.ensures.holds f).1 (inr h)

pub returns-clause-added : goal.returns-clause-added
returns-clause-added c = λ f h. elim ((c.insert.ensures.holds f).0 h) [
  | inl e ↦ inr (e, if_false c.is_any_within.result _ _ c.is_any_within.ensures c.if-is_any_within.false)
  | inr k ↦ inl k
]

pub returns-clause-others : goal.returns-clause-others
returns-clause-others c = inl ((c.insert.ensures.holds c.args.place).1 (inl refl))
