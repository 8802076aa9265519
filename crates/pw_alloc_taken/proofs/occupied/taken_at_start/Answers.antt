use Rattle.std.proofs.Common.{inl, inr}
use Rattle.std.proofs.lemmas.Bool.{both_ways}
use Rattle.pw_alloc_masks.proofs.Joining.{zero_mask}
use Rattle.pw_alloc_taken.proofs.occupied.taken_at_start.Goals as goal

pub returns-then-is_param : goal.returns-then-is_param
returns-then-is_param c = λ k. (
  λ h. elim ((c.both.ensures k).0 h) [ inl p ↦ inl (inl c.if-is_param.true, p) | inr s ↦ inr (c.if-is_param.true, s) ],
  λ h. (c.both.ensures k).1 (elim h [ inl p ↦ inl p.1 | inr s ↦ inr s.1 ]),
)

pub returns-then-is_live : goal.returns-then-is_live
returns-then-is_live c = λ k. (
  λ h. inl (inr c.if-is_live.true, h),
  λ h. elim h [ inl p ↦ p.1 | inr s ↦ absurd (both_ways c.args.is_param c.if-is_param.false s.0) ],
)

pub returns : goal.returns
returns c = λ k. (
  λ h. absurd (zero_mask k h),
  λ h. elim h [
    | inl p ↦ elim p.0 [
      | inl a ↦ absurd (both_ways c.args.is_param c.if-is_param.false a)
      | inr b ↦ absurd (both_ways c.args.is_live c.if-is_live.false b)
    ]
    | inr s ↦ absurd (both_ways c.args.is_param c.if-is_param.false s.0)
  ],
)
