use Rattle.std.proofs.Common.{inl, inr}
use Rattle.pw_alloc_taken.proofs.given.with_param.Goals as goal

pub returns-then-is_param : goal.returns-then-is_param
returns-then-is_param c = λ k. (
  λ h. elim ((c.with_register.ensures k).0 h) [ inl old ↦ inl old | inr same ↦ inr (c.if-is_param.true, same) ],
  λ h. (c.with_register.ensures k).1 (elim h [ inl old ↦ inl old | inr new ↦ inr new.1 ]),
)

pub returns-else-is_param : goal.returns-else-is_param
returns-else-is_param c = λ k. (λ h. inl h, λ h. elim h [ inl old ↦ old | inr new ↦ absurd (let clash = new.0 in let none = c.if-is_param.false in cc) ])
