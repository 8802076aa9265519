use Rattle.std.proofs.Common.{◌≡◌, ℕ, inl, inr, sym, subst, ◌∙◌}
use Rattle.std.proofs.lemmas.Option.{same_Some}
use Rattle.pw_live_fronts.specs.Exposing.{IsNumber}
use Rattle.pw_live_fronts.proofs.marking.mark_definition.Goals as goal

pub returns-in_default-clause-holds : goal.returns-in_default-clause-holds
returns-in_default-clause-holds c = λ m i. (λ h. inl h, λ h. elim h [ inl k ↦ k | inr k ↦ absurd (c.in_default.not-Some k.1.0 k.1.1) ])

pub returns-clause-holds : goal.returns-clause-holds
returns-clause-holds c = λ m i. (
  λ h. elim ((c.mark_written.ensures.holds m i).0 h) [ inl k ↦ inl k | inr k ↦ inr (k.0, (c.in-Some.t, c.in-Some.is, k.1)) ],
  λ h. (c.mark_written.ensures.holds m i).1 (elim h [
    | inl k ↦ inl k
    | inr k ↦
        let same : k.1.0 ≡ c.in-Some.t = same_Some k.1.0 c.in-Some.t (sym k.1.1 ∙ c.in-Some.is) in
        inr (k.0, subst (λ (u : ℕ). IsNumber c.args.exposed.now u i) same k.1.2)
  ]),
)
