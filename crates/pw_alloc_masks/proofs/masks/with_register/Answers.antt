use Rattle.std.proofs.Common.{inl, inr, sym, ◌∙◌}
use Rattle.std.specs.Int.{w32}
use Rattle.std.proofs.lemmas.Bool.{cases_eq}
use Rattle.std.proofs.lemmas.Nat.Bits.{bit_at_set_same, bit_at_set_other}
use Rattle.pw_alloc_masks.proofs.masks.with_register.Goals as goal

pub returns : goal.returns
returns c = λ k. elim (cases_eq k c.args.r) [
  | inl same ↦ ((λ _. inr same), (λ _. rw same (bit_at_set_same w32 c.args.mask c.args.r c.requires)))
  | inr other ↦
      let bit = bit_at_set_other w32 c.args.mask c.args.r c.requires k other in
      ((λ b. inl (sym bit ∙ b)), (λ h. elim h [ inl b ↦ bit ∙ b | inr same ↦ absurd (other same) ]))
]
