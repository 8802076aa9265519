use Rattle.std.proofs.Common.{◌≡◌, ◌/◌, ◌<◌, ◌⊎◌, ◌↔◌, List, ℕ, length, arith, sym, subst, ap, inl, inr, ◌∙◌}
use Rattle.smallvec.proofs.SmallVecLemmas.{items-with_items}
use Rattle.pw_fix.specs.Words.{HasBit}
use Rattle.pw_fix.proofs.Bits.{place_within}
use Rattle.pw_fix.proofs.bit_row.BitRow.insert.Goals as goal

pub set_bit-requires : goal.set_bit-requires
set_bit-requires c =
    let self = c.args.self.now in
    subst (λ (ws : List ℕ). c.args.i / 64 < length ws) (sym c.as_mut_slice.ensures.value) (place_within self.len c.args.i (length self.words.items) self.enough c.requires)

pub invariant_of-self : goal.invariant_of-self
invariant_of-self c =
    let self = c.args.self.now in
    let new = c.set_bit.new.words in
    let same : length new ≡ length self.words.items = c.set_bit.auto.words ∙ ap length c.as_mut_slice.ensures.value in
    let written = items-with_items self.words new same in
    record {
      enough = rw written (same ∙ self.enough);
      unused = λ j h b. elim ((c.set_bit.ensures.holds j).0 (subst (λ xs. HasBit xs j) written b)) [
        | inl is ↦ let below : c.args.i < self.len = c.requires in omega (arith, below, is, h)
        | inr old ↦ self.unused j h (subst (λ xs. HasBit xs j) c.as_mut_slice.ensures.value old)
      ];
    }

pub returns-clause-holds : goal.returns-clause-holds
returns-clause-holds c = λ j.
    let self = c.args.self.now in
    let new = c.set_bit.new.words in
    let same : length new ≡ length self.words.items = c.set_bit.auto.words ∙ ap length c.as_mut_slice.ensures.value in
    subst (λ xs. HasBit xs j ↔ ((j ≡ c.args.i) ⊎ HasBit self.words.items j)) (sym (items-with_items self.words new same))
    (subst (λ xs. HasBit new j ↔ ((j ≡ c.args.i) ⊎ HasBit xs j)) c.as_mut_slice.ensures.value (c.set_bit.ensures.holds j))

pub returns-clause-added : goal.returns-clause-added
returns-clause-added c = rw (← c.as_mut_slice.ensures.value) c.set_bit.ensures.added
