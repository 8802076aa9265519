use Rattle.std.proofs.Common.{◌≡◌, ◌↔◌, length, sym, subst, ap, ◌∙◌}
use Rattle.smallvec.proofs.SmallVecLemmas.{items-with_items}
use Rattle.pw_fix.specs.Words.{HasBit}
use Rattle.pw_fix.proofs.bit_row.BitRow.subtract.Goals as goal

pub invariant_of-self : goal.invariant_of-self
invariant_of-self c =
    let self = c.args.self.now in
    let new = c.subtract_words.new.into in
    let same : length new ≡ length self.words.items = c.subtract_words.auto.into ∙ ap length c.as_mut_slice.ensures.value in
    let written = items-with_items self.words new same in
    record {
      enough = rw written (same ∙ self.enough);
      unused = λ j h b. self.unused j h (subst (λ xs. HasBit xs j) c.as_mut_slice.ensures.value ((c.subtract_words.ensures j).0 (subst (λ xs. HasBit xs j) written b)).0);
    }

pub returns-clause-holds : goal.returns-clause-holds
returns-clause-holds c = λ j.
    let self = c.args.self.now in
    let new = c.subtract_words.new.into in
    let same : length new ≡ length self.words.items = c.subtract_words.auto.into ∙ ap length c.as_mut_slice.ensures.value in
    let written = items-with_items self.words new same in
    subst (λ xs. HasBit xs j ↔ (HasBit self.words.items j × (HasBit c.args.other.now.words.items j → ⊥))) (sym written)
    (subst (λ xs. HasBit new j ↔ (HasBit xs j × (HasBit c.args.other.now.words.items j → ⊥))) c.as_mut_slice.ensures.value
    (subst (λ xs. HasBit new j ↔ (HasBit c.as_mut_slice.result.now j × (HasBit xs j → ⊥))) c.as_slice.ensures (c.subtract_words.ensures j)))
