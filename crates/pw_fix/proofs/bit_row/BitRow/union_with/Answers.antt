use Rattle.std.proofs.Common.{◌≡◌, ◌⊎◌, ◌↔◌, length, arith, sym, subst, inl, inr, ap, ◌∙◌}
use Rattle.smallvec.proofs.SmallVecLemmas.{items-with_items}
use Rattle.pw_fix.specs.Words.{HasBit}
use Rattle.pw_fix.proofs.bit_row.BitRow.union_with.Goals as goal

pub invariant_of-self : goal.invariant_of-self
invariant_of-self c =
    let self = c.args.self.now in
    let other = c.args.other.now in
    let new = c.union_words.new.into in
    let same : length new ≡ length self.words.items = c.union_words.auto.into ∙ ap length c.as_mut_slice.ensures.value in
    let written = items-with_items self.words new same in
    record {
      enough = rw written (same ∙ self.enough);
      unused = λ j h b. elim ((c.union_words.ensures.holds j).0 (subst (λ xs. HasBit xs j) written b)) [
        | inl old ↦ self.unused j h (subst (λ xs. HasBit xs j) c.as_mut_slice.ensures.value old)
        | inr came ↦ other.unused j (let e : other.len ≡ self.len = c.requires in omega arith) (subst (λ xs. HasBit xs j) c.as_slice.ensures came)
      ];
    }

pub returns-clause-holds : goal.returns-clause-holds
returns-clause-holds c = λ j.
    let self = c.args.self.now in
    let new = c.union_words.new.into in
    let same : length new ≡ length self.words.items = c.union_words.auto.into ∙ ap length c.as_mut_slice.ensures.value in
    let written = items-with_items self.words new same in
    subst (λ xs. HasBit xs j ↔ (HasBit self.words.items j ⊎ HasBit c.args.other.now.words.items j)) (sym written)
    (subst (λ xs. HasBit new j ↔ (HasBit xs j ⊎ HasBit c.args.other.now.words.items j)) c.as_mut_slice.ensures.value
    (subst (λ xs. HasBit new j ↔ (HasBit c.as_mut_slice.result.now j ⊎ HasBit xs j)) c.as_slice.ensures (c.union_words.ensures.holds j)))

pub returns-clause-added : goal.returns-clause-added
returns-clause-added c = rw (← c.as_mut_slice.ensures.value, ← c.as_slice.ensures) c.union_words.ensures.changed
