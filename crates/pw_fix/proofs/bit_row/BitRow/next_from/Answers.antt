use Rattle.std.proofs.Common.{rules, Fits, w64, ◌≡◌, ◌<◌, ◌≤◌, ◌^◌, ℕ, List, length, arith, inl, inr, sym, subst}
use Rattle.std.proofs.Math.Facts.{Fits-lt-pow}
use Rattle.std.specs.Int.{div_ceil}
use Rattle.std.proofs.lemmas.Bool.{cases_lt}
use Rattle.std.specs.Prelude.{Option, None, Some, IfSome}
use Rattle.pw_fix.specs.Words.{HasBit}
use Rattle.pw_fix.specs.Row.{Holds}
use Rattle.pw_fix.specs.declared.bit_row.BitRow.{BitRow}
use Rattle.pw_fix.proofs.bit_row.BitRow.next_from.Goals as goal

-- what a row holds is below its length
held_within : (row : BitRow) (i : ℕ) → Holds row i → i < row.len
held_within row i h = elim (cases_lt i row.len) [ inl fine ↦ fine | inr past ↦ absurd (row.unused i past h) ]

found_within : (row : BitRow) (from : ℕ) (found : Option ℕ) → IfSome found (λ i. (from ≤ i) × Holds row i) → IfSome found (λ i. (from ≤ i) × (i < row.len) × Holds row i)
found_within row from None h = tt
found_within row from (Some i) h = (h.0, held_within row i h.1, h.1)

few_words : (len n : ℕ) → n ≡ div_ceil len 64 → len < 2 ^ 64 → n ≤ 2 ^ 58
few_words len n e h = rw e (omega arith)

pub next_bit-requires : goal.next_bit-requires
next_bit-requires c =
    let row = c.args.self.now in
    let fits : Fits w64 row.len = search rules in
    subst (λ (ws : List ℕ). length ws ≤ 2 ^ 58) (sym c.as_slice.ensures) (few_words row.len (length row.words.items) row.enough (Fits-lt-pow fits))

pub returns-clause-found : goal.returns-clause-found
returns-clause-found c =
    let row = c.args.self.now in
    found_within row c.args.from c.next_bit.result (subst (λ (ws : List ℕ). IfSome c.next_bit.result (λ i. (c.args.from ≤ i) × HasBit ws i)) c.as_slice.ensures c.next_bit.ensures.found)
