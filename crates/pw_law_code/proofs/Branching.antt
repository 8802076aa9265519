-- Branches from one word of the text to another, or to the end of the text.
use Rattle.std.proofs.Common.{◌≡◌, inl, inr, ℕ, ℤ, ◌+◌, ◌-◌, ◌*◌, ◌/◌, ◌%◌, ◌^◌, ◌≤◌, ◌<◌, Some, ap, ◌∙◌, arith}
use Rattle.std.specs.Prelude.{pos, negsuc, false}
use Rattle.std.proofs.lemmas.Int.{ints}
use Rattle.std.proofs.lemmas.Bool.{cases_lt}
use Rattle.pw_value.specs.Limits.{text_start, word_limit}
use Rattle.pw_inst.specs.declared.Inst.TheVariants as i
use Rattle.pw_inst.specs.declared.relocation.FixKind.TheVariants as kind
use Rattle.pw_inst.specs.Fields.{bits, twos_complement, IsSigned}
use Rattle.pw_inst.specs.InstructionTable.{branch_word, word_of, decoded, IsInRange}
use Rattle.pw_inst.specs.Setting.{with_branch}
use Rattle.pw_inst.proofs.SettingLaws.{branch_encoding}
use Rattle.pw_inst.proofs.Words.{decoded-word_of}
use Rattle.pw_link.specs.Linking.{branch_distance, settled}
use Rattle.pw_run_languages.specs.Words.{Leads}

-- the address behind the greatest text
abbrev pub text_end : ℕ
text_end = text_start + 4 * word_limit

-- the displacement of a branch at an address that leads to another
pub record Hop (own target : ℕ) : Type 0 where
  pub displacement : ℤ
  pub signed : IsSigned 17 displacement
  pub bits : branch_distance own target % 2 ^ 17 ≡ twos_complement 17 displacement
  pub leads : Leads own displacement target

ahead : (own target k : ℕ) → target ≡ own + 8 + 4 * k → text_start ≤ own → target ≤ text_end → Hop own target
ahead own target k e low high = record {
  displacement = pos k;
  signed = (omega (arith, ints), omega (arith, ints));
  bits = omega arith;
  leads = omega (arith, ints);
}

back : (own target k : ℕ) → own + 8 ≡ target + 4 * (k + 1) → text_start ≤ target → own + 8 ≤ text_end → Hop own target
back own target k e low high = record {
  displacement = negsuc k;
  signed = (omega (arith, ints), omega (arith, ints));
  bits = omega arith;
  leads = omega (arith, ints);
}

-- from each word of the text but the last, to each word and to the end
pub hop : (own target : ℕ) → own % 4 ≡ 0 → target % 4 ≡ 0 → text_start ≤ own → own + 8 ≤ text_end → text_start ≤ target → target ≤ text_end → Hop own target
hop own target aligned even low high above below = elim (cases_lt target (own + 8)) [
  | inl before ↦ back own target ((own + 8 - target) / 4 - 1) (omega arith) above high
  | inr behind ↦ ahead own target ((target - (own + 8)) / 4) (omega arith) low below
]

branch_low : (word q : ℕ) → with_branch word q ≡ with_branch word (q % 2 ^ 17)
unfolding with_branch
branch_low word q =
    let a : bits 11 5 q ≡ bits 11 5 (q % 2 ^ 17) = omega arith in
    let b : bits 0 10 q ≡ bits 0 10 (q % 2 ^ 17) = omega arith in
    let c : bits 10 1 q ≡ bits 10 1 (q % 2 ^ 17) = omega arith in
    let d : bits 16 1 q ≡ bits 16 1 (q % 2 ^ 17) = omega arith in
    cc

-- a branch into whose word its distance goes
pub lands : (own target link : ℕ) (h : Hop own target) → link < 32 → decoded (settled kind.Bl own target (word_of (i.Bl (pos 0) link false))) ≡ Some (i.Bl h.displacement link false)
unfolding settled word_of IsInRange
lands own target link h small =
    let word = branch_word (pos 0) link false in
    let low : with_branch word (branch_distance own target) ≡ with_branch word (twos_complement 17 h.displacement) = branch_low word (branch_distance own target) ∙ ap (with_branch word) h.bits in
    let is : with_branch word (branch_distance own target) ≡ branch_word h.displacement link false = low ∙ branch_encoding (pos 0) h.displacement link false (omega (arith, ints), omega (arith, ints)) small in
    ap decoded is ∙ decoded-word_of (i.Bl h.displacement link false) (h.signed, small)
