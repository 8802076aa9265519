-- Decoding and encoding are inverse to each other.
use Rattle.std.proofs.Common.{ℕ, Option, Some, None, IfSome, IsNone, ◌≡◌, ◌<◌, ◌^◌, ◌↔◌, ◌∙◌, refl, sym, ap}
use Rattle.pw_inst.specs.declared.Inst.{Inst}
use Rattle.pw_inst.specs.InstructionTable.{word_of, IsInRange, IsWordOf, decoded}
use Rattle.pw_inst.proofs.Words.{decoded-word_of}
use Rattle.pw_inst.proofs.Found.{decoded-found}

-- a word of an instruction is decoded to it
pub decoded-of : (word : ℕ) (inst : Inst) → IsWordOf word inst → decoded word ≡ Some inst
decoded-of word inst h = ap decoded (sym h.same) ∙ decoded-word_of inst h.in_range

-- where there is an instruction, its word is not without one
some-not_none : (found : Option Inst) (inst : Inst) → found ≡ Some inst → IsNone found → ⊥
some-not_none None inst e none = absurd (cc)
some-not_none (Some x) inst e none = absurd (cc)

none-from : (word : ℕ) (found : Option Inst) → IfSome found (IsWordOf word) → ((inst : Inst) → ¬ IsWordOf word inst) → IsNone found
none-from word None h other = refl
none-from word (Some x) h other = absurd (other x h)

-- nothing is found exactly where no instruction has the word
pub decoded-none : (word : ℕ) → word < 2 ^ 32 → IsNone (decoded word) ↔ ((inst : Inst) → ¬ IsWordOf word inst)
decoded-none word fits = (
  (λ none inst h. some-not_none (decoded word) inst (decoded-of word inst h) none),
  λ other. none-from word (decoded word) (decoded-found word fits) other,
)

-- no two instructions have one word
pub word_of-injective : (a b : Inst) → IsInRange a → IsInRange b → word_of a ≡ word_of b → a ≡ b
word_of-injective a b in_range others same =
    let left : decoded (word_of a) ≡ Some a = decoded-word_of a in_range in
    let right : decoded (word_of b) ≡ Some b = decoded-word_of b others in
    let whole : Some a ≡ Some b = sym left ∙ ap decoded same ∙ right in
    cc
