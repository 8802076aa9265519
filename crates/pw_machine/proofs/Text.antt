-- The decoded text: what stands in it at the start, and that no store reaches it.
use Rattle.std.proofs.Common.{ℕ, zero, suc, ◌+◌, ◌-◌, ◌*◌, ◌/◌, ◌%◌, ◌^◌, ◌<◌, ◌≤◌, ◌≡◌, List, [], ◌∷◌, ◌++◌, Option, Some, None, length, take, get_or, refl, sym, ap, subst, ◌∙◌, arith}
use Rattle.std.proofs.lemmas.List.{take_more, get_or_default, get_or-set_other, length-set}
use Rattle.std.specs.List.{AllZip}
use Rattle.std.specs.Prelude.{IfSome}
use Rattle.pw_value.specs.Limits.{text_start, word_limit}
use Rattle.pw_inst.specs.declared.Inst.{Inst}
use Rattle.pw_inst.specs.InstructionTable.{IsInRange, IsWordOf}
use Rattle.pw_image.specs.declared.image.DataItem.{DataItem}
use Rattle.pw_machine.specs.Core.{word_at, with_byte, with_half, with_word}
use Rattle.pw_machine.specs.Start.{start_memory}
use Rattle.pw_machine.specs.Decoded.{StandsFor, AreDecoded, IsTextOf}
use Rattle.pw_machine.proofs.Loaded.{word_at_start}

-- ---- words that are decoded one after another

zip_push : {A B : Type 0} (R : A → B → Type 0) (xs : List A) (ys : List B) (x : A) (y : B) → AllZip R xs ys → R x y → AllZip R (xs ++ x ∷ []) (ys ++ y ∷ [])
zip_push R [] [] x y zip one = (one, tt)
zip_push R [] (b ∷ ys) x y zip one = absurd zip
zip_push R (a ∷ xs) [] x y zip one = absurd zip
zip_push R (a ∷ xs) (b ∷ ys) x y zip one = (zip.0, zip_push R xs ys x y zip.1 one)

pub in_range : (word : ℕ) (entry : Option Inst) → IfSome entry (IsWordOf word) → IfSome entry IsInRange
in_range word None is = tt
in_range word (Some inst) is = is.in_range

-- one word more
pub decoded_more : (words : List ℕ) (code : List (Option Inst)) (i : ℕ) (entry : Option Inst) → i < length words → AreDecoded (take i words) code → StandsFor (get_or words i 0) entry → AreDecoded (take (i + 1) words) (code ++ entry ∷ [])
decoded_more words code i entry lt so_far one =
    subst (λ (l : List ℕ). AllZip StandsFor l (code ++ entry ∷ [])) (sym (take_more words i 0 lt)) (zip_push StandsFor (take i words) code (get_or words i 0) entry so_far one)

pub decoded_length : (words : List ℕ) (code : List (Option Inst)) → AreDecoded words code → length code ≡ length words
decoded_length [] [] are = refl
decoded_length [] (entry ∷ code) are = absurd are
decoded_length (word ∷ words) [] are = absurd are
decoded_length (word ∷ words) (entry ∷ code) are = ap suc (decoded_length words code are.1)

decoded_at : (words : List ℕ) (code : List (Option Inst)) (i : ℕ) → AreDecoded words code → i < length words → StandsFor (get_or words i 0) (get_or code i None)
decoded_at [] code i are lt = absurd (omega (arith, lt))
decoded_at (word ∷ words) [] i are lt = absurd are
decoded_at (word ∷ words) (entry ∷ code) zero are lt = are.0
decoded_at (word ∷ words) (entry ∷ code) (suc i) are lt = decoded_at words code i are.1 (omega (arith, lt))

-- what was decoded stands for the text at the start
pub text_at_start : (words : List ℕ) (items : List DataItem) (code : List (Option Inst)) → length words ≤ word_limit → ((i : ℕ) → i < length words → get_or words i 0 < 2 ^ 32) → AreDecoded words code → IsTextOf (start_memory words items) code
unfolding IsTextOf
text_at_start words items code few small are = λ i lt.
    let within : i < length words = omega (arith, lt, decoded_length words code are) in
    subst (λ (w : ℕ). StandsFor w (get_or code i None)) (sym (word_at_start words items i few within (small i within))) (decoded_at words code i are within)

-- ---- the word at an address of the text

pub text_entry : (memory : List ℕ) (code : List (Option Inst)) (a : ℕ) (entry : Option Inst) → IsTextOf memory code → a % 4 ≡ 0 → text_start ≤ a → a < text_start + 4 * length code → entry ≡ get_or code ((a - text_start) / 4) entry → StandsFor (word_at memory a) entry
unfolding IsTextOf
text_entry memory code a entry is aligned above below e =
    let i = (a - text_start) / 4 in
    let place : text_start + 4 * i ≡ a = omega (arith, aligned, above) in
    let within : i < length code = omega (arith, above, below) in
    let there : get_or code i None ≡ entry = get_or_default code i None entry within ∙ sym e in
    subst (λ (o : Option Inst). StandsFor (word_at memory a) o) there (subst (λ (n : ℕ). StandsFor (word_at memory n) (get_or code i None)) place (is i within))

-- ---- stores behind the text

-- no byte below an address changed
abbrev KeepsBelow : ℕ → List ℕ → List ℕ → Type 0
KeepsBelow limit memory memory' = (p : ℕ) → p < limit → get_or memory' p 0 ≡ get_or memory p 0

byte_kept : (memory : List ℕ) (limit a value : ℕ) → limit ≤ a → KeepsBelow limit memory (with_byte memory a value)
byte_kept memory limit a value behind = λ p lt. get_or-set_other memory a p (value % 2 ^ 8) 0 (omega (arith, behind, lt))

half_kept : (memory : List ℕ) (limit a value : ℕ) → limit ≤ a → KeepsBelow limit memory (with_half memory a value)
half_kept memory limit a value behind = λ p lt. byte_kept (with_byte memory a (value / 2 ^ 8)) limit (a + 1) value (omega (arith, behind)) p lt ∙ byte_kept memory limit a (value / 2 ^ 8) behind p lt

word_kept : (memory : List ℕ) (limit a value : ℕ) → limit ≤ a → KeepsBelow limit memory (with_word memory a value)
word_kept memory limit a value behind = λ p lt. half_kept (with_half memory a (value / 2 ^ 16)) limit (a + 2) value (omega (arith, behind)) p lt ∙ half_kept memory limit a (value / 2 ^ 16) behind p lt

same_word : (memory memory' : List ℕ) (a : ℕ) → get_or memory' a 0 ≡ get_or memory a 0 → get_or memory' (a + 1) 0 ≡ get_or memory (a + 1) 0 → get_or memory' (a + 2) 0 ≡ get_or memory (a + 2) 0 → get_or memory' (a + 2 + 1) 0 ≡ get_or memory (a + 2 + 1) 0 → word_at memory' a ≡ word_at memory a
same_word memory memory' a b0 b1 b2 b3 = cc

text_stays : (memory memory' : List ℕ) (code : List (Option Inst)) (limit : ℕ) → text_start + 4 * length code ≤ limit → KeepsBelow limit memory memory' → IsTextOf memory code → IsTextOf memory' code
unfolding IsTextOf
text_stays memory memory' code limit room keeps is = λ i lt.
    let a = text_start + 4 * i in
    let same : word_at memory' a ≡ word_at memory a =
    same_word memory memory' a (keeps a (omega (arith, room, lt))) (keeps (a + 1) (omega (arith, room, lt))) (keeps (a + 2) (omega (arith, room, lt))) (keeps (a + 2 + 1) (omega (arith, room, lt))) in
    subst (λ (w : ℕ). StandsFor w (get_or code i None)) (sym same) (is i lt)

-- what a store behind the text leaves
pub record IsStored (memory memory' : List ℕ) (code : List (Option Inst)) : Type 0 where
  pub size : length memory' ≡ length memory
  pub text : IsTextOf memory' code

pub byte_stored : (memory : List ℕ) (code : List (Option Inst)) (limit a value : ℕ) → text_start + 4 * length code ≤ limit → limit ≤ a → IsTextOf memory code → IsStored memory (with_byte memory a value) code
byte_stored memory code limit a value room behind is = record {
  size = length-set memory a (value % 2 ^ 8);
  text = text_stays memory _ code limit room (byte_kept memory limit a value behind) is;
}

length-with_half : (memory : List ℕ) (a value : ℕ) → length (with_half memory a value) ≡ length memory
length-with_half memory a value = length-set (with_byte memory a (value / 2 ^ 8)) (a + 1) (value % 2 ^ 8) ∙ length-set memory a (value / 2 ^ 8 % 2 ^ 8)

pub half_stored : (memory : List ℕ) (code : List (Option Inst)) (limit a value : ℕ) → text_start + 4 * length code ≤ limit → limit ≤ a → IsTextOf memory code → IsStored memory (with_half memory a value) code
half_stored memory code limit a value room behind is = record {
  size = length-with_half memory a value;
  text = text_stays memory _ code limit room (half_kept memory limit a value behind) is;
}

pub word_stored : (memory : List ℕ) (code : List (Option Inst)) (limit a value : ℕ) → text_start + 4 * length code ≤ limit → limit ≤ a → IsTextOf memory code → IsStored memory (with_word memory a value) code
word_stored memory code limit a value room behind is = record {
  size = length-with_half (with_half memory a (value / 2 ^ 16)) (a + 2) value ∙ length-with_half memory a (value / 2 ^ 16);
  text = text_stays memory _ code limit room (word_kept memory limit a value behind) is;
}
