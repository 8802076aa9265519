-- Words of the stack.
use Rattle.std.proofs.Common.{ℕ, ℤ, pos, zero, suc, ◌≡◌, ◌+◌, ◌-◌, ◌*◌, ◌/◌, ◌%◌, ◌^◌, ◌<◌, ◌≤◌, arith, refl, ap, ◌∙◌, Bool, true, ◌&&◌, nat_le, ◌==◌}
use Rattle.std.proofs.lemmas.Bool.{eq-eqb, le-leb}
use Rattle.std.proofs.lemmas.Int.{ints}
use Rattle.pw_inst.specs.Computing.{offset_by}
use Rattle.pw_alloc.specs.Frames.{below}
use Rattle.pw_value.specs.Limits.{memory_size}
use Rattle.pw_run_languages.specs.Addresses.{Addresses, AreLawful}
use Rattle.pw_run_languages.specs.Acts.{number_at}
use Rattle.pw_run_languages.specs.LineRun.{LineProgram}
use Rattle.pw_law_select_rows.specs.Frames.{IsFrameWord}
use Rattle.pw_law_select_frames.specs.Stack.{IsStackWord, IsTop}

all_true : (a b c : Bool) → a ≡ true → b ≡ true → c ≡ true → (a && (b && c)) ≡ true
all_true a b c e f g = ap (λ (t : Bool). t && (b && c)) e ∙ (ap (λ (t : Bool). t && c) f ∙ g)

is_low : (start base a : ℕ) → start + 64 ≤ base → base ≤ a + 64 → start ≤ a
is_low start base a h k = omega (arith, h, k)

pub stack_word_is : (p : LineProgram) (w : Addresses) (a : ℕ) → AreLawful p.flow w → IsStackWord w a → IsFrameWord p w a
stack_word_is p w a lawful is = record {
  opens = all_true (a % 4 == 0) (nat_le w.data_start a) (nat_le (a + 4) memory_size)
      (eq-eqb (a % 4) 0 is.aligned)
      (le-leb w.data_start a (is_low w.data_start w.base a lawful.stack_above is.low))
      (le-leb (a + 4) memory_size (let memory = lawful.memory in let high = is.high in omega (arith, memory, high)));
  above = λ g there. by_room g.size (w.named g.name) (lawful.below g there) is.low;
}
  where
    by_room : (size named : ℕ) → named + (size + 1 + 7) / 8 * 8 + 64 ≤ w.base → w.base ≤ a + 64 → named + size ≤ a
    by_room size named h k = omega (arith, h, k)

-- ---- addresses below the end of a frame

pub below_word : (sp n : ℕ) → n ≤ sp → sp < 2 ^ 32 → offset_by sp (below n) ≡ sp - n
below_word sp zero low small = omega (arith, ints, low, small)
below_word sp (suc m) low small = omega (arith, ints, low, small)

pub above_word : (sp n : ℕ) → sp + n < 2 ^ 32 → offset_by sp (pos n) ≡ sp + n
above_word sp n small = omega (arith, ints, small)

pub frame_below : (sp n : ℕ) (offset : ℤ) → offset ≡ below n → n ≤ sp → sp < 2 ^ 32 → offset_by sp offset ≡ sp - n
frame_below sp n offset is low small = ap (offset_by sp) is ∙ below_word sp n low small

-- every address of the stack is below the end of memory
pub top_small : (p : LineProgram) (w : Addresses) (top size : ℕ) → AreLawful p.flow w → IsTop w top size → top < 2 ^ 32
top_small p w top size lawful is = let memory = lawful.memory in let high = is.high in omega (arith, memory, high)

-- ---- numbers in memories that have the same bytes

pub same_number : (n b : ℕ) (f g : ℕ → ℕ) → ((c : ℕ) → b ≤ c → c < b + n → f c ≡ g c) → number_at n f b ≡ number_at n g b
same_number zero b f g h = refl
same_number (suc more) b f g h =
    ap (λ v. v * 256 ^ more + number_at more f (b + 1)) (h b (omega arith) (omega arith))
    ∙ ap (λ v. g b * 256 ^ more + v) (same_number more (b + 1) f g (λ c low high. h c (omega (arith, low)) (omega (arith, high))))
