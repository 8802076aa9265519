-- Words of the frame and of places, by the end of the frame.
use Rattle.std.proofs.Common.{ℕ, ℤ, ◌≡◌, ◌≢◌, ◌+◌, ◌-◌, ◌%◌, ◌^◌, ◌<◌, ◌≤◌, ◌⊎◌, inl, inr, arith, ap, sym, subst, ◌∙◌, false, List}
use Rattle.std.proofs.lemmas.Bool.{cases_eq}
use Rattle.pw_inst.specs.Computing.{offset_by}
use Rattle.pw_inst.specs.Registers.{help, stack_pointer}
use Rattle.pw_delay.specs.declared.items.Word.{Word}
use Rattle.pw_alloc.specs.declared.located.Place.{Place}
use Rattle.pw_alloc.specs.declared.located.Place.TheVariants.{Slot, Reg}
use Rattle.pw_alloc.specs.Frames.{below}
use Rattle.pw_run_languages.specs.Addresses.{Addresses, AreLawful}
use Rattle.pw_run_languages.specs.Acts.{Core, register, number_at, with_number}
use Rattle.pw_run_languages.specs.LineRun.{LineProgram}
use Rattle.pw_run_languages.specs.Serving.{IsTempRegister}
use Rattle.pw_select_lines.specs.Registers.{load_from, store_to}
use Rattle.pw_law_select_memory.specs.Numbers.{HoldsBytes}
use Rattle.pw_law_select_rows.specs.Straight.{words_of}
use Rattle.pw_law_select_rows.specs.Making.{Makes}
use Rattle.pw_law_select_rows.specs.Frames.{IsFrameWord, LoadsWord, StoresWord, frame_word}
use Rattle.pw_law_select_rows.specs.Places.{place_word, IsInReach}
use Rattle.pw_law_select_states.specs.States.{IsOfWords}
use Rattle.pw_law_select_frames.specs.Stack.{IsStackWord, IsWordBelow, IsPlaceBelow}
use Rattle.pw_law_select_frames.proofs.Known.{Known}
use Rattle.pw_law_select_frames.proofs.Stack.{stack_word_is, below_word, frame_below, same_number}

-- the stack pointer is the end of a frame, in a program at lawful addresses
pub record IsAt (p : LineProgram) (w : Addresses) (sp : ℕ) (c : Core) : Type 0 where
  pub lawful : AreLawful p.flow w
  pub small : sp < 2 ^ 32
  pub pointer : register c stack_pointer ≡ sp
  pub skip : c.skip ≡ false

pub not_help : (r : ℕ) → IsTempRegister r → r ≢ help
not_help r is e = let low = is.low in omega (arith, e, low)

module _ (known : Known) where
  -- ---- one word of the frame

  pub store_below : (p : LineProgram) (w : Addresses) (r n sp : ℕ) (c : Core) → IsAt p w sp c → n ≤ sp → IsStackWord w (sp - n) → r ≢ help
      → StoresWord p w (words_of (store_to (below n) r)) (sp - n) (register c r) c
  store_below p w r n sp c at inside word other =
      let e : frame_word c (below n) ≡ sp - n = ap (λ x. offset_by x (below n)) at.pointer ∙ below_word sp n inside at.small in
      subst (λ a. StoresWord p w (words_of (store_to (below n) r)) a (register c r) c) e
      (known.stores p w (below n) r c other at.skip (subst (IsFrameWord p w) (sym e) (stack_word_is p w (sp - n) at.lawful word)))

  pub load_below : (p : LineProgram) (w : Addresses) (d n sp : ℕ) (c : Core) → IsAt p w sp c → n ≤ sp → IsStackWord w (sp - n) → d ≢ 0
      → LoadsWord p w (words_of (load_from (below n) d)) d (number_at 4 c.memory (sp - n)) c
  load_below p w d n sp c at inside word some =
      let e : frame_word c (below n) ≡ sp - n = ap (λ x. offset_by x (below n)) at.pointer ∙ below_word sp n inside at.small in
      subst (λ a. LoadsWord p w (words_of (load_from (below n) d)) d (number_at 4 c.memory a) c) e
      (known.loads p w (below n) d c some at.skip (subst (IsFrameWord p w) (sym e) (stack_word_is p w (sp - n) at.lawful word)))

  -- ---- places

  -- where the word of a place in the frame stands
  pub slot_at : (w : Addresses) (sp least most : ℕ) (offset : ℤ) (c : Core) → register c stack_pointer ≡ sp → sp < 2 ^ 32
      → (is : IsWordBelow w sp least most offset) → frame_word c offset ≡ sp - is.far
  slot_at w sp least most offset c pointer small is =
      ap (λ x. offset_by x offset) pointer ∙ frame_below sp is.far offset is.is is.inside small

  pub in_reach : (p : LineProgram) (w : Addresses) (sp least most : ℕ) (a : Place) (c : Core) → IsAt p w sp c → IsPlaceBelow w sp least most a → IsInReach p w c a
  in_reach p w sp least most (Reg r) c at is = tt
  in_reach p w sp least most (Slot offset) c at is =
      subst (IsFrameWord p w) (sym (slot_at w sp least most offset c at.pointer at.small is)) (stack_word_is p w (sp - is.far) at.lawful is.word)

  pub place_small : (w : Addresses) (sp least most : ℕ) (a : Place) (c : Core) → IsOfWords c → IsPlaceBelow w sp least most a → place_word c a < 2 ^ 32
  place_small w sp least most (Reg r) c h is = h.registers r is
  place_small w sp least most (Slot offset) c h is = known.bounded 4 (frame_word c offset) c.memory h.memory

  -- it is the same where the registers of temporaries and the words of the frame are
  pub same_place : (w : Addresses) (sp least most : ℕ) (a : Place) (c d : Core) → register c stack_pointer ≡ sp → register d stack_pointer ≡ sp → sp < 2 ^ 32
      → IsPlaceBelow w sp least most a → ((r : ℕ) → IsTempRegister r → register d r ≡ register c r)
      → ((b : ℕ) → sp ≤ b + most → b + least < sp → d.memory b ≡ c.memory b) → place_word d a ≡ place_word c a
  same_place w sp least most (Reg r) c d before now small is registers memory = registers r is
  same_place w sp least most (Slot offset) c d before now small is registers memory =
      let low = is.low in
      let high = is.high in
      let inside = is.inside in
      ap (number_at 4 d.memory) (slot_at w sp least most offset d now small is)
      ∙ (same_number 4 (sp - is.far) d.memory c.memory
      (λ b from to. memory b (omega (arith, high, inside, from)) (omega (arith, low, inside, to)))
      ∙ sym (ap (number_at 4 c.memory) (slot_at w sp least most offset c before small is)))

  -- ---- registers and memory hold words

  pub holds_stored : (p : LineProgram) (w : Addresses) (words : List Word) (a n : ℕ) (c : Core) → IsOfWords c → (s : StoresWord p w words a n c) → IsOfWords s.core
  holds_stored p w words a n c h s = record {
    memory = subst HoldsBytes (sym s.memory) (known.bytes 4 n a c.memory h.memory);
    registers = λ r is. subst (λ x. x < 2 ^ 32) (sym (s.others r (not_help r is))) (h.registers r is);
  }

  pub holds_put : (d n : ℕ) (c e : Core) → IsOfWords c → n < 2 ^ 32 → register e d ≡ n → ((r : ℕ) → r ≢ d → r ≢ help → register e r ≡ register c r)
      → e.memory ≡ c.memory → IsOfWords e
  holds_put d n c e h small value others memory = record {
    memory = subst HoldsBytes (sym memory) h.memory;
    registers = λ r is. by_register r is (cases_eq r d);
  }
    where
      by_register : (r : ℕ) → IsTempRegister r → (r ≡ d) ⊎ (r ≡ d → ⊥) → register e r < 2 ^ 32
      by_register r is (inl same) = subst (λ x. x < 2 ^ 32) (sym (ap (register e) same ∙ value)) small
      by_register r is (inr ne) = subst (λ x. x < 2 ^ 32) (sym (others r ne (not_help r is))) (h.registers r is)

  pub holds_loaded : (p : LineProgram) (w : Addresses) (words : List Word) (d n : ℕ) (c : Core) → IsOfWords c → n < 2 ^ 32 → (l : LoadsWord p w words d n c) → IsOfWords l.core
  holds_loaded p w words d n c h small l = holds_put d n c l.core h small l.value l.others l.memory

  pub holds_made : (p : LineProgram) (w : Addresses) (words : List Word) (d n : ℕ) (c : Core) → IsOfWords c → n < 2 ^ 32 → (m : Makes p w words d n c) → IsOfWords m.core
  holds_made p w words d n c h small m = holds_put d n c m.core h small m.puts.value (λ r ne other. m.puts.others r ne) m.puts.memory

  -- the stack pointer stays where another register is written
  pub at_stored : (p : LineProgram) (w : Addresses) (sp : ℕ) (words : List Word) (a n : ℕ) (c : Core) → IsAt p w sp c → (s : StoresWord p w words a n c) → IsAt p w sp s.core
  at_stored p w sp words a n c at s = record {
    lawful = at.lawful;
    small = at.small;
    pointer = s.others stack_pointer (λ e. omega (arith, e)) ∙ at.pointer;
    skip = s.skip;
  }

  pub at_loaded : (p : LineProgram) (w : Addresses) (sp : ℕ) (words : List Word) (d n : ℕ) (c : Core) → IsAt p w sp c → stack_pointer ≢ d → (l : LoadsWord p w words d n c) → IsAt p w sp l.core
  at_loaded p w sp words d n c at other l = record {
    lawful = at.lawful;
    small = at.small;
    pointer = l.others stack_pointer other (λ e. omega (arith, e)) ∙ at.pointer;
    skip = l.skip;
  }

  -- a word that was stored is read again
  pub stored_again : (v a : ℕ) (c e : Core) → e.memory ≡ with_number 4 v a c.memory → v < 2 ^ 32 → number_at 4 e.memory a ≡ v
  stored_again v a c e memory small =
      ap (λ f. number_at 4 f a) memory ∙ (known.read 4 v a c.memory ∙ low)
    where
      low : v % 256 ^ 4 ≡ v
      low = omega (arith, small)

  -- bytes elsewhere stay
  pub byte_stays : (v a b : ℕ) (c e : Core) → e.memory ≡ with_number 4 v a c.memory → (b < a) ⊎ (a + 4 ≤ b) → e.memory b ≡ c.memory b
  byte_stays v a b c e memory out = ap (λ f. f b) memory ∙ known.other 4 v a b c.memory out
