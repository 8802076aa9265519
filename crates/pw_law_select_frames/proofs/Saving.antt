-- Registers that are saved, and given back.
use Rattle.std.proofs.Common.{ℕ, zero, suc, ◌≡◌, ◌≢◌, ◌+◌, ◌-◌, ◌*◌, ◌%◌, ◌^◌, ◌<◌, ◌≤◌, ◌⊎◌, inl, inr, arith, refl, ap, sym, subst, ◌∙◌, Bool, true, false, if◌then◌else◌, ◌==◌, Some, List, [], ◌∷◌, length, slice_get}
use Rattle.std.specs.List.{AllByRecursion}
use Rattle.std.proofs.lemmas.Bool.{ne_eqb, eq-eqb, cases_eq}
use Rattle.pw_inst.specs.Registers.{help, stack_pointer}
use Rattle.pw_alloc.specs.Frames.{saved_offset}
use Rattle.pw_select_lines.specs.Registers.{load_from, store_to}
use Rattle.pw_select.specs.Selection.{saved_lines}
use Rattle.pw_run_languages.specs.Addresses.{Addresses}
use Rattle.pw_run_languages.specs.Acts.{Core, register, put, number_at, with_number}
use Rattle.pw_run_languages.specs.LineRun.{LineProgram}
use Rattle.pw_run_languages.specs.Serving.{IsTempRegister}
use Rattle.pw_run_languages.specs.Standing.{given_back}
use Rattle.pw_law_select_rows.specs.Straight.{words_of}
use Rattle.pw_law_select_states.specs.States.{IsOfWords}
use Rattle.pw_law_select_frames.specs.Going.{Goes}
use Rattle.pw_law_select_frames.specs.Stack.{IsStackWord, IsTop}
use Rattle.pw_law_select_frames.specs.Saving.{MaySave, Saves, Restores}
use Rattle.pw_law_select_frames.proofs.Known.{Known}
use Rattle.pw_law_select_frames.proofs.Going.{loads_go, stores_go, stays, lines_then}
use Rattle.pw_law_select_frames.proofs.Stack.{same_number, top_small}
use Rattle.pw_law_select_frames.proofs.Frame.{IsAt, store_below, load_below, holds_stored, holds_loaded, at_stored, at_loaded, stored_again, byte_stays}

-- the registers from a number on
pub record SavesFrom (p : LineProgram) (w : Addresses) (sp head k : ℕ) (saved : List ℕ) (c : Core) : Type 0 where
  pub core : Core
  pub goes : Goes p w (words_of (saved_lines store_to head k saved)) [] c core
  pub holds : IsOfWords core
  pub stand : (i r : ℕ) → slice_get saved i ≡ Some r → number_at 4 core.memory (sp - (head + 4 * (k + i + 1))) ≡ register c r
  pub others : (r : ℕ) → r ≢ help → register core r ≡ register c r
  pub memory : (b : ℕ) → (b + (head + 4 * (k + length saved)) < sp) ⊎ (sp ≤ b + (head + 4 * k)) → core.memory b ≡ c.memory b

pub record RestoresFrom (p : LineProgram) (w : Addresses) (sp head k : ℕ) (saved : List ℕ) (c : Core) : Type 0 where
  pub core : Core
  pub goes : Goes p w (words_of (saved_lines load_from head k saved)) [] c core
  pub holds : IsOfWords core
  pub pointer : register core stack_pointer ≡ sp
  pub registers : (r : ℕ) → r ≢ 0 → r ≢ help → register core r ≡ given_back c.memory (sp - head) k saved c.registers r
  pub memory : core.memory ≡ c.memory

-- the word of a saved register is one of the stack
saved_is_stack : (w : Addresses) (sp head k size : ℕ) → IsTop w sp size → head % 4 ≡ 0 → head + 4 * (k + 1) ≤ size → IsStackWord w (sp - (head + 4 * (k + 1)))
saved_is_stack w sp head k size top even within =
    let aligned = top.aligned in
    let low = top.low in
    let high = top.high in
    record {
      aligned = omega (arith, aligned, low, within, even);
      low = omega (arith, low, within);
      high = omega (arith, low, high, within);
    }

-- registers that are given back, where two sets of registers are the same but for that of addresses
same_given : (memory : ℕ → ℕ) (top k : ℕ) (saved : List ℕ) (f g : ℕ → ℕ) → ((r : ℕ) → r ≢ 0 → r ≢ help → f r ≡ g r)
    → (r : ℕ) → r ≢ 0 → r ≢ help → given_back memory top k saved f r ≡ given_back memory top k saved g r
same_given memory top k [] f g h r some other = h r some other
same_given memory top k (q ∷ rest) f g h r some other =
    let v = number_at 4 memory (top - 4 * (k + 1)) in
    same_given memory top (suc k) rest (put q v f) (put q v g) (λ r some other. by_test (r == q) (f r) (g r) v (h r some other)) r some other
  where
    by_test : (t : Bool) (x y v : ℕ) → x ≡ y → (if t then v else x) ≡ (if t then v else y)
    by_test true x y v e = refl
    by_test false x y v e = e

register_is : (c : Core) (r : ℕ) → r ≢ 0 → register c r ≡ c.registers r
register_is c r some = ap (λ (t : Bool). if t then 0 else c.registers r) (ne_eqb r 0 some)

module _ (known : Known) where
  saves_from : (p : LineProgram) (w : Addresses) (sp head k size : ℕ) (saved : List ℕ) (c : Core) → IsAt p w sp c → IsOfWords c → IsTop w sp size → head % 4 ≡ 0
      → head + 4 * (k + length saved) ≤ size → AllByRecursion IsTempRegister saved → SavesFrom p w sp head k saved c
  saves_from p w sp head k size [] c at holds top even within registers = record {
    core = c;
    goes = stays p w c at.skip;
    holds = holds;
    stand = λ i r e. absurd cc;
    others = λ r other. refl;
    memory = λ b out. refl;
  }
  saves_from p w sp head k size (r ∷ rest) c at holds top even within registers =
      let n = head + 4 * (k + 1) in
      let is = registers.0 in
      let least = is.low in
      let other : r ≢ help = λ e. omega (arith, e, least) in
      let low = top.low in
      let inside : n ≤ sp = omega (arith, low, within) in
      let s = store_below known p w r n sp c at inside (saved_is_stack w sp head k size top even (omega (arith, within))) other in
      let lines = store_to (saved_offset head k) r in
      let at_s = at_stored known p w sp (words_of lines) (sp - n) (register c r) c at s in
      let holds_s = holds_stored known p w (words_of lines) (sp - n) (register c r) c holds s in
      let more = saves_from p w sp head (k + 1) size rest s.core at_s holds_s top even (omega (arith, within)) registers.1 in
      let small : register c r < 2 ^ 32 = holds.registers r is in
      record {
        core = more.core;
        goes = lines_then known p w lines (saved_lines store_to head (k + 1) rest) [] [] c s.core more.core
            (stores_go p w (words_of lines) (sp - n) (register c r) c s) more.goes;
        holds = more.holds;
        stand = λ i q e. by_number i q e s.core more s.memory s.others small inside;
        others = λ q ne. more.others q ne ∙ s.others q ne;
        memory = λ b out. more.memory b (on b out) ∙ byte_stays known (register c r) (sp - n) b c s.core s.memory (off b out inside);
      }
    where
      on : (b : ℕ) → (b + (head + 4 * (k + length (r ∷ rest))) < sp) ⊎ (sp ≤ b + (head + 4 * k)) → (b + (head + 4 * (k + 1 + length rest)) < sp) ⊎ (sp ≤ b + (head + 4 * (k + 1)))
      on b (inl h) = inl (omega (arith, h))
      on b (inr h) = inr (omega (arith, h))

      off : (b : ℕ) → (b + (head + 4 * (k + length (r ∷ rest))) < sp) ⊎ (sp ≤ b + (head + 4 * k)) → head + 4 * (k + 1) ≤ sp → (b < sp - (head + 4 * (k + 1))) ⊎ (sp - (head + 4 * (k + 1)) + 4 ≤ b)
      off b (inl h) inside = inl (omega (arith, h, inside))
      off b (inr h) inside = inr (omega (arith, h, inside))

      one_of : (xs : List ℕ) (i q : ℕ) → AllByRecursion IsTempRegister xs → slice_get xs i ≡ Some q → IsTempRegister q
      one_of [] i q h e = absurd cc
      one_of (x ∷ xs) zero q h e = let same : x ≡ q = cc in subst IsTempRegister same h.0
      one_of (x ∷ xs) (suc i) q h e = one_of xs i q h.1 e

      by_number : (i q : ℕ) → slice_get (r ∷ rest) i ≡ Some q → (d : Core) (more : SavesFrom p w sp head (k + 1) rest d)
          → d.memory ≡ with_number 4 (register c r) (sp - (head + 4 * (k + 1))) c.memory → ((q : ℕ) → q ≢ help → register d q ≡ register c q)
          → register c r < 2 ^ 32 → head + 4 * (k + 1) ≤ sp → number_at 4 more.core.memory (sp - (head + 4 * (k + i + 1))) ≡ register c q
      by_number zero q e d more memory others small inside =
          let same : r ≡ q = cc in
          let here : sp - (head + 4 * (k + 0 + 1)) ≡ sp - (head + 4 * (k + 1)) = omega arith in
          ap (number_at 4 more.core.memory) here
          ∙ (same_number 4 (sp - (head + 4 * (k + 1))) more.core.memory d.memory (λ b from to. more.memory b (inr (omega (arith, inside, from))))
          ∙ (stored_again known (register c r) (sp - (head + 4 * (k + 1))) c d memory small ∙ ap (register c) same))
      by_number (suc i) q e d more memory others small inside =
          let here : sp - (head + 4 * (k + suc i + 1)) ≡ sp - (head + 4 * (k + 1 + i + 1)) = omega arith in
          let is = one_of rest i q registers.1 e in
          let least = is.low in
          ap (number_at 4 more.core.memory) here ∙ (more.stand i q e ∙ others q (λ e. omega (arith, e, least)))

  restores_from : (p : LineProgram) (w : Addresses) (sp head k size : ℕ) (saved : List ℕ) (c : Core) → IsAt p w sp c → IsOfWords c → IsTop w sp size → head % 4 ≡ 0
      → head + 4 * (k + length saved) ≤ size → AllByRecursion IsTempRegister saved → RestoresFrom p w sp head k saved c
  restores_from p w sp head k size [] c at holds top even within registers = record {
    core = c;
    goes = stays p w c at.skip;
    holds = holds;
    pointer = at.pointer;
    registers = λ r some other. register_is c r some;
    memory = refl;
  }
  restores_from p w sp head k size (r ∷ rest) c at holds top even within registers =
      let n = head + 4 * (k + 1) in
      let is = registers.0 in
      let least = is.low in
      let most = is.high in
      let some : r ≢ 0 = λ e. omega (arith, e, least) in
      let low = top.low in
      let inside : n ≤ sp = omega (arith, low, within) in
      let v = number_at 4 c.memory (sp - n) in
      let small : v < 2 ^ 32 = known.bounded 4 (sp - n) c.memory holds.memory in
      let lines = load_from (saved_offset head k) r in
      let l = load_below known p w r n sp c at inside (saved_is_stack w sp head k size top even (omega (arith, within))) some in
      let at_l = at_loaded known p w sp (words_of lines) r v c at (λ e. omega (arith, e, most)) l in
      let holds_l = holds_loaded known p w (words_of lines) r v c holds small l in
      let more = restores_from p w sp head (k + 1) size rest l.core at_l holds_l top even (omega (arith, within)) registers.1 in
      record {
        core = more.core;
        goes = lines_then known p w lines (saved_lines load_from head (k + 1) rest) [] [] c l.core more.core
            (loads_go p w (words_of lines) r v c l) more.goes;
        holds = more.holds;
        pointer = more.pointer;
        registers = λ q some other.
            more.registers q some other ∙ behind l.core l.memory (λ q some other. loaded q some other l.core l.value (λ q ne one. l.others q ne one)) q some other;
        memory = more.memory ∙ l.memory;
      }
    where
      place : sp - head - 4 * (k + 1) ≡ sp - (head + 4 * (k + 1))
      place = omega arith

      -- the register holds what stands in its word, and the others what they held
      loaded : (q : ℕ) → q ≢ 0 → q ≢ help → (d : Core) → register d r ≡ number_at 4 c.memory (sp - (head + 4 * (k + 1)))
          → ((q : ℕ) → q ≢ r → q ≢ help → register d q ≡ register c q) → d.registers q ≡ put r (number_at 4 c.memory (sp - head - 4 * (k + 1))) c.registers q
      loaded q some other d value others = by_register (cases_eq q r)
        where
          by_register : (q ≡ r) ⊎ (q ≡ r → ⊥) → d.registers q ≡ put r (number_at 4 c.memory (sp - head - 4 * (k + 1))) c.registers q
          by_register (inl same) =
              sym (register_is d q some) ∙ (ap (register d) same ∙ (value ∙ (ap (number_at 4 c.memory) (sym place)
              ∙ sym (ap (λ (t : Bool). if t then number_at 4 c.memory (sp - head - 4 * (k + 1)) else c.registers q) (eq-eqb q r same)))))
          by_register (inr ne) =
              sym (register_is d q some) ∙ (others q ne other ∙ (register_is c q some
              ∙ sym (ap (λ (t : Bool). if t then number_at 4 c.memory (sp - head - 4 * (k + 1)) else c.registers q) (ne_eqb q r ne))))

      behind : (d : Core) → d.memory ≡ c.memory → ((q : ℕ) → q ≢ 0 → q ≢ help → d.registers q ≡ put r (number_at 4 c.memory (sp - head - 4 * (k + 1))) c.registers q)
          → (q : ℕ) → q ≢ 0 → q ≢ help → given_back d.memory (sp - head) (k + 1) rest d.registers q ≡ given_back c.memory (sp - head) k (r ∷ rest) c.registers q
      behind d memory same q some other =
          let next : k + 1 ≡ suc k = omega arith in
          ap (λ (f : ℕ → ℕ). given_back f (sp - head) (k + 1) rest d.registers q) memory
          ∙ (ap (λ j. given_back c.memory (sp - head) j rest d.registers q) next
          ∙ same_given c.memory (sp - head) (suc k) rest d.registers (put r (number_at 4 c.memory (sp - head - 4 * (k + 1))) c.registers) same q some other)

  at_save : (p : LineProgram) (w : Addresses) (head : ℕ) (saved : List ℕ) (c : Core) → MaySave p w head saved c → IsAt p w (register c stack_pointer) c
  at_save p w head saved c may = record {
    lawful = may.lawful;
    small = top_small p w (register c stack_pointer) (head + 4 * length saved) may.lawful may.top;
    pointer = refl;
    skip = may.skip;
  }

  pub registers_saved : (p : LineProgram) (w : Addresses) (head : ℕ) (saved : List ℕ) (c : Core) → MaySave p w head saved c → Saves p w head saved c
  registers_saved p w head saved c may =
      let sp = register c stack_pointer in
      let s = saves_from p w sp head 0 (head + 4 * length saved) saved c (at_save p w head saved c may) may.holds may.top may.aligned (omega arith) may.registers in
      record {
        core = s.core;
        goes = s.goes;
        holds = s.holds;
        stand = λ i r e. (let here : sp - (head + 4 * (i + 1)) ≡ sp - (head + 4 * (0 + i + 1)) = omega arith in ap (number_at 4 s.core.memory) here) ∙ s.stand i r e;
        others = s.others;
        memory = λ b out. s.memory b (on b out);
      }
    where
      on : (b : ℕ) → (b + (head + 4 * length saved) < register c stack_pointer) ⊎ (register c stack_pointer ≤ b + head)
          → (b + (head + 4 * (0 + length saved)) < register c stack_pointer) ⊎ (register c stack_pointer ≤ b + (head + 4 * 0))
      on b (inl h) = inl (omega (arith, h))
      on b (inr h) = inr (omega (arith, h))

  pub registers_restored : (p : LineProgram) (w : Addresses) (head : ℕ) (saved : List ℕ) (c : Core) → MaySave p w head saved c → Restores p w head saved c
  registers_restored p w head saved c may =
      let s = restores_from p w (register c stack_pointer) head 0 (head + 4 * length saved) saved c (at_save p w head saved c may) may.holds may.top may.aligned (omega arith) may.registers in
      record { core = s.core; goes = s.goes; holds = s.holds; registers = s.registers; memory = s.memory }
