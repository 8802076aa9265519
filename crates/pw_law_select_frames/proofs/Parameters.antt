-- Parameters come to their places one after the other.
use Rattle.std.proofs.Common.{ℕ, ℤ, zero, suc, ◌≡◌, ◌≢◌, ◌+◌, ◌-◌, ◌*◌, ◌%◌, ◌^◌, ◌<◌, ◌≤◌, ◌⊎◌, inl, inr, arith, refl, ap, sym, subst, ◌∙◌, Bool, true, false, if◌then◌else◌, nat_lt, List, []}
use Rattle.std.proofs.lemmas.Bool.{cases_eq, cases_lt, ltb-false, ltb-true}
use Rattle.pw_inst.specs.Computing.{offset_by}
use Rattle.pw_inst.specs.Registers.{help, first, stack_pointer}
use Rattle.pw_alloc.specs.declared.located.Place.{Place}
use Rattle.pw_alloc.specs.declared.located.Place.TheVariants.{Slot, Reg}
use Rattle.pw_alloc.specs.Frames.{below}
use Rattle.pw_select_lines.specs.Registers.{place_of, copied, load_from, store_to}
use Rattle.pw_select.specs.Selection.{incoming, parameter_in, parameters_in}
use Rattle.pw_run_languages.specs.Addresses.{Addresses}
use Rattle.pw_run_languages.specs.Acts.{Core, register, number_at, with_number}
use Rattle.pw_run_languages.specs.LineRun.{LineProgram}
use Rattle.pw_run_languages.specs.Serving.{IsTempRegister}
use Rattle.pw_law_select_rows.specs.Straight.{words_of}
use Rattle.pw_law_select_rows.specs.Frames.{IsFrameWord, LoadsWord, StoresWord, frame_word}
use Rattle.pw_law_select_rows.specs.Places.{place_word}
use Rattle.pw_law_select_states.specs.States.{IsOfWords}
use Rattle.pw_law_select_frames.specs.Going.{Goes}
use Rattle.pw_law_select_frames.specs.Stack.{IsStackWord, IsTop, IsWordBelow, IsPlaceBelow}
use Rattle.pw_law_select_frames.specs.Arguments.{argument_word, arguments_size}
use Rattle.pw_law_select_frames.specs.Parameters.{MayReceive, Receives}
use Rattle.pw_law_select_frames.proofs.Known.{Known}
use Rattle.pw_law_select_frames.proofs.Going.{loads_go, stores_go, stays, lines_then}
use Rattle.pw_law_select_frames.proofs.Stack.{stack_word_is, frame_below, same_number, top_small}
use Rattle.pw_law_select_frames.proofs.Frame.{IsAt, load_below, slot_at, holds_stored, holds_loaded, at_stored, at_loaded, stored_again, byte_stays}

-- ---- two words of the frame

-- words that begin at different multiples of 4 have no byte in common
words_apart : (a b x : ℕ) → a % 4 ≡ 0 → b % 4 ≡ 0 → (a ≡ b → ⊥) → a ≤ x → x < a + 4 → (x < b) ⊎ (b + 4 ≤ x)
words_apart a b x even also ne from to = by_order (cases_lt b a)
  where
    by_order : (b < a) ⊎ (a ≤ b) → (x < b) ⊎ (b + 4 ≤ x)
    by_order (inl less) = inr (omega (arith, even, also, less, from))
    by_order (inr more) = inl (by_more (cases_eq a b))
      where
        by_more : (a ≡ b) ⊎ (a ≡ b → ⊥) → x < b
        by_more (inl same) = absurd (ne same)
        by_more (inr other) = omega (arith, even, also, more, other, to)

same_far : (sp a b : ℕ) → a ≤ sp → b ≤ sp → sp - a ≡ sp - b → a ≡ b
same_far sp a b low also e = omega (arith, low, also, e)

-- ---- a parameter

-- memory with a word in a place
abbrev pub memory_after : ℕ → Place → ℕ → (ℕ → ℕ) → ℕ → ℕ
memory_after sp (Reg r) n memory = memory
memory_after sp (Slot offset) n memory = with_number 4 n (offset_by sp offset) memory

-- the row of a parameter puts this word into this place
pub record PutsIn (p : LineProgram) (w : Addresses) (frame sp k : ℕ) (a : Place) (c : Core) : Type 0 where
  pub core : Core
  pub goes : Goes p w (words_of (parameter_in frame k a)) [] c core
  pub at : IsAt p w sp core
  pub holds : IsOfWords core
  pub value : place_word core a ≡ argument_word c (sp - frame) k
  pub registers : (r : ℕ) → r ≢ help → r ≢ first → a ≢ Reg r → register core r ≡ register c r
  pub memory : (b : ℕ) → ((offset : ℤ) → a ≡ Slot offset → (b < offset_by sp offset) ⊎ (offset_by sp offset + 4 ≤ b)) → core.memory b ≡ c.memory b
  pub whole : core.memory ≡ memory_after sp a (argument_word c (sp - frame) k) c.memory

-- those from a number on
record ReceivesFrom (p : LineProgram) (w : Addresses) (frame sp k more : ℕ) (places : List Place) (c : Core) : Type 0 where
  pub core : Core
  pub goes : Goes p w (words_of (parameters_in frame places k more)) [] c core
  pub holds : IsOfWords core
  pub pointer : register core stack_pointer ≡ sp
  pub stand : (j : ℕ) → k ≤ j → j < k + more → place_word core (place_of places j) ≡ argument_word c (sp - frame) j
  pub registers : (r : ℕ) → r ≢ help → r ≢ first → ((j : ℕ) → k ≤ j → j < k + more → place_of places j ≢ Reg r) → register core r ≡ register c r
  pub memory : (b : ℕ)
      → ((j : ℕ) (offset : ℤ) → k ≤ j → j < k + more → place_of places j ≡ Slot offset → (b < offset_by sp offset) ⊎ (offset_by sp offset + 4 ≤ b))
      → core.memory b ≡ c.memory b

-- what all parameters have in common
pub record IsReady (p : LineProgram) (w : Addresses) (frame sp n : ℕ) (places : List Place) : Type 0 where
  pub top : IsTop w sp frame
  pub even : frame % 4 ≡ 0
  pub stacked : 4 < n → w.base + frame + arguments_size n ≤ sp
  pub inside : (k : ℕ) → k < n → IsPlaceBelow w sp 0 frame (place_of places k)
  pub apart : (j k : ℕ) → j < n → k < n → j ≢ k → place_of places j ≢ place_of places k

module _ (known : Known) where
  -- the word of an argument in the caller's frame
  incoming_is_stack : (w : Addresses) (sp frame n k : ℕ) → IsTop w sp frame → frame % 4 ≡ 0 → w.base + frame + arguments_size n ≤ sp → 4 ≤ k → k < n
      → IsStackWord w (sp - (frame + 52 + 4 * (k - 4)))
  incoming_is_stack w sp frame n k top even room from less =
      let aligned = top.aligned in
      let high = top.high in
      record {
        aligned = omega (arith, aligned, even, room, from, less);
        low = omega (arith, room, from, less);
        high = omega (arith, room, high, from, less);
      }

  comes : (p : LineProgram) (w : Addresses) (frame sp n k d : ℕ) (places : List Place) (c : Core) → IsAt p w sp c → IsReady p w frame sp n places → k < n → d ≢ 0
      → LoadsWord p w (words_of (incoming frame k d)) d (argument_word c (sp - frame) k) c
  comes p w frame sp n k d places c at ready less some = by_test (nat_lt k 4) refl
    where
      far : ℕ
      far = frame + 52 + 4 * (k - 4)

      by_test : (t : Bool) → nat_lt k 4 ≡ t
          → LoadsWord p w (words_of (if t then copied (26 - k) d else load_from (below (frame + 52 + 4 * (k - 4))) d)) d
          (if t then register c (26 - k) else number_at 4 c.memory (sp - frame - (52 + 4 * (k - 4)))) c
      by_test true e = known.temporaries p w (Reg (26 - k)) d c some at.skip tt
      by_test false e =
          let from : 4 ≤ k = ltb-false k 4 e in
          let room = ready.stacked (omega (arith, from, less)) in
          let same : sp - (frame + 52 + 4 * (k - 4)) ≡ sp - frame - (52 + 4 * (k - 4)) = omega arith in
          subst (λ a. LoadsWord p w (words_of (load_from (below (frame + 52 + 4 * (k - 4))) d)) d (number_at 4 c.memory a) c) same
          (load_below known p w d (frame + 52 + 4 * (k - 4)) sp c at (omega (arith, room, from, less)) (incoming_is_stack w sp frame n k ready.top ready.even room from less) some)

  pub put_in : (p : LineProgram) (w : Addresses) (frame sp n k : ℕ) (places : List Place) (a : Place) (c : Core) → IsAt p w sp c → IsOfWords c → IsReady p w frame sp n places
      → k < n → argument_word c (sp - frame) k < 2 ^ 32 → IsPlaceBelow w sp 0 frame a → PutsIn p w frame sp k a c
  put_in p w frame sp n k places (Reg r) c at holds ready less small is =
      let low = is.low in
      let high = is.high in
      let v = argument_word c (sp - frame) k in
      let l = comes p w frame sp n k r places c at ready less (λ e. omega (arith, e, low)) in
      record {
        core = l.core;
        goes = loads_go p w (words_of (incoming frame k r)) r v c l;
        at = at_loaded known p w sp (words_of (incoming frame k r)) r v c at (λ e. omega (arith, e, high)) l;
        holds = holds_loaded known p w (words_of (incoming frame k r)) r v c holds small l;
        value = l.value;
        registers = λ q one two ne. l.others q (λ e. ne (ap Reg (sym e))) one;
        memory = λ b out. ap (λ f. f b) l.memory;
        whole = l.memory;
      }
  put_in p w frame sp n k places (Slot offset) c at holds ready less small is =
      let v = argument_word c (sp - frame) k in
      let l = comes p w frame sp n k first places c at ready less (λ e. omega (arith, e)) in
      let at_l = at_loaded known p w sp (words_of (incoming frame k first)) first v c at (λ e. omega (arith, e)) l in
      let holds_l = holds_loaded known p w (words_of (incoming frame k first)) first v c holds small l in
      let a = offset_by sp offset in
      let here : frame_word l.core offset ≡ a = ap (λ x. offset_by x offset) at_l.pointer in
      let word : IsFrameWord p w (frame_word l.core offset) =
      subst (IsFrameWord p w) (sym (slot_at known w sp 0 frame offset l.core at_l.pointer at.small is)) (stack_word_is p w (sp - is.far) at.lawful is.word) in
      let s : StoresWord p w (words_of (store_to offset first)) a (register l.core first) l.core =
      subst (λ x. StoresWord p w (words_of (store_to offset first)) x (register l.core first) l.core) here
      (known.stores p w offset first l.core (λ e. omega (arith, e)) at_l.skip word) in
      let at_s = at_stored known p w sp (words_of (store_to offset first)) a (register l.core first) l.core at_l s in
      let memory : s.core.memory ≡ with_number 4 v a c.memory =
      s.memory ∙ (ap (λ x. with_number 4 x a l.core.memory) l.value ∙ ap (with_number 4 v a) l.memory) in
      record {
        core = s.core;
        goes = lines_then known p w (incoming frame k first) (store_to offset first) [] [] c l.core s.core
            (loads_go p w (words_of (incoming frame k first)) first v c l)
            (stores_go p w (words_of (store_to offset first)) a (register l.core first) l.core s);
        at = at_s;
        holds = holds_stored known p w (words_of (store_to offset first)) a (register l.core first) l.core holds_l s;
        value = ap (λ x. number_at 4 s.core.memory (offset_by x offset)) at_s.pointer ∙ stored_again known v a c s.core memory small;
        registers = λ q one two ne. s.others q one ∙ l.others q two one;
        memory = λ b out. byte_stays known v a b c s.core memory (out offset refl);
        whole = memory;
      }

  -- the other arguments stand where they stood
  pub argument_stays : (p : LineProgram) (w : Addresses) (frame sp n k : ℕ) (places : List Place) (c : Core) → IsAt p w sp c → IsReady p w frame sp n places → k < n
      → (d : PutsIn p w frame sp k (place_of places k) c) (j : ℕ) → j < n → argument_word d.core (sp - frame) j ≡ argument_word c (sp - frame) j
  argument_stays p w frame sp n k places c at ready here d j less = by_test (nat_lt j 4) refl
    where
      is : IsPlaceBelow w sp 0 frame (place_of places k)
      is = ready.inside k here

      other : (r : ℕ) → 20 < r → place_of places k ≢ Reg r
      other r high e = let temp : IsTempRegister r = subst (IsPlaceBelow w sp 0 frame) e is in let most = temp.high in omega (arith, most, high)

      below_frame : (b : ℕ) → b < sp - frame → (offset : ℤ) → place_of places k ≡ Slot offset → (b < offset_by sp offset) ⊎ (offset_by sp offset + 4 ≤ b)
      below_frame b low offset e =
          let word : IsWordBelow w sp 0 frame offset = subst (IsPlaceBelow w sp 0 frame) e is in
          let spot = frame_below sp word.far offset word.is word.inside at.small in
          let most = word.high in
          inl (subst (λ y. b < y) (sym spot) (let far = word.far in omega (arith, low, most)))

      by_test : (t : Bool) → nat_lt j 4 ≡ t
          → (if t then register d.core (26 - j) else number_at 4 d.core.memory (sp - frame - (52 + 4 * (j - 4))))
          ≡ (if t then register c (26 - j) else number_at 4 c.memory (sp - frame - (52 + 4 * (j - 4))))
      by_test true e =
          let few : j < 4 = ltb-true j 4 e in
          d.registers (26 - j) (λ e. omega (arith, e, few)) (λ e. omega (arith, e, few)) (other (26 - j) (omega (arith, few)))
      by_test false e =
          let from : 4 ≤ j = ltb-false j 4 e in
          let room = ready.stacked (omega (arith, from, less)) in
          same_number 4 (sp - frame - (52 + 4 * (j - 4))) d.core.memory c.memory
          (λ b low high. d.memory b (below_frame b (omega (arith, high, room, from, less))))

  -- ---- all of them

  received : (p : LineProgram) (w : Addresses) (frame sp n k more : ℕ) (places : List Place) (c : Core) → IsAt p w sp c → IsOfWords c → IsReady p w frame sp n places
      → ((j : ℕ) → k ≤ j → j < n → argument_word c (sp - frame) j < 2 ^ 32) → k + more ≡ n → ReceivesFrom p w frame sp k more places c
  received p w frame sp n k zero places c at holds ready words count = record {
    core = c;
    goes = stays p w c at.skip;
    holds = holds;
    pointer = at.pointer;
    stand = λ j from less. absurd (omega (arith, from, less));
    registers = λ r one two h. refl;
    memory = λ b h. refl;
  }
  received p w frame sp n k (suc more) places c at holds ready words count =
      let a = place_of places k in
      let less : k < n = omega (arith, count) in
      let d = put_in p w frame sp n k places a c at holds ready less (words k (omega arith) less) (ready.inside k less) in
      let rest = received p w frame sp n (k + 1) more places d.core d.at d.holds ready
      (λ j from less. subst (λ x. x < 2 ^ 32) (sym (argument_stays p w frame sp n k places c at ready (omega (arith, count)) d j less)) (words j (omega (arith, from)) less)) (omega (arith, count)) in
      record {
        core = rest.core;
        goes = lines_then known p w (parameter_in frame k a) (parameters_in frame places (suc k) more) [] [] c d.core rest.core d.goes
            (subst (λ j. Goes p w (words_of (parameters_in frame places j more)) [] d.core rest.core) next rest.goes);
        holds = rest.holds;
        pointer = rest.pointer;
        stand = λ j from to. by_number j to d rest (cases_eq j k) from;
        registers = λ r one two h. rest.registers r one two (λ j from to. h j (omega (arith, from)) (omega (arith, to))) ∙ d.registers r one two (h k (omega arith) (omega arith));
        memory = λ b h. rest.memory b (λ j offset from to. h j offset (omega (arith, from)) (omega (arith, to))) ∙ d.memory b (λ offset. h k offset (omega arith) (omega arith));
      }
    where
      next : k + 1 ≡ suc k
      next = omega arith

      -- the place of a parameter that is there is none of those behind it
      stays_there : (d : PutsIn p w frame sp k (place_of places k) c) (rest : ReceivesFrom p w frame sp (k + 1) more places d.core) (b : Place) → place_of places k ≡ b
          → IsPlaceBelow w sp 0 frame b → place_word rest.core b ≡ place_word d.core b
      stays_there d rest (Reg r) same is =
          let low = is.low in
          let high = is.high in
          rest.registers r (λ e. omega (arith, e, low)) (λ e. omega (arith, e, high))
          (λ j from to e. ready.apart j k (omega (arith, to, count)) (omega (arith, count)) (λ e. omega (arith, e, from)) (e ∙ sym same))
      stays_there d rest (Slot offset) same is =
          ap (λ x. number_at 4 rest.core.memory (offset_by x offset)) rest.pointer
          ∙ (same_number 4 (offset_by sp offset) rest.core.memory d.core.memory
          (λ x from to. rest.memory x (λ j other low high e. apart x j other low high e from to))
          ∙ sym (ap (λ x. number_at 4 d.core.memory (offset_by x offset)) d.at.pointer))
        where
          apart : (x j : ℕ) (other : ℤ) → k + 1 ≤ j → j < k + 1 + more → place_of places j ≡ Slot other → offset_by sp offset ≤ x → x < offset_by sp offset + 4
              → (x < offset_by sp other) ⊎ (offset_by sp other + 4 ≤ x)
          apart x j other low high e from to =
              let less : j < n = omega (arith, high, count) in
              let also : IsWordBelow w sp 0 frame other = subst (IsPlaceBelow w sp 0 frame) e (ready.inside j less) in
              let here = frame_below sp is.far offset is.is is.inside at.small in
              let there = frame_below sp also.far other also.is also.inside at.small in
              words_apart (offset_by sp offset) (offset_by sp other) x
              (ap (λ y. y % 4) here ∙ is.word.aligned) (ap (λ y. y % 4) there ∙ also.word.aligned)
              (λ one. ready.apart j k less (omega (arith, count)) (λ e. omega (arith, e, low))
              (e ∙ (ap Slot (also.is ∙ (ap below (same_far sp also.far is.far also.inside is.inside (sym there ∙ (sym one ∙ here))) ∙ sym is.is)) ∙ sym same)))
              from to

      by_number : (j : ℕ) → j < k + suc more → (d : PutsIn p w frame sp k (place_of places k) c) (rest : ReceivesFrom p w frame sp (k + 1) more places d.core)
          → (j ≡ k) ⊎ (j ≡ k → ⊥) → k ≤ j → place_word rest.core (place_of places j) ≡ argument_word c (sp - frame) j
      by_number j to d rest (inl same) from =
          ap (λ j. place_word rest.core (place_of places j)) same
          ∙ (stays_there d rest (place_of places k) refl (ready.inside k (omega (arith, count))) ∙ (d.value ∙ ap (argument_word c (sp - frame)) (sym same)))
      by_number j to d rest (inr ne) from =
          rest.stand j (omega (arith, from, ne)) (omega (arith, to)) ∙ argument_stays p w frame sp n k places c at ready (omega (arith, count)) d j (omega (arith, to, count))

  pub parameters_received : (p : LineProgram) (w : Addresses) (frame : ℕ) (places : List Place) (n : ℕ) (c : Core) → MayReceive p w frame places n c → Receives p w frame places n c
  parameters_received p w frame places n c may =
      let sp = register c stack_pointer in
      let at : IsAt p w sp c = record { lawful = may.lawful; small = top_small p w sp frame may.lawful may.top; pointer = refl; skip = may.skip } in
      let r = received p w frame sp n 0 n places c at may.holds
      (record { top = may.top; even = may.aligned; stacked = may.stacked; inside = may.inside; apart = may.apart }) (λ j from less. may.words j less) (omega arith) in
      record {
        core = r.core;
        goes = r.goes;
        holds = r.holds;
        stand = λ k less. r.stand k (omega arith) (omega (arith, less));
        registers = λ q one two h. r.registers q one two (λ j from to. h j (omega (arith, to)));
        memory = λ b h. r.memory b (λ j offset from to. h j offset (omega (arith, to)));
      }
