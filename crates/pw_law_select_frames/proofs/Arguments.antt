-- Arguments: those behind the fourth go to the frame, the others to registers.
use Rattle.std.proofs.Common.{ℕ, zero, suc, pos, ◌-ℤ◌, ◌≡◌, ◌≢◌, ◌+◌, ◌-◌, ◌*◌, ◌^◌, ◌<◌, ◌≤◌, ◌⊎◌, inl, inr, arith, refl, ap, sym, subst, ◌∙◌, Bool, if◌then◌else◌, Some, List, [], ◌∷◌, ◌++◌, length, take, drop, slice_get}
use Rattle.std.specs.List.{AllByRecursion}
use Rattle.std.proofs.lemmas.Int.{ints}
use Rattle.std.proofs.lemmas.Bool.{cases_lt, lt-ltb, le-ltb}
use Rattle.pw_inst.specs.Registers.{help, first, stack_pointer}
use Rattle.pw_alloc.specs.declared.located.Place.{Place}
use Rattle.pw_alloc.specs.Frames.{below}
use Rattle.pw_run_languages.specs.Addresses.{Addresses}
use Rattle.pw_run_languages.specs.Acts.{Core, register, number_at, with_number}
use Rattle.pw_run_languages.specs.LineRun.{LineProgram}
use Rattle.pw_select_lines.specs.Registers.{store_to, loaded}
use Rattle.pw_select_lines.specs.Operations.{stacked_arguments, register_arguments}
use Rattle.pw_law_select_rows.specs.Straight.{words_of}
use Rattle.pw_law_select_rows.specs.Places.{place_word}
use Rattle.pw_law_select_states.specs.States.{IsOfWords}
use Rattle.pw_law_select_frames.specs.Going.{Goes}
use Rattle.pw_law_select_frames.specs.Stack.{IsStackWord, IsTop, IsPlaceBelow}
use Rattle.pw_law_select_frames.specs.Arguments.{argument_word, arguments_size, MayPass, Passes, PassesBoth, passing}
use Rattle.pw_law_select_frames.proofs.Known.{Known}
use Rattle.pw_law_select_frames.proofs.Going.{loads_go, stores_go, stays, lines_then}
use Rattle.pw_law_select_frames.proofs.Stack.{same_number, top_small}
use Rattle.pw_law_select_frames.proofs.Frame.{IsAt, store_below, in_reach, place_small, same_place, holds_stored, holds_loaded, at_stored, at_loaded, stored_again, byte_stays}

-- ---- lists

pub all_at : (P : Place → Type 0) (xs : List Place) (k : ℕ) (a : Place) → AllByRecursion P xs → slice_get xs k ≡ Some a → P a
all_at P [] k a h e = absurd cc
all_at P (x ∷ xs) zero a h e = let same : x ≡ a = cc in subst P same h.0
all_at P (x ∷ xs) (suc k) a h e = all_at P xs k a h.1 e

taken : (n k : ℕ) (xs : List Place) → k < n → slice_get (take n xs) k ≡ slice_get xs k
taken zero k xs less = absurd (omega (arith, less))
taken (suc n) k [] less = refl
taken (suc n) zero (x ∷ xs) less = refl
taken (suc n) (suc k) (x ∷ xs) less = taken n k xs (omega (arith, less))

dropped : (n k : ℕ) (xs : List Place) → slice_get (drop n xs) k ≡ slice_get xs (n + k)
dropped zero k xs = let e : 0 + k ≡ k = omega arith in ap (slice_get xs) (sym e)
dropped (suc n) k [] = refl
dropped (suc n) k (x ∷ xs) = dropped n k xs ∙ (let e : suc (n + k) ≡ suc n + k = omega arith in ap (slice_get (x ∷ xs)) e)

all_taken : (P : Place → Type 0) (n : ℕ) (xs : List Place) → AllByRecursion P xs → AllByRecursion P (take n xs)
all_taken P zero xs h = tt
all_taken P (suc n) [] h = tt
all_taken P (suc n) (x ∷ xs) h = (h.0, all_taken P n xs h.1)

all_dropped : (P : Place → Type 0) (n : ℕ) (xs : List Place) → AllByRecursion P xs → AllByRecursion P (drop n xs)
all_dropped P zero xs h = h
all_dropped P (suc n) [] h = tt
all_dropped P (suc n) (x ∷ xs) h = all_dropped P n xs h.1

taken_length : (n : ℕ) (xs : List Place) → length (take n xs) ≤ n
taken_length zero xs = omega arith
taken_length (suc n) [] = omega arith
taken_length (suc n) (x ∷ xs) = let h = taken_length n xs in omega (arith, h)

dropped_length : (n : ℕ) (xs : List Place) → length (drop n xs) ≡ length xs - n
dropped_length zero xs = omega arith
dropped_length (suc n) [] = omega arith
dropped_length (suc n) (x ∷ xs) = let h = dropped_length n xs in omega (arith, h)

-- ---- the arguments behind the fourth, by how many of them went before

-- so much of the frame is for these
abbrev head : ℕ → ℕ
head n = 48 + 4 * n

pub record Stacks (p : LineProgram) (w : Addresses) (sp j : ℕ) (args : List Place) (c : Core) : Type 0 where
  pub core : Core
  pub goes : Goes p w (words_of (stacked_arguments (below (52 + 4 * j)) args)) [] c core
  pub holds : IsOfWords core
  pub stand : (k : ℕ) (a : Place) → slice_get args k ≡ Some a → number_at 4 core.memory (sp - (52 + 4 * (j + k))) ≡ place_word c a
  pub others : (r : ℕ) → r ≢ help → r ≢ first → register core r ≡ register c r
  pub memory : (b : ℕ) → (b + (48 + 4 * (j + length args)) < sp) ⊎ (sp ≤ b + (48 + 4 * j)) → core.memory b ≡ c.memory b

module _ (known : Known) where
  -- the word of an argument is one of the stack
  argument_is_stack : (w : Addresses) (sp total j : ℕ) → IsTop w sp (head total) → j < total → IsStackWord w (sp - (52 + 4 * j))
  argument_is_stack w sp total j top less =
      let aligned = top.aligned in
      let low = top.low in
      let high = top.high in
      record {
        aligned = omega (arith, aligned, low, less);
        low = omega (arith, low, less);
        high = omega (arith, low, high, less);
      }

  lower : (j : ℕ) → below (52 + 4 * j) -ℤ pos 4 ≡ below (52 + 4 * (j + 1))
  lower j = omega (arith, ints)

  stacked : (p : LineProgram) (w : Addresses) (sp total j : ℕ) (args : List Place) (c : Core) → IsAt p w sp c → IsOfWords c → IsTop w sp (head total)
      → AllByRecursion (IsPlaceBelow w sp (head total) sp) args → j + length args ≡ total → Stacks p w sp j args c
  stacked p w sp total j [] c at holds top places count = record {
    core = c;
    goes = stays p w c at.skip;
    holds = holds;
    stand = λ k a e. absurd cc;
    others = λ r one other. refl;
    memory = λ b out. refl;
  }
  stacked p w sp total j (a ∷ rest) c at holds top places count =
      let n = 52 + 4 * j in
      let v = place_word c a in
      let less : j < total = omega (arith, count) in
      let low = top.low in
      let inside : n ≤ sp = omega (arith, low, less) in
      let some : first ≢ 0 = λ e. omega (arith, e) in
      let other : first ≢ help = λ e. omega (arith, e) in
      let apart : stack_pointer ≢ first = λ e. omega (arith, e) in
      let small : v < 2 ^ 32 = place_small known w sp (head total) sp a c holds places.0 in
      let l = known.temporaries p w a first c some at.skip (in_reach known p w sp (head total) sp a c at places.0) in
      let at_l = at_loaded known p w sp (words_of (loaded a first)) first v c at apart l in
      let s = store_below known p w first n sp l.core at_l inside (argument_is_stack w sp total j top less) other in
      let at_s = at_stored known p w sp (words_of (store_to (below n) first)) (sp - n) (register l.core first) l.core at_l s in
      let holds_l = holds_loaded known p w (words_of (loaded a first)) first v c holds small l in
      let holds_s = holds_stored known p w (words_of (store_to (below n) first)) (sp - n) (register l.core first) l.core holds_l s in
      let memory : s.core.memory ≡ with_number 4 v (sp - n) c.memory =
      s.memory ∙ (ap (λ x. with_number 4 x (sp - n) l.core.memory) l.value ∙ ap (with_number 4 v (sp - n)) l.memory) in
      let others : (r : ℕ) → r ≢ help → r ≢ first → register s.core r ≡ register c r =
      λ r one two. s.others r one ∙ l.others r two one in
      let bytes : (b : ℕ) → (b < sp - n) ⊎ (sp - n + 4 ≤ b) → s.core.memory b ≡ c.memory b =
      λ b out. byte_stays known v (sp - n) b c s.core memory out in
      let more = stacked p w sp total (j + 1) rest s.core at_s holds_s top places.1 (omega (arith, count)) in
      record {
        core = more.core;
        goes = lines_then known p w (loaded a first ++ store_to (below n) first) (stacked_arguments (below n -ℤ pos 4) rest) [] [] c s.core more.core
            (lines_then known p w (loaded a first) (store_to (below n) first) [] [] c l.core s.core
            (loads_go p w (words_of (loaded a first)) first v c l)
            (stores_go p w (words_of (store_to (below n) first)) (sp - n) (register l.core first) l.core s))
            (subst (λ o. Goes p w (words_of (stacked_arguments o rest)) [] s.core more.core) (sym (lower j)) more.goes);
        holds = more.holds;
        stand = λ k b e. by_number k b e s.core more memory others bytes small inside;
        others = λ r one two. more.others r one two ∙ others r one two;
        memory = λ b out. more.memory b (on b out) ∙ bytes b (off b out inside);
      }
    where
      on : (b : ℕ) → (b + (48 + 4 * (j + length (a ∷ rest))) < sp) ⊎ (sp ≤ b + (48 + 4 * j)) → (b + (48 + 4 * (j + 1 + length rest)) < sp) ⊎ (sp ≤ b + (48 + 4 * (j + 1)))
      on b (inl h) = inl (omega (arith, h))
      on b (inr h) = inr (omega (arith, h))

      off : (b : ℕ) → (b + (48 + 4 * (j + length (a ∷ rest))) < sp) ⊎ (sp ≤ b + (48 + 4 * j)) → 52 + 4 * j ≤ sp → (b < sp - (52 + 4 * j)) ⊎ (sp - (52 + 4 * j) + 4 ≤ b)
      off b (inl h) inside = inl (omega (arith, h, inside))
      off b (inr h) inside = inr (omega (arith, h, inside))

      by_number : (k : ℕ) (b : Place) → slice_get (a ∷ rest) k ≡ Some b → (d : Core) (more : Stacks p w sp (j + 1) rest d)
          → d.memory ≡ with_number 4 (place_word c a) (sp - (52 + 4 * j)) c.memory → ((r : ℕ) → r ≢ help → r ≢ first → register d r ≡ register c r)
          → ((b : ℕ) → (b < sp - (52 + 4 * j)) ⊎ (sp - (52 + 4 * j) + 4 ≤ b) → d.memory b ≡ c.memory b) → place_word c a < 2 ^ 32 → 52 + 4 * j ≤ sp
          → number_at 4 more.core.memory (sp - (52 + 4 * (j + k))) ≡ place_word c b
      by_number zero b e d more memory others bytes small inside =
          let same : a ≡ b = cc in
          let here : sp - (52 + 4 * (j + 0)) ≡ sp - (52 + 4 * j) = omega arith in
          ap (number_at 4 more.core.memory) here
          ∙ (same_number 4 (sp - (52 + 4 * j)) more.core.memory d.memory (λ b from to. more.memory b (inr (omega (arith, inside, from))))
          ∙ (stored_again known (place_word c a) (sp - (52 + 4 * j)) c d memory small ∙ ap (place_word c) same))
      by_number (suc k) b e d more memory others bytes small inside =
          let here : sp - (52 + 4 * (j + suc k)) ≡ sp - (52 + 4 * (j + 1 + k)) = omega arith in
          let low = top.low in
          ap (number_at 4 more.core.memory) here
          ∙ (more.stand k b e
          ∙ same_place known w sp (head total) sp b c d at.pointer (others stack_pointer (λ e. omega (arith, e)) (λ e. omega (arith, e)) ∙ at.pointer) at.small
          (all_at (IsPlaceBelow w sp (head total) sp) rest k b places.1 e)
          (λ r is. let low = is.low in let high = is.high in others r (λ e. omega (arith, e, low)) (λ e. omega (arith, e, high)))
          (λ b from to. bytes b (inl (omega (arith, count, to, inside)))))

  -- ---- the first four, from a register downward

  pub record InRegisters (p : LineProgram) (w : Addresses) (r : ℕ) (args : List Place) (c : Core) : Type 0 where
    pub core : Core
    pub goes : Goes p w (words_of (register_arguments r args)) [] c core
    pub holds : IsOfWords core
    pub stand : (k : ℕ) (a : Place) → slice_get args k ≡ Some a → register core (r - k) ≡ place_word c a
    pub others : (q : ℕ) → q ≢ help → (q + length args ≤ r) ⊎ (r < q) → register core q ≡ register c q
    pub memory : core.memory ≡ c.memory

  in_registers : (p : LineProgram) (w : Addresses) (sp least r : ℕ) (args : List Place) (c : Core) → IsAt p w sp c → IsOfWords c
      → AllByRecursion (IsPlaceBelow w sp least sp) args → r ≤ 26 → 22 + length args ≤ r → InRegisters p w r args c
  in_registers p w sp least r [] c at holds places high low = record {
    core = c;
    goes = stays p w c at.skip;
    holds = holds;
    stand = λ k a e. absurd cc;
    others = λ q one out. refl;
    memory = refl;
  }
  in_registers p w sp least r (a ∷ rest) c at holds places high low =
      let some : r ≢ 0 = λ e. omega (arith, e, low) in
      let apart : stack_pointer ≢ r = λ e. omega (arith, e, high) in
      let v = place_word c a in
      let small : v < 2 ^ 32 = place_small known w sp least sp a c holds places.0 in
      let l = known.temporaries p w a r c some at.skip (in_reach known p w sp least sp a c at places.0) in
      let at_l = at_loaded known p w sp (words_of (loaded a r)) r v c at apart l in
      let holds_l = holds_loaded known p w (words_of (loaded a r)) r v c holds small l in
      let more = in_registers p w sp least (r - 1) rest l.core at_l holds_l places.1 (omega (arith, high)) (omega (arith, low)) in
      record {
        core = more.core;
        goes = lines_then known p w (loaded a r) (register_arguments (r - 1) rest) [] [] c l.core more.core
            (loads_go p w (words_of (loaded a r)) r v c l) more.goes;
        holds = more.holds;
        stand = λ k b e. by_number k b e l.core more l.value at_l.pointer (λ q one two. l.others q two one) l.memory;
        others = λ q one out. more.others q one (on q out) ∙ l.others q (λ e. off q e out) one;
        memory = more.memory ∙ l.memory;
      }
    where
      on : (q : ℕ) → (q + length (a ∷ rest) ≤ r) ⊎ (r < q) → (q + length rest ≤ r - 1) ⊎ (r - 1 < q)
      on q (inl h) = inl (omega (arith, h))
      on q (inr h) = inr (omega (arith, h))

      off : (q : ℕ) → q ≡ r → (q + length (a ∷ rest) ≤ r) ⊎ (r < q) → ⊥
      off q e (inl h) = omega (arith, e, h)
      off q e (inr h) = omega (arith, e, h)

      by_number : (k : ℕ) (b : Place) → slice_get (a ∷ rest) k ≡ Some b → (d : Core) (more : InRegisters p w (r - 1) rest d) → register d r ≡ place_word c a
          → register d stack_pointer ≡ sp → ((q : ℕ) → q ≢ help → q ≢ r → register d q ≡ register c q) → d.memory ≡ c.memory
          → register more.core (r - k) ≡ place_word c b
      by_number zero b e d more value pointer others memory =
          let same : a ≡ b = cc in
          let here : r - 0 ≡ r = omega arith in
          ap (register more.core) here
          ∙ (more.others r (λ e. omega (arith, e, low)) (inr (omega (arith, low))) ∙ (value ∙ ap (place_word c) same))
      by_number (suc k) b e d more value pointer others memory =
          let here : r - suc k ≡ r - 1 - k = omega arith in
          ap (register more.core) here
          ∙ (more.stand k b e
          ∙ same_place known w sp least sp b c d at.pointer pointer at.small (all_at (IsPlaceBelow w sp least sp) rest k b places.1 e)
          (λ q is. let high = is.high in let from = is.low in others q (λ e. omega (arith, e, from)) (λ e. omega (arith, e, high, low)))
          (λ b from to. ap (λ f. f b) memory))

  -- ---- all of them

  at_start : (p : LineProgram) (w : Addresses) (args : List Place) (c : Core) → MayPass p w args c → IsAt p w (register c stack_pointer) c
  at_start p w args c may = record {
    lawful = may.lawful;
    small = top_small p w (register c stack_pointer) (arguments_size (length args)) may.lawful may.top;
    pointer = refl;
    skip = may.skip;
  }

  goes_on : (p : LineProgram) (w : Addresses) (sp j : ℕ) (args : List Place) (c : Core) → IsAt p w sp c → (s : Stacks p w sp j args c) → IsAt p w sp s.core
  goes_on p w sp j args c at s = record {
    lawful = at.lawful;
    small = at.small;
    pointer = s.others stack_pointer (λ e. omega (arith, e)) (λ e. omega (arith, e)) ∙ at.pointer;
    skip = s.goes.skip;
  }

  -- an argument by its number, from where both parts put them
  both_stand : (p : LineProgram) (w : Addresses) (sp : ℕ) (args : List Place) (c d : Core) (s : Stacks p w sp 0 (drop 4 args) c) (t : InRegisters p w 26 (take 4 args) d)
      → ((k : ℕ) (a : Place) → slice_get (take 4 args) k ≡ Some a → place_word d a ≡ place_word c a) → t.core.memory ≡ s.core.memory
      → (k : ℕ) (a : Place) → slice_get args k ≡ Some a → argument_word t.core sp k ≡ place_word c a
  both_stand p w sp args c d s t same memory k a is = by_number (cases_lt k 4)
    where
      by_number : (k < 4) ⊎ (4 ≤ k) → argument_word t.core sp k ≡ place_word c a
      by_number (inl less) =
          let there : slice_get (take 4 args) k ≡ Some a = taken 4 k args less ∙ is in
          ap (λ (b : Bool). if b then register t.core (26 - k) else number_at 4 t.core.memory (sp - (52 + 4 * (k - 4)))) (lt-ltb k 4 less)
          ∙ (t.stand k a there ∙ same k a there)
      by_number (inr more) =
          let whole : 4 + (k - 4) ≡ k = omega (arith, more) in
          let there : slice_get (drop 4 args) (k - 4) ≡ Some a = dropped 4 (k - 4) args ∙ (ap (slice_get args) whole ∙ is) in
          let here : sp - (52 + 4 * (k - 4)) ≡ sp - (52 + 4 * (0 + (k - 4))) = omega arith in
          ap (λ (b : Bool). if b then register t.core (26 - k) else number_at 4 t.core.memory (sp - (52 + 4 * (k - 4)))) (le-ltb k 4 more)
          ∙ (ap (λ (f : ℕ → ℕ). number_at 4 f (sp - (52 + 4 * (k - 4)))) memory ∙ (ap (number_at 4 s.core.memory) here ∙ s.stand (k - 4) a there))

  pub arguments_passed : (p : LineProgram) (w : Addresses) (args : List Place) (c : Core) → MayPass p w args c → Passes p w (passing args) args c
  arguments_passed p w args c may =
      let sp = register c stack_pointer in
      let total = length args - 4 in
      let at = at_start p w args c may in
      let s = stacked p w sp total 0 (drop 4 args) c at may.holds may.top (all_dropped (IsPlaceBelow w sp (head total) sp) 4 args may.places) (let e = dropped_length 4 args in omega (arith, e)) in
      let at_s = goes_on p w sp 0 (drop 4 args) c at s in
      let t = in_registers p w sp (head total) 26 (take 4 args) s.core at_s s.holds (all_taken (IsPlaceBelow w sp (head total) sp) 4 args may.places) (omega arith) (let h = taken_length 4 args in omega (arith, h)) in
      record {
        core = t.core;
        goes = lines_then known p w (stacked_arguments (below 52) (drop 4 args)) (register_arguments 26 (take 4 args)) [] [] c s.core t.core s.goes t.goes;
        holds = t.holds;
        stand = both_stand p w sp args c s.core s t
            (λ k a e. same_place known w sp (head total) sp a c s.core at.pointer at_s.pointer at.small (all_at (IsPlaceBelow w sp (head total) sp) (take 4 args) k a (all_taken (IsPlaceBelow w sp (head total) sp) 4 args may.places) e)
            (λ r is. let low = is.low in let high = is.high in s.others r (λ e. omega (arith, e, low)) (λ e. omega (arith, e, high)))
            (λ b from to. s.memory b (inl (let e = dropped_length 4 args in omega (arith, e, to))))) t.memory;
        registers = λ r one out. t.others r one (on r out) ∙ s.others r one (λ e. off r e out);
        memory = λ b out. ap (λ f. f b) t.memory ∙ s.memory b (bytes b out);
      }
    where
      on : (r : ℕ) → (r < 22) ⊎ (26 < r) → (r + length (take 4 args) ≤ 26) ⊎ (26 < r)
      on r (inl h) = inl (let l = taken_length 4 args in omega (arith, h, l))
      on r (inr h) = inr h

      off : (r : ℕ) → r ≡ 22 → (r < 22) ⊎ (26 < r) → ⊥
      off r e (inl h) = omega (arith, e, h)
      off r e (inr h) = omega (arith, e, h)

      bytes : (b : ℕ) → (b + arguments_size (length args) < register c stack_pointer) ⊎ (register c stack_pointer ≤ b + 48)
          → (b + (48 + 4 * (0 + length (drop 4 args))) < register c stack_pointer) ⊎ (register c stack_pointer ≤ b + (48 + 4 * 0))
      bytes b (inl h) = inl (let e = dropped_length 4 args in omega (arith, e, h))
      bytes b (inr h) = inr (omega (arith, h))

  pub arguments_passed_by_value : (p : LineProgram) (w : Addresses) (f : Place) (args : List Place) (c : Core) → MayPass p w args c
      → IsPlaceBelow w (register c stack_pointer) (arguments_size (length args)) (register c stack_pointer) f → PassesBoth p w f args c
  arguments_passed_by_value p w f args c may place =
      let sp = register c stack_pointer in
      let total = length args - 4 in
      let at = at_start p w args c may in
      let s = stacked p w sp total 0 (drop 4 args) c at may.holds may.top (all_dropped (IsPlaceBelow w sp (head total) sp) 4 args may.places) (let e = dropped_length 4 args in omega (arith, e)) in
      let at_s = goes_on p w sp 0 (drop 4 args) c at s in
      let same : (a : Place) → IsPlaceBelow w sp (head total) sp a → place_word s.core a ≡ place_word c a =
      λ a is. same_place known w sp (head total) sp a c s.core at.pointer at_s.pointer at.small is
      (λ r is. let low = is.low in let high = is.high in s.others r (λ e. omega (arith, e, low)) (λ e. omega (arith, e, high)))
      (λ b from to. s.memory b (inl (let e = dropped_length 4 args in omega (arith, e, to)))) in
      let l = known.temporaries p w f first s.core (λ e. omega (arith, e)) at_s.skip (in_reach known p w sp (head total) sp f s.core at_s place) in
      let at_l = at_loaded known p w sp (words_of (loaded f first)) first (place_word s.core f) s.core at_s (λ e. omega (arith, e)) l in
      let holds_l = holds_loaded known p w (words_of (loaded f first)) first (place_word s.core f) s.core s.holds (place_small known w sp (head total) sp f s.core s.holds place) l in
      let again : (a : Place) → IsPlaceBelow w sp (head total) sp a → place_word l.core a ≡ place_word c a =
      λ a is. same_place known w sp (head total) sp a s.core l.core at_s.pointer at_l.pointer at.small is
      (λ r is. let low = is.low in let high = is.high in l.others r (λ e. omega (arith, e, high)) (λ e. omega (arith, e, low)))
      (λ b from to. ap (λ f. f b) l.memory) ∙ same a is in
      let t = in_registers p w sp (head total) 26 (take 4 args) l.core at_l holds_l (all_taken (IsPlaceBelow w sp (head total) sp) 4 args may.places) (omega arith) (let h = taken_length 4 args in omega (arith, h)) in
      record {
        passes = record {
          core = t.core;
          goes = lines_then known p w (stacked_arguments (below 52) (drop 4 args) ++ loaded f first) (register_arguments 26 (take 4 args)) [] [] c l.core t.core
              (lines_then known p w (stacked_arguments (below 52) (drop 4 args)) (loaded f first) [] [] c s.core l.core s.goes
              (loads_go p w (words_of (loaded f first)) first (place_word s.core f) s.core l)) t.goes;
          holds = t.holds;
          stand = both_stand p w sp args c l.core s t (λ k a e. again a (all_at (IsPlaceBelow w sp (head total) sp) (take 4 args) k a (all_taken (IsPlaceBelow w sp (head total) sp) 4 args may.places) e)) (t.memory ∙ l.memory);
          registers = λ r one out. t.others r one (on r out) ∙ (l.others r (λ e. off r e out) one ∙ s.others r one (λ e. off r e out));
          memory = λ b out. ap (λ f. f b) t.memory ∙ (ap (λ f. f b) l.memory ∙ s.memory b (bytes b out));
        };
        value = t.others first (λ e. omega (arith, e)) (inl (let h = taken_length 4 args in omega (arith, h))) ∙ (l.value ∙ same f place);
      }
    where
      on : (r : ℕ) → (r < 22) ⊎ (26 < r) → (r + length (take 4 args) ≤ 26) ⊎ (26 < r)
      on r (inl h) = inl (let l = taken_length 4 args in omega (arith, h, l))
      on r (inr h) = inr h

      off : (r : ℕ) → r ≡ 22 → (r < 22) ⊎ (26 < r) → ⊥
      off r e (inl h) = omega (arith, e, h)
      off r e (inr h) = omega (arith, e, h)

      bytes : (b : ℕ) → (b + arguments_size (length args) < register c stack_pointer) ⊎ (register c stack_pointer ≤ b + 48)
          → (b + (48 + 4 * (0 + length (drop 4 args))) < register c stack_pointer) ⊎ (register c stack_pointer ≤ b + (48 + 4 * 0))
      bytes b (inl h) = inl (let e = dropped_length 4 args in omega (arith, e, h))
      bytes b (inr h) = inr (omega (arith, h))
