-- A function that changes a register which calls keep: the clause on registers refuses its image.
use Rattle.std.proofs.Common.{◌≡◌, ℕ, ◌+◌, ◌*◌, ◌<◌, ◌^◌, ⊎_elim, List, [], replicate, false, None, refl, sym, ap, ◌∙◌, subst, arith, lit<, lit≤}
use Rattle.std.specs.Prelude.{slice_index, slice_set}
use Rattle.std.proofs.lemmas.Bool.{cases_lt}
use Rattle.pw_inst.specs.InstructionTable.{decoded, form_of, three_register, branch, memory}
use Rattle.pw_machine.specs.Core.{word_at}
use Rattle.pw_machine.specs.Effect.{effect_of, effect_of_inst}
use Rattle.pw_machine.specs.Run.{State, Running, taken, step, goes_on, run_of, start_state}
use Rattle.pw_machine.specs.Start.{image_start, start_core, start_memory}
use Rattle.pw_run_languages.specs.Traces.{MayChange, member, free}
use Rattle.pw_run_languages.specs.ImageTrace.{has_returned}
use Rattle.pw_law_analysis.specs.ImageRegisters.{CallReturns, CallsKeepRegisters, call_at}
use Rattle.pw_tests_clauses.specs.Images.{changer_name, changing, changing_words}

-- ---- its run, over any memory that holds these words

abbrev state : List ℕ → ℕ → ℕ → List ℕ → State
state memory front back registers = record {
  core = record { registers = registers; front = front; back = back; nullify = false; shift = 0; memory = memory; text = 7; data_start = 4128; stopped = None };
  rest = [];
  output = [];
}

-- the registers at the start, with the return address, and with what the function puts into register 5
abbrev r0 : List ℕ
r0 = slice_set (replicate 32 0) 30 4224

abbrev r1 : List ℕ
r1 = slice_set r0 2 4104

abbrev r2 : List ℕ
r2 = slice_set r1 5 1

does : (s : State) (w : ℕ) → word_at s.core.memory s.core.front ≡ w → taken (effect_of_inst s.core (decoded (word_at s.core.memory s.core.front))) s ≡ taken (effect_of_inst s.core (decoded w)) s
does s w at = ap (λ w. taken (effect_of_inst s.core (decoded w)) s) at

-- the words that are met
record Holds (memory : List ℕ) : Type 0 where
  pub call : word_at memory 4096 ≡ 3896508432
  pub slot : word_at memory 4100 ≡ 134218304
  pub change : word_at memory 4112 ≡ 872742914
  pub return : word_at memory 4116 ≡ 3896557568
  pub last : word_at memory 4120 ≡ 134218304

calls : (memory : List ℕ) → Holds memory → step (state memory 4096 4100 r0) ≡ Running (state memory 4100 4112 r1)
unfolding effect_of decoded form_of branch
calls memory h = does (state memory 4096 4100 r0) 3896508432 h.call

passes : (memory : List ℕ) → Holds memory → step (state memory 4100 4112 r1) ≡ Running (state memory 4112 4116 r1)
unfolding effect_of decoded form_of three_register
passes memory h = does (state memory 4100 4112 r1) 134218304 h.slot

changes : (memory : List ℕ) → Holds memory → step (state memory 4112 4116 r1) ≡ Running (state memory 4116 4120 r2)
unfolding effect_of decoded form_of memory
changes memory h = does (state memory 4112 4116 r1) 872742914 h.change

returns : (memory : List ℕ) → Holds memory → step (state memory 4116 4120 r2) ≡ Running (state memory 4120 4104 r2)
unfolding effect_of decoded form_of branch
returns memory h = does (state memory 4116 4120 r2) 3896557568 h.return

ends : (memory : List ℕ) → Holds memory → step (state memory 4120 4104 r2) ≡ Running (state memory 4104 4108 r2)
unfolding effect_of decoded form_of three_register
ends memory h = does (state memory 4120 4104 r2) 134218304 h.last

-- the first five steps
record Runs (memory : List ℕ) : Type 0 where
  pub two : run_of 2 (state memory 4096 4100 r0) ≡ Running (state memory 4112 4116 r1)
  pub three : run_of 3 (state memory 4096 4100 r0) ≡ Running (state memory 4116 4120 r2)
  pub four : run_of 4 (state memory 4096 4100 r0) ≡ Running (state memory 4120 4104 r2)
  pub five : run_of 5 (state memory 4096 4100 r0) ≡ Running (state memory 4104 4108 r2)

run : (memory : List ℕ) → Holds memory → Runs memory
unfolding run_of
run memory h =
    let two : run_of 2 (state memory 4096 4100 r0) ≡ Running (state memory 4112 4116 r1) = ap goes_on (calls memory h) ∙ passes memory h in
    let three : run_of 3 (state memory 4096 4100 r0) ≡ Running (state memory 4116 4120 r2) = ap goes_on two ∙ changes memory h in
    let four : run_of 4 (state memory 4096 4100 r0) ≡ Running (state memory 4120 4104 r2) = ap goes_on three ∙ returns memory h in
    record { two = two; three = three; four = four; five = ap goes_on four ∙ ends memory h }

-- ---- its memory at the start holds them

abbrev Words : Type 0
Words = (i : ℕ) → i < 7 → slice_index changing_words i < 2 ^ 32 → word_at (start_memory changing_words []) (4096 + 4 * i) ≡ slice_index changing_words i

holds : Words → Holds (start_memory changing_words [])
holds at = record {
  call = at 0 (lit< tt) (lit< tt);
  slot = at 1 (lit< tt) (lit< tt);
  change = at 4 (lit< tt) (lit< tt);
  return = at 5 (lit< tt) (lit< tt);
  last = at 6 (lit< tt) (lit< tt);
}

starts : start_state (image_start changing.memory) [] ≡ state (start_memory changing_words []) 4096 4100 r0
unfolding start_core
starts = refl

-- ---- the clause

one_state : (a b : State) → Running a ≡ Running b → a ≡ b
one_state a b e = cc

-- between the call and its return the machine is nowhere at the return address
before : (memory : List ℕ) → Runs memory → (k : ℕ) (between : State) → 2 < k → k < 5 → run_of k (state memory 4096 4100 r0) ≡ Running between → has_returned between.core (call_at changer_name (state memory 4112 4116 r1).core) ≡ false
before memory h k between low high e =
    ⊎_elim {C = has_returned between.core (call_at changer_name (state memory 4112 4116 r1).core) ≡ false}
    (λ more. let is : k ≡ 4 = omega (arith, more, high) in
    let same : state memory 4120 4104 r2 ≡ between = one_state _ _ (sym h.four ∙ subst (λ (n : ℕ). run_of n (state memory 4096 4100 r0) ≡ Running between) is e) in
    subst (λ (s : State). has_returned s.core (call_at changer_name (state memory 4112 4116 r1).core) ≡ false) same refl)
    (λ less. let is : k ≡ 3 = omega (arith, less, low) in
    let same : state memory 4116 4120 r2 ≡ between = one_state _ _ (sym h.three ∙ subst (λ (n : ℕ). run_of n (state memory 4096 4100 r0) ≡ Running between) is e) in
    subst (λ (s : State). has_returned s.core (call_at changer_name (state memory 4112 4116 r1).core) ≡ false) same refl)
    (cases_lt 3 k)

the_call : Words → CallReturns changing [] changer_name 2 5 (state (start_memory changing_words []) 4112 4116 r1) (state (start_memory changing_words []) 4104 4108 r2)
the_call at =
    let memory = start_memory changing_words [] in
    let h = run memory (holds at) in
    record {
      called_after = ap (run_of 2) starts ∙ h.two;
      stands_at = refl;
      goes = refl;
      later = lit< tt;
      returned_after = ap (run_of 5) starts ∙ h.five;
      back = refl;
      first = λ k between low high e. before memory h k between low high (sym (ap (run_of k) starts) ∙ e);
    }

not_its_own : MayChange [] changer_name 5 → ⊥
not_its_own (member i) = let less : i.has.there.0 < 0 = i.has.there.1 in omega (arith, less)
not_its_own (free directives there among) = let less : there.0 < 0 = there.1 in omega (arith, less)

apart : ◌≡◌ {A = ℕ} 1 0 → ⊥
apart e = omega (arith, e)

pub changed : Words → ¬ CallsKeepRegisters [] changing []
changed at keeps = apart (keeps changer_name 2 5 (state (start_memory changing_words []) 4112 4116 r1) (state (start_memory changing_words []) 4104 4108 r2) (the_call at) 5 (lit≤ tt) (lit≤ tt) not_its_own)
