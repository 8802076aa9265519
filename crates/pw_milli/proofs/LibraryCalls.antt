-- `exit`, `getchar` and `putchar`.
use Rattle.std.proofs.Common.{ℕ, ◌+◌, ◌-◌, ◌*◌, ◌%◌, ◌^◌, ◌≡◌, ◌≤◌, true, false, List, [], ◌∷◌, ◌++◌, Option, Some, length, refl, sym, ap, ◌∙◌, arith, add-one}
use Rattle.std.specs.Prelude.{slice_index, slice_set}
use Rattle.std.proofs.lemmas.List.{get_or-set_other}
use Rattle.pw_inst.specs.declared.Inst.{Inst}
use Rattle.pw_inst.specs.declared.Inst.TheVariants.{Bv, Break}
use Rattle.pw_inst.specs.InstructionTable.{decoded, form_of, system, three_register, long_immediate, compare, subtract_immediate, extract, deposit, branch_external, branch, memory}
use Rattle.pw_machine.specs.declared.ends.End.{End}
use Rattle.pw_machine.specs.declared.ends.End.TheVariants.{Ended}
use Rattle.pw_machine.specs.Core.{register, moved, word_at}
use Rattle.pw_machine.specs.Effect.{Effect, Reads, Writes, Stops, executed, effect_of, is_in_text}
use Rattle.pw_machine.specs.Run.{State, Progress, Running, Stopped, answered, reads, goes_on, taken, began, run_of}
use Rattle.pw_milli.specs.Words.{exit_words, getchar_words, putchar_words}
use Rattle.pw_milli.specs.Calls.{Enters, StaysInside, is_access, answers, given}
use Rattle.pw_milli.proofs.Bridge.{Stands, in_text, effect_runs, effect_passes, inside_more}
use Rattle.pw_milli.proofs.Returns.{Decodes, front_stands}

-- a BREAK and the return to register 2
abbrev asks : ℕ → List Inst
asks n = Break 0 n ∷ Bv 2 true ∷ []

step_more : (s t : State) (m : ℕ) (p : Progress) → run_of m s ≡ Running t → taken (effect_of t.core) t ≡ p → run_of (m + 1) s ≡ p
unfolding run_of
step_more s t m p r e = rw add-one (ap goes_on r ∙ e)

-- where the run begins
begins : (words : List ℕ) (a : ℕ) (s : State) → Enters words a s → run_of 0 s ≡ Running s
unfolding run_of
begins words a s h = ap (λ (o : Option End). began o s) h.stopped

-- the BREAK stands at front, and the return at back
asks_at : (words : List ℕ) (n a : ℕ) (s : State) → Enters words a s → Stands (asks n) a s.core → (decoded (word_at s.core.memory s.core.front) ≡ Some (Break 0 n)) × (decoded (word_at s.core.memory s.core.back) ≡ Some (Bv 2 true))
asks_at words n a s h st =
    let front : s.core.front ≡ a + 4 * 0 = omega (arith, h.front) in
    let back : s.core.back ≡ a + 4 * 1 = omega (arith, h.back) in (
      ap (λ (k : ℕ). decoded (word_at s.core.memory k)) front ∙ st.each 0 (Break 0 n) refl,
      ap (λ (k : ℕ). decoded (word_at s.core.memory k)) back ∙ st.each 1 (Bv 2 true) refl,
    )

first_step : (words : List ℕ) (n a : ℕ) (s : State) (e : Effect) → Enters words a s → Stands (asks n) a s.core → executed s.core (Break 0 n) ≡ e → run_of 1 s ≡ taken e s
first_step words n a s e h st x =
    let front : s.core.front ≡ a + 4 * 0 = omega (arith, h.front) in
    let inside : is_in_text s.core s.core.front ≡ true = ap (is_in_text s.core) front ∙ in_text s.core (asks n) a 0 st (omega arith) in
    let word = asks_at words n a s h st in
    step_more s s 0 (taken e s) (begins words a s h) (ap (λ (y : Effect). taken y s) (effect_runs s.core (Break 0 n) inside h.nullify word.0 ∙ x))

-- the first step of the return, from a state in which it is next
branches : (s t : State) (m link : ℕ) → run_of m s ≡ Running t → is_in_text t.core t.core.front ≡ true → t.core.nullify ≡ false → decoded (word_at t.core.memory t.core.front) ≡ Some (Bv link true) → run_of (m + 1) s ≡ Running (record t { core = moved t.core (register t.core link) true })
branches s t m link r one n word =
    step_more s t m (Running (record t { core = moved t.core (register t.core link) true })) r
    (ap (λ (y : Effect). taken y t) (effect_runs t.core (Bv link true) one n word))

-- both steps of it
goes_back : (s t : State) (m link : ℕ) → run_of m s ≡ Running t → is_in_text t.core t.core.front ≡ true → is_in_text t.core t.core.back ≡ true → t.core.nullify ≡ false → decoded (word_at t.core.memory t.core.front) ≡ Some (Bv link true) → run_of (m + 1 + 1) s ≡ Running (record t { core = record t.core { front = register t.core link; back = (register t.core link + 4) % 2 ^ 32; nullify = false } })
goes_back s t m link r one two n word =
    let branched = moved t.core (register t.core link) true in
    step_more s (record t { core = branched }) (m + 1) _
    (branches s t m link r one n word)
    (ap (λ (y : Effect). taken y (record t { core = branched })) (effect_passes branched two refl))

-- the whole call, where the BREAK is answered by a word
answers_back : (words : List ℕ) (n a v : ℕ) (rest output : List ℕ) (s : State) → Enters words a s → Stands (asks n) a s.core → run_of 1 s ≡ Running (record { core = answered s.core v; rest = rest; output = output }) → run_of 3 s ≡ Running (record (answers s v) { rest = rest; output = output })
answers_back words n a v rest output s h st r =
    let t : State = record { core = answered s.core v; rest = rest; output = output } in
    let front : s.core.back ≡ a + 4 * 1 = omega (arith, h.back) in
    let back : (s.core.back + 4) % 2 ^ 32 ≡ a + 4 * 2 = omega (arith, h.back, st.within, st.text) in
    let one : is_in_text s.core s.core.back ≡ true = ap (is_in_text s.core) front ∙ in_text s.core (asks n) a 1 st (omega arith) in
    let two : is_in_text s.core ((s.core.back + 4) % 2 ^ 32) ≡ true = ap (is_in_text s.core) back ∙ in_text s.core (asks n) a 2 st (omega arith) in
    let word = asks_at words n a s h st in
    let link : slice_index (slice_set s.core.registers 28 v) 2 ≡ slice_index s.core.registers 2 = get_or-set_other s.core.registers 28 2 v 0 (λ e. omega arith) in
    goes_back s t 1 2 r one two refl word.1
    ∙ ap (λ (to : ℕ). Running (record { core = record s.core { registers = slice_set s.core.registers 28 v; front = to; back = (to + 4) % 2 ^ 32; nullify = false }; rest = rest; output = output })) link

-- ---- each step is inside: the BREAK, the branch of the return, and the word behind it, which is nullified

asks_inside : (words : List ℕ) (n a top : ℕ) (s : State) → Enters words a s → Stands (asks n) a s.core → a + 8 ≤ top → StaysInside a top 1 s
asks_inside words n a top s h st le =
    let word = asks_at words n a s h st in
    inside_more a top 0 s s (λ k mid lt e. absurd (omega arith)) (begins words a s h)
    (record { above = omega (arith, h.front); below = omega (arith, h.front, le); quiet = λ unset. (omega (arith, h.front, le), ap is_access word.0) })

call_inside : (words : List ℕ) (n a top v : ℕ) (rest output : List ℕ) (s : State) → Enters words a s → Stands (asks n) a s.core → a + 8 ≤ top → run_of 1 s ≡ Running (record { core = answered s.core v; rest = rest; output = output }) → StaysInside a top 3 s
call_inside words n a top v rest output s h st le r =
    let t : State = record { core = answered s.core v; rest = rest; output = output } in
    let front : s.core.back ≡ a + 4 * 1 = omega (arith, h.back) in
    let back : (s.core.back + 4) % 2 ^ 32 ≡ a + 4 * 2 = omega (arith, h.back, st.within, st.text) in
    let one : is_in_text s.core s.core.back ≡ true = ap (is_in_text s.core) front ∙ in_text s.core (asks n) a 1 st (omega arith) in
    let word = asks_at words n a s h st in
    let branched : State = record t { core = moved t.core (register t.core 2) true } in
    inside_more a top 2 s branched
    (inside_more a top 1 s t (asks_inside words n a top s h st le) r
    (record { above = omega (arith, front); below = omega (arith, front, le); quiet = λ unset. (omega (arith, front, le), ap is_access word.1) }))
    (branches s t 1 2 r one refl word.1)
    (record { above = omega (arith, back); below = omega (arith, back, le); quiet = λ unset. absurd cc })

-- a read is answered by some word
read_answered : (s : State) → (v : ℕ) × (rest : List ℕ) × (reads s.core s.rest s.output ≡ Running (record { core = answered s.core v; rest = rest; output = s.output }))
read_answered s = elim s.rest as (λ xs. (v : ℕ) × (rest : List ℕ) × (reads s.core xs s.output ≡ Running (record { core = answered s.core v; rest = rest; output = s.output }))) [
  | [] ↦ (2 ^ 32 - 1, [], refl)
  | byte ∷ rest ↦ (byte, rest, refl)
]

exit_decodes : Decodes exit_words (asks 3)
unfolding decoded form_of system three_register long_immediate compare subtract_immediate extract deposit branch_external branch memory
exit_decodes = (refl, (refl, tt))

getchar_decodes : Decodes getchar_words (asks 1)
unfolding decoded form_of system three_register long_immediate compare subtract_immediate extract deposit branch_external branch memory
getchar_decodes = (refl, (refl, tt))

putchar_decodes : Decodes putchar_words (asks 2)
unfolding decoded form_of system three_register long_immediate compare subtract_immediate extract deposit branch_external branch memory
putchar_decodes = (refl, (refl, tt))

pub exit_runs : (address : ℕ) (s : State) → Enters exit_words address s → run_of 1 s ≡ Stopped (Ended (given s)) (record s { core = record s.core { stopped = Some (Ended (given s)) } })
exit_runs a s h =
    let st = front_stands exit_words (asks 3) a s.core h.stands exit_decodes (omega arith) in
    first_step exit_words 3 a s (Stops (Ended (given s))) h st refl

pub getchar_runs : (address byte : ℕ) (rest : List ℕ) (s : State) → Enters getchar_words address s → s.rest ≡ byte ∷ rest → run_of 3 s ≡ Running (record (answers s byte) { rest = rest })
getchar_runs a byte rest s h e =
    let st = front_stands getchar_words (asks 1) a s.core h.stands getchar_decodes (omega arith) in
    answers_back getchar_words 1 a byte rest s.output s h st
    (first_step getchar_words 1 a s Reads h st refl ∙ ap (λ (xs : List ℕ). reads s.core xs s.output) e)

pub getchar_ends : (address : ℕ) (s : State) → Enters getchar_words address s → s.rest ≡ [] → run_of 3 s ≡ Running (answers s (2 ^ 32 - 1))
getchar_ends a s h e =
    let st = front_stands getchar_words (asks 1) a s.core h.stands getchar_decodes (omega arith) in
    answers_back getchar_words 1 a (2 ^ 32 - 1) [] s.output s h st
    (first_step getchar_words 1 a s Reads h st refl ∙ ap (λ (xs : List ℕ). reads s.core xs s.output) e)
    ∙ ap (λ (xs : List ℕ). Running (record (answers s (2 ^ 32 - 1)) { rest = xs })) (sym e)

pub putchar_runs : (address : ℕ) (s : State) → Enters putchar_words address s → run_of 3 s ≡ Running (record (answers s (given s)) { output = s.output ++ given s ∷ [] })
putchar_runs a s h =
    let st = front_stands putchar_words (asks 2) a s.core h.stands putchar_decodes (omega arith) in
    answers_back putchar_words 2 a (given s) s.rest (s.output ++ given s ∷ []) s h st
    (first_step putchar_words 2 a s (Writes (given s)) h st refl)

pub exit_inside : (address : ℕ) (s : State) → Enters exit_words address s → StaysInside address (address + 4 * length exit_words) 1 s
exit_inside a s h =
    let st = front_stands exit_words (asks 3) a s.core h.stands exit_decodes (omega arith) in
    asks_inside exit_words 3 a (a + 4 * length exit_words) s h st (omega arith)

pub getchar_inside : (address : ℕ) (s : State) → Enters getchar_words address s → StaysInside address (address + 4 * length getchar_words) 3 s
getchar_inside a s h =
    let st = front_stands getchar_words (asks 1) a s.core h.stands getchar_decodes (omega arith) in
    let answer = read_answered s in
    call_inside getchar_words 1 a (a + 4 * length getchar_words) answer.0 answer.1 s.output s h st (omega arith)
    (first_step getchar_words 1 a s Reads h st refl ∙ answer.2)

pub putchar_inside : (address : ℕ) (s : State) → Enters putchar_words address s → StaysInside address (address + 4 * length putchar_words) 3 s
putchar_inside a s h =
    let st = front_stands putchar_words (asks 2) a s.core h.stands putchar_decodes (omega arith) in
    call_inside putchar_words 2 a (a + 4 * length putchar_words) (given s) s.rest (s.output ++ given s ∷ []) s h st (omega arith)
    (first_step putchar_words 2 a s (Writes (given s)) h st refl)
