-- Runs of many steps, step by step.
use Rattle.std.proofs.Common.{ℕ, zero, suc, ◌+◌, ◌-◌, ◌≤◌, ◌≡◌, List, [], ◌∷◌, ◌++◌, Option, Some, None, take, refl, sym, ap, subst, ◌∙◌, arith, add-one, append_assoc, append-nil}
use Rattle.std.proofs.Math.Nat.{add-zero, add-suc}
use Rattle.pw_io.specs.Streams.{Appends, AppendsPart}
use Rattle.pw_machine.specs.declared.ends.End.{End}
use Rattle.pw_machine.specs.Core.{Core, advanced}
use Rattle.pw_machine.specs.Effect.{Effect, Goes, Reads, Writes, Stops, effect_of}
use Rattle.pw_machine.specs.Run.{State, Progress, Running, Stopped, answered, input_word, reads, taken, step, goes_on, began, run_of, step_count, steps_of, continued}
use Rattle.pw_machine.proofs.Keeping.{KeepsStopped, effect_of-keeps, with_register-stopped}

-- ---- runs

-- the run of one more step
pub run_of-more : (m : ℕ) (s mid : State) → run_of m s ≡ Running mid → run_of (m + 1) s ≡ step mid
unfolding run_of
run_of-more m s mid e = rw add-one (ap goes_on e)

-- a run that has stopped stays as it is
pub run_of_stays : (k m : ℕ) (s last : State) (e : End) → run_of m s ≡ Stopped e last → run_of (m + k) s ≡ Stopped e last
unfolding run_of
run_of_stays zero m s last e h = rw add-zero h
run_of_stays (suc k) m s last e h = rw add-suc (ap goes_on (run_of_stays k m s last e h))

pub run_of-stays_at : (m budget : ℕ) (s last : State) (e : End) → m ≤ budget → run_of m s ≡ Stopped e last → run_of budget s ≡ Stopped e last
run_of-stays_at m budget s last e le h =
    let at : m + (budget - m) ≡ budget = omega arith in
    subst (λ (n : ℕ). run_of n s ≡ Stopped e last) at (run_of_stays (budget - m) m s last e h)

-- a state that a run is in and that has not stopped: the one before was such a state too
pub goes_on-running : (p : Progress) (s : State) → goes_on p ≡ Running s → (before : State) × (p ≡ Running before)
goes_on-running (Running before) s e = (before, refl)
goes_on-running (Stopped end t) s e = absurd (cc)

-- as long as the run goes on, each step is taken
pub steps_of_running : (m : ℕ) (s mid : State) → run_of m s ≡ Running mid → steps_of m s ≡ m
unfolding run_of steps_of
steps_of_running zero s mid e = refl
steps_of_running (suc m) s mid e =
    let before = goes_on-running (run_of m s) mid e in
    let one : step_count (run_of m s) ≡ 1 = ap step_count before.1 in
    let front : steps_of m s ≡ m = steps_of_running m s before.0 before.1 in
    omega (arith, one, front)

-- a run that has stopped takes no more steps
pub steps_of-stays : (k m : ℕ) (s last : State) (e : End) → run_of m s ≡ Stopped e last → steps_of (m + k) s ≡ steps_of m s
unfolding steps_of
steps_of-stays zero m s last e h = rw add-zero refl
steps_of-stays (suc k) m s last e h =
    let none : step_count (run_of (m + k) s) ≡ 0 = ap step_count (run_of_stays k m s last e h) in
    let front : steps_of (m + k) s ≡ steps_of m s = steps_of-stays k m s last e h in
    rw add-suc (omega (arith, none, front))

pub steps_of-stays_at : (m budget : ℕ) (s last : State) (e : End) → m ≤ budget → run_of m s ≡ Stopped e last → steps_of budget s ≡ steps_of m s
steps_of-stays_at m budget s last e le h =
    let at : m + (budget - m) ≡ budget = omega arith in
    subst (λ (n : ℕ). steps_of n s ≡ steps_of m s) at (steps_of-stays (budget - m) m s last e h)

-- the step at which the run stops is taken
pub steps_of-last : (m : ℕ) (s mid : State) → run_of m s ≡ Running mid → steps_of (m + 1) s ≡ m + 1
unfolding steps_of
steps_of-last m s mid e =
    let one : step_count (run_of m s) ≡ 1 = ap step_count e in
    let front : steps_of m s ≡ m = steps_of_running m s mid e in
    rw add-one (omega (arith, one, front))

-- ---- a state in which the run has not stopped

reads-keeps : (core : Core) (rest output : List ℕ) (mid : State) → reads core rest output ≡ Running mid → mid.core.stopped ≡ core.stopped
reads-keeps core [] output mid h =
    let same : record { core = answered core (input_word None); rest = []; output = output } ≡ mid = cc in
    ap (λ (t : State). t.core.stopped) (sym same) ∙ with_register-stopped (advanced core) 28 (input_word None)
reads-keeps core (byte ∷ rest) output mid h =
    let same : record { core = answered core (input_word (Some byte)); rest = rest; output = output } ≡ mid = cc in
    ap (λ (t : State). t.core.stopped) (sym same) ∙ with_register-stopped (advanced core) 28 (input_word (Some byte))

pub step-keeps : (e : Effect) (s mid : State) → KeepsStopped s.core.stopped e → taken e s ≡ Running mid → mid.core.stopped ≡ s.core.stopped
step-keeps (Goes core) s mid keeps h =
    let same : record s { core = core } ≡ mid = cc in
    ap (λ (t : State). t.core.stopped) (sym same) ∙ keeps
step-keeps Reads s mid keeps h = reads-keeps s.core s.rest s.output mid h
step-keeps (Writes byte) s mid keeps h =
    let same : record s { core = answered s.core byte; output = s.output ++ byte ∷ [] } ≡ mid = cc in
    ap (λ (t : State). t.core.stopped) (sym same) ∙ with_register-stopped (advanced s.core) 28 byte
step-keeps (Stops end) s mid keeps h = absurd cc

began-running : (o : Option End) (s mid : State) → began o s ≡ Running mid → (o ≡ None) × (s ≡ mid)
began-running None s mid h = (refl, cc)
began-running (Some end) s mid h = absurd cc

pub run_of_running : (m : ℕ) (s mid : State) → run_of m s ≡ Running mid → mid.core.stopped ≡ None
unfolding run_of
run_of_running zero s mid h =
    let begun = began-running s.core.stopped s mid h in
    ap (λ (t : State). t.core.stopped) (sym begun.1) ∙ begun.0
run_of_running (suc m) s mid h =
    let before = goes_on-running (run_of m s) mid h in
    let front : before.0.core.stopped ≡ None = run_of_running m s before.0 before.1 in
    let last : step before.0 ≡ Running mid = sym (ap goes_on before.1) ∙ h in
    step-keeps (effect_of before.0.core) before.0 mid (effect_of-keeps before.0.core) last ∙ front

running_sum : (n m : ℕ) (s mid : State) → run_of m s ≡ Running mid → run_of (m + n) s ≡ run_of n mid
unfolding run_of
running_sum zero m s mid h =
    let going : mid.core.stopped ≡ None = run_of_running m s mid h in
    rw add-zero (h ∙ sym (ap (λ (o : Option End). began o mid) going))
running_sum (suc n) m s mid h = rw add-suc (ap goes_on (running_sum n m s mid h))

continued_sum : (n m : ℕ) (s : State) (p : Progress) → run_of m s ≡ p → run_of (m + n) s ≡ continued n p
continued_sum n m s (Stopped end last) h = run_of_stays n m s last end h
continued_sum n m s (Running mid) h = running_sum n m s mid h

-- a run of m + n steps is the run of m steps, continued by n
pub run_of_sum : (n m : ℕ) (s : State) → run_of (m + n) s ≡ continued n (run_of m s)
run_of_sum n m s = continued_sum n m s (run_of m s) refl

-- ---- output and input

pub Appends-none : (taken : Option (List ℕ)) → Appends taken taken []
Appends-none None = tt
Appends-none (Some before) = sym (append-nil before)

pub Appends-more : (t t' t'' : Option (List ℕ)) (output piece : List ℕ) → Appends t t' output → Appends t' t'' piece → Appends t t'' (output ++ piece)
Appends-more t t' None output piece h k = tt
Appends-more t None (Some after) output piece h k = absurd k
Appends-more None (Some mid) (Some after) output piece h k = absurd h
Appends-more (Some before) (Some mid) (Some after) output piece h k = k ∙ ap (λ (xs : List ℕ). xs ++ piece) h ∙ append_assoc before output piece

-- of a byte that was not taken nothing was appended
pub AppendsPart-byte : (t t' : Option (List ℕ)) (byte : ℕ) → AppendsPart t t' (byte ∷ []) → Appends t t' []
AppendsPart-byte t None byte h = tt
AppendsPart-byte None (Some after) byte h = absurd h
AppendsPart-byte (Some before) (Some after) byte h =
    let none : h.0 ≡ 0 = omega (arith, h.1) in
    h.2 ∙ ap (λ (n : ℕ). before ++ take n (byte ∷ [])) none
