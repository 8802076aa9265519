-- The run of lines is met by the machine's, where each of its states is steady.
use Rattle.std.specs.Prelude.{ℕ, zero, suc, ◌≡◌, ◌+◌, ◌-◌, List, [], ◌∷◌, length}
use Rattle.std.proofs.Common.{arith, subst, sym, ap, refl, ◌∙◌}
use Rattle.pw_machine.specs.declared.ends.End.TheVariants as machine
use Rattle.pw_machine.specs.Core.{Core}
use Rattle.pw_machine.specs.Run.{State, Progress, Running, Stopped, run_of}
use Rattle.pw_run.specs.Runs.{End, Going, Ended, StackFull, AreAlike, none, also, Met, Refines, Same}
use Rattle.pw_run_languages.specs.Traces.{Event, with_refusal}
use Rattle.pw_run_languages.specs.LineRun.{Machine, Step, On, Astray, and_then, step, steps, start, line_run}
use Rattle.pw_run_languages.specs.LineRun as lines
use Rattle.pw_run_languages.specs.MachineRun.{Noted, start_state, traced_run}
use Rattle.pw_run_languages.specs.MachineRun as noting
use Rattle.pw_law_link_run.specs.Steps.{Setting, map_in}
use Rattle.pw_law_link_run.specs.Simulating.{IsLinked, HasLibrary}
use Rattle.pw_law_link_run.specs.Meeting.{RunsTo, Meets, IsSteady}
use Rattle.pw_law_link_run.specs.Meeting as meeting
use Rattle.pw_law_link_run.specs.Routines.{HasRoutines, LeaveSo, IsSteadyRun}
use Rattle.pw_law_link_run.proofs.Meeting.{step_meets}

-- ---- one step more, at the end

pub last_step : (x : Setting) (scratch : ℕ → (ℕ → ℕ) → ℕ → ℕ) (n : ℕ) (s : Step)
    → steps x.program x.addresses scratch (suc n) s ≡ and_then (steps x.program x.addresses scratch n s) (step x.program x.addresses scratch)
unfolding steps
last_step x scratch zero s = refl
last_step x scratch (suc n) s = last_step x scratch n (and_then s (step x.program x.addresses scratch))

-- ---- the run

more_meets : (x : Setting) → IsLinked x → HasLibrary x → (has : HasRoutines x) (scratch : ℕ → (ℕ → ℕ) → ℕ → ℕ) → LeaveSo x has scratch → (s : Step) → IsSteadyRun x scratch s → (n : ℕ) (t : Step)
    → steps x.program x.addresses scratch n s ≡ t → Meets x t → Meets x (and_then t (step x.program x.addresses scratch))
more_meets x l lib has scratch so s run n (On m) e h =
    step_meets x l lib has scratch so h.steps m m.frame.left h.simulates (λ item rest same. run n m item rest e same)
more_meets x l lib has scratch so s run n (lines.Stopped end m) e h = h
more_meets x l lib has scratch so s run n Astray e h = tt

pub steps_meet : (x : Setting) → IsLinked x → HasLibrary x → (has : HasRoutines x) (scratch : ℕ → (ℕ → ℕ) → ℕ → ℕ) → LeaveSo x has scratch → (s : Step) → IsSteadyRun x scratch s → Meets x s → (n : ℕ)
    → Meets x (steps x.program x.addresses scratch n s)
unfolding steps
steps_meet x l lib has scratch so s run h zero = h
steps_meet x l lib has scratch so s run h (suc n) =
    subst (λ t. Meets x t) (sym (last_step x scratch n s))
    (more_meets x l lib has scratch so s run n (steps x.program x.addresses scratch n s) refl (steps_meet x l lib has scratch so s run h n))

-- ---- as it is seen from outside

alike : (l : List (Event ℕ ℕ)) → AreAlike Same l l
alike [] = none
alike (e ∷ l) = also e e l l refl (alike l)

same_log : (l k : List (Event ℕ ℕ)) → k ≡ l → AreAlike Same l k
same_log l k e = subst (λ k. AreAlike Same l k) (sym e) (alike l)

-- the machine at a stage, by its state and what it noted
going_is : (x : Setting) (core : Core) (input : List ℕ) (k : ℕ) (s : State) (n : Noted) → x.start ≡ start_state core input → run_of k x.start ≡ Running s
    → noting.noted (map_in x) x.start k ≡ n → traced_run (map_in x) core input k ≡ Going (noting.shown input k s n.log)
unfolding traced_run
going_is x core input k s n start_is r h =
    ap (λ p. noting.staged input k p (noting.noted (map_in x) (start_state core input) k).log) (ap (λ s. run_of k s) (sym start_is) ∙ r)
    ∙ ap (λ (n : Noted). Going (noting.shown input k s n.log)) (ap (λ s. noting.noted (map_in x) s k) (sym start_is) ∙ h)

over_is : (x : Setting) (core : Core) (input : List ℕ) (k : ℕ) (p : Progress) (log : List (Event ℕ ℕ)) → x.start ≡ start_state core input → run_of k x.start ≡ p
    → (noting.noted (map_in x) x.start k).log ≡ log → traced_run (map_in x) core input k ≡ noting.staged input k p log
unfolding traced_run
over_is x core input k p log start_is r h =
    ap (λ p. noting.staged input k p (noting.noted (map_in x) (start_state core input) k).log) (ap (λ s. run_of k s) (sym start_is) ∙ r)
    ∙ ap (λ l. noting.staged input k p l) (ap (λ s. (noting.noted (map_in x) s k).log) (sym start_is) ∙ h)

left_of : (input rest : List ℕ) (read : ℕ) → read + length rest ≡ length input → read ≡ length input - length rest
left_of input rest read e = omega (arith, e)

met_on : (x : Setting) (core : Core) (input : List ℕ) (m : Machine) → x.start ≡ start_state core input → RunsTo x m
    → Met Same (lines.staged (On m)) (traced_run (map_in x) core input)
met_on x core input m start_is h =
    let at = h.simulates.at in
    let s : State = record { core = at.core; rest = m.rest; output = m.out } in
    let reads : m.read + length m.rest ≡ length input = h.simulates.read ∙ ap (λ (s : State). length s.rest) start_is in
    record {
      at = h.steps;
      view = noting.shown input h.steps s m.trace;
      is = going_is x core input h.steps s _ start_is at.runs at.notes;
      same = record { output = refl; read = left_of input m.rest m.read reads; log = alike m.trace };
      counted = h.simulates.events;
    }

met_end : (x : Setting) (core : Core) (input : List ℕ) (end : End) (m : Machine) → x.start ≡ start_state core input → meeting.EndsSo x end m
    → Met Same (lines.staged (lines.Stopped end m)) (traced_run (map_in x) core input)
met_end x core input (Ended status) m start_is h =
    let s : State = record { core = h.core; rest = m.rest; output = m.out } in
    let reads : m.read + length m.rest ≡ length input = h.read ∙ ap (λ (s : State). length s.rest) start_is in
    record {
      at = h.steps;
      view = noting.shown input h.steps s m.trace;
      is = over_is x core input h.steps (Stopped (machine.Ended status) s) m.trace start_is h.runs h.log;
      same = record { output = refl; read = left_of input m.rest m.read reads; log = alike m.trace };
      counted = h.events;
    }
met_end x core input StackFull m start_is h =
    let s : State = record { core = h.core; rest = m.rest; output = m.out } in
    let reads : m.read + length m.rest ≡ length input = h.read ∙ ap (λ (s : State). length s.rest) start_is in
    record {
      at = h.steps;
      view = noting.shown input h.steps s (with_refusal m.trace);
      is = over_is x core input h.steps (Stopped machine.StackStop s) m.trace start_is h.runs h.log;
      same = record { output = refl; read = left_of input m.rest m.read reads; log = alike (with_refusal m.trace) };
      counted = h.events;
    }

met_by : (x : Setting) (core : Core) (input : List ℕ) (s : Step) → x.start ≡ start_state core input → Meets x s
    → Met Same (lines.staged s) (traced_run (map_in x) core input)
met_by x core input (On m) start_is h = met_on x core input m start_is h
met_by x core input (lines.Stopped end m) start_is h = met_end x core input end m start_is h
met_by x core input Astray start_is h = tt

pub runs_meet : (x : Setting) → IsLinked x → HasLibrary x → (has : HasRoutines x) (scratch : ℕ → (ℕ → ℕ) → ℕ → ℕ) → LeaveSo x has scratch → (core : Core) (input : List ℕ) → x.start ≡ start_state core input
    → Meets x (start x.program x.addresses input) → IsSteadyRun x scratch (start x.program x.addresses input)
    → Refines Same (line_run x.program x.addresses scratch input) (traced_run (map_in x) core input)
unfolding line_run
runs_meet x l lib has scratch so core input start_is first run n =
    met_by x core input (steps x.program x.addresses scratch n (start x.program x.addresses input)) start_is
    (steps_meet x l lib has scratch so (start x.program x.addresses input) run first n)
