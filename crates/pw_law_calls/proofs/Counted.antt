-- How many calls a stage of the program has at least, where the machine stands before its k-th call.
use Rattle.std.proofs.Common.{◌≡◌, ℕ, zero, suc, ◌+◌, ◌-◌, ◌≤◌, ⊎_elim, Bool, true, false, List, [], ◌∷◌, ◌++◌, refl, sym, ap, subst, ◌∙◌, arith}
use Rattle.std.proofs.Math.Nat.{add-zero, add-suc}
use Rattle.std.proofs.lemmas.Bool.{cases_lt}
use Rattle.pw_machine.specs.declared.ends.End.{End as MachineEnd}
use Rattle.pw_machine.specs.declared.ends.End.TheVariants as machine
use Rattle.pw_machine.specs.Core.{Core}
use Rattle.pw_machine.specs.Run.{State, Progress, Running, Stopped, goes_on, run_of, start_state}
use Rattle.pw_cmean.specs.Acts.{Moment}
use Rattle.pw_run.specs.Runs.{AreAlike, End, Ended, Going, Met, Over, Refines, Stage, StackFull, View, Wrong}
use Rattle.pw_run_languages.specs.Programs.{Program}
use Rattle.pw_run_languages.specs.Traces.{Event, Called, Refused, Returned, Loaded, Stored, calls_alone, calls_of, is_of_source, shown_by, with_refusal}
use Rattle.pw_run_languages.specs.MachineRun.{Map, globals_in, kept, noted, staged, traced_run}
use Rattle.pw_law_layers.specs.Whole.{InMachine}
use Rattle.pw_where.specs.Calls.{IsCall, one_if}
use Rattle.pw_law_where.specs.Counting.{AreEntriesOf, NotesCall, source_calls}
use Rattle.pw_law_calls.specs.Calls.{HasCalls, refused_at}
use Rattle.pw_law_calls.proofs.Logs.{Events, IsCallIn, alone_counts, call_later, longer_counts}
use Rattle.pw_law_calls.proofs.Alike.{all_shown, counts, noted_call}

-- a log with a k-th call has k calls
call_below : (log : Events) (k : ℕ) (e : Event ℕ ℕ) → IsCallIn log k e → k ≤ source_calls log
call_below log k e c =
    let whole : source_calls log ≡ source_calls (c.later ++ e ∷ c.before) = ap source_calls c.is in
    let long = longer_counts c.later c.before e c.of_source in
    let count = c.count in
    omega (arith, whole, long, count)

at_most_one : (b : Bool) → one_if b ≤ 1
at_most_one true = omega arith
at_most_one false = omega arith

refusal_counts : (log : Events) → source_calls log ≤ source_calls (with_refusal log) + 1
refusal_counts [] = omega arith
refusal_counts (Called f gs rs ∷ log) = let one = at_most_one (is_of_source f) in omega (arith, one)
refusal_counts (Refused f ∷ log) = omega arith
refusal_counts (Returned f inner gs rs ss ∷ log) = omega arith
refusal_counts (Loaded v ∷ log) = omega arith
refusal_counts (Stored v ∷ log) = omega arith

-- ---- a run that has stopped

stays : (start : State) (n d : ℕ) (e : MachineEnd) (t : State) → run_of n start ≡ Stopped e t → run_of (n + d) start ≡ Stopped e t
unfolding run_of
stays start n zero e t stopped = rw add-zero stopped
stays start n (suc d) e t stopped = rw add-suc (ap goes_on (stays start n d e t stopped))

goes_before : (start : State) (n l : ℕ) (s t : State) (e : MachineEnd) → run_of n start ≡ Running s → run_of l start ≡ Stopped e t → n ≤ l
goes_before start n l s t e goes stopped =
    ⊎_elim {C = n ≤ l}
    (λ lt.
    let at : l + (n - l) ≡ n = omega (arith, lt) in
    let there : run_of n start ≡ Stopped e t = subst (λ (i : ℕ). run_of i start ≡ Stopped e t) at (stays start l (n - l) e t stopped) in
    let no : Running s ≡ Stopped e t = sym goes ∙ there in
    absurd cc)
    (λ le. le)
    (cases_lt l n)

-- ---- stages of the machine

abbrev events_of : Stage (Event ℕ ℕ) → ℕ
events_of (Going v) = v.events
events_of _ = 0

abbrev log_of : Stage (Event ℕ ℕ) → Events
log_of (Going v) = v.log
log_of (Over end v) = v.log
log_of Wrong = []

record GoesThere (n : ℕ) (log : Events) (view : View (Event ℕ ℕ)) : Type 0 where
  events : view.events ≡ n
  shown : view.log ≡ calls_alone log

goes_there : (input : List ℕ) (n : ℕ) (p : Progress) (log : Events) (view : View (Event ℕ ℕ)) → shown_by calls_alone (staged input n p log) ≡ Going view → GoesThere n log view
goes_there input n (Running s) log view e = record { events = sym (ap events_of e); shown = sym (ap log_of e) }
goes_there input n (Stopped (machine.Ended status) s) log view e = absurd cc
goes_there input n (Stopped machine.StackStop s) log view e = absurd cc
goes_there input n (Stopped (machine.Halted halt at) s) log view e = absurd cc

record StopsThere (p : Progress) (end : End) (log : Events) (view : View (Event ℕ ℕ)) : Type 0 where
  stop : MachineEnd
  state : State
  is : p ≡ Stopped stop state
  all : Events
  shown : view.log ≡ calls_alone all
  most : source_calls log ≤ source_calls all + refused_at end

stops_there : (input : List ℕ) (n : ℕ) (p : Progress) (log : Events) (end : End) (view : View (Event ℕ ℕ)) → shown_by calls_alone (staged input n p log) ≡ Over end view → StopsThere p end log view
stops_there input n (Running s) log end view e = absurd cc
stops_there input n (Stopped (machine.Ended status) s) log end view e = record { stop = machine.Ended status; state = s; is = refl; all = log; shown = sym (ap log_of e); most = omega arith }
stops_there input n (Stopped machine.StackStop s) log end view e =
    let full : StackFull ≡ end = cc in
    let most = refusal_counts log in
    record {
      stop = machine.StackStop;
      state = s;
      is = refl;
      all = with_refusal log;
      shown = sym (ap log_of e);
      most = subst (λ (x : End). source_calls log ≤ source_calls (with_refusal log) + refused_at x) full most;
    }
stops_there input n (Stopped (machine.Halted halt at) s) log end view e = absurd cc

-- ---- the law

module _ (m : Map) (core : Core) (input : List ℕ) where
  abbrev begin : State
  begin = start_state core input

  met_calls : (q : Program) (stage : Stage Moment) (k step : ℕ) (s : State) (x : Event ℕ ℕ) → Met (InMachine q m.named) stage (calls_of (traced_run m core input)) → run_of step begin ≡ Running s → IsCallIn (noted m begin step).log k x
      → HasCalls step k stage
  unfolding traced_run
  met_calls q (Going v) k step s x met goes call = λ more.
      let log = (noted m begin met.at).log in
      let there = goes_there input met.at (run_of met.at begin) log met.view met.is in
      let alike : AreAlike (InMachine q m.named) v.log (calls_alone log) = subst (λ (l : Events). AreAlike (InMachine q m.named) v.log l) there.shown met.same.log in
      let own = counts q m.named v.log (calls_alone log) alike (all_shown log) in
      let all = alone_counts log in
      let counted = met.counted in
      let events = there.events in
      let after : step ≤ met.at = omega (arith, more, counted, events) in
      let below = call_below log k x (call_later m begin k step met.at x after call) in
      omega (arith, own, all, below)
  met_calls q (Over end v) k step s x met goes call =
      let log = (noted m begin met.at).log in
      let there = stops_there input met.at (run_of met.at begin) log end met.view met.is in
      let alike : AreAlike (InMachine q m.named) v.log (calls_alone there.all) = subst (λ (l : Events). AreAlike (InMachine q m.named) v.log l) there.shown met.same.log in
      let own = counts q m.named v.log (calls_alone there.all) alike (all_shown there.all) in
      let all = alone_counts there.all in
      let most = there.most in
      let below = call_below log k x (call_later m begin k step met.at x (goes_before begin step met.at s there.state there.stop goes there.is) call) in
      omega (arith, own, all, most, below)
  met_calls q Wrong k step s x met goes call = tt

abbrev CallsAreNoted : Type 0
CallsAreNoted = (entries : List ℕ) (m : Map) (start s : State) (k n : ℕ) → AreEntriesOf entries m → IsCall entries start k n s → NotesCall m k s.core (noted m start n)

pub have_calls : CallsAreNoted → (q : Program) (entries : List ℕ) (m : Map) (core : Core) (input : List ℕ) (meaning : ℕ → Stage Moment) (k step n : ℕ) (s : State) → AreEntriesOf entries m
    → Refines (InMachine q m.named) meaning (calls_of (traced_run m core input)) → IsCall entries (start_state core input) k step s → HasCalls step k (meaning n)
have_calls law q entries m core input meaning k step n s are refines call =
    let notes = law entries m (start_state core input) s k step are call in
    met_calls m core input q (meaning n) k step s (Called notes.function (globals_in m s.core notes.callers) (kept s.core)) (refines n) call.goes (noted_call m core input k step s.core notes)
