-- What a machine has noted stays: what holds of a later log holds of every earlier one.
use Rattle.std.specs.Prelude.{ℕ, zero, suc, ◌≡◌, ◌≤◌, ◌+◌, Bool, true, false, if◌then◌else◌, Option, Some, None, List, [], ◌∷◌, ◌++◌}
use Rattle.std.proofs.Common.{arith, subst, sym, ap, refl, inl, inr}
use Rattle.std.proofs.Math.Nat.{le-suc_iff}
use Rattle.std.proofs.lemmas.Bool.{cases_lt}
use Rattle.pw_machine.specs.declared.ends.End.{End as MachineEnd}
use Rattle.pw_machine.specs.declared.ends.End.TheVariants as machine
use Rattle.pw_machine.specs.Core.{Core}
use Rattle.pw_machine.specs.Run.{State, Progress, Running, Stopped, run_of, goes_on}
use Rattle.pw_run.specs.Runs.{End, View, Stage, Going, Over, Wrong}
use Rattle.pw_run_languages.specs.Traces.{Event, Called, Returned, Notes, with_refusal}
use Rattle.pw_run_languages.specs.Meeting.{GoesWith, EndsWith}
use Rattle.pw_run_languages.specs.MachineRun.{Map, Call, Noted, has_returned, globals_in, kept, with_returns, left, called, function_at, arrived, accesses_in, stepped, noted, staged, start_state, traced_run}

-- what holds of the earlier part of each log of which it holds, whether a last call was refused or not
pub record IsClosed (P : List (Event ℕ ℕ) → Type 0) : Type 0 where
  pub earlier : (e : Event ℕ ℕ) (l : List (Event ℕ ℕ)) → P (e ∷ l) → P l
  pub of_refused : (l : List (Event ℕ ℕ)) → P (with_refusal l) → P l
  pub to_refused : (l : List (Event ℕ ℕ)) → P l → P (with_refusal l)

-- ---- one step

either : (P : List (Event ℕ ℕ) → Type 0) (b : Bool) (l m log : List (Event ℕ ℕ)) → (P l → P log) → (P m → P log) → P (if b then l else m) → P log
either P true l m log first second h = first h
either P false l m log first second h = second h

returns_under : (P : List (Event ℕ ℕ) → Type 0) → IsClosed P → (m : Map) (core : Core) (inner : ℕ) (calls : List Call) (log : List (Event ℕ ℕ))
    → P (with_returns m core inner calls log) → P log
returns_under P c m core inner [] log h = h
returns_under P c m core inner (call ∷ callers) log h =
    let e = Returned call.function inner (globals_in m core callers) call.before (kept core) in
    either P (has_returned core call) (with_returns m core inner callers (e ∷ log)) (with_returns m core (inner + 1) callers log) log
    (λ k. c.earlier e log (returns_under P c m core inner callers (e ∷ log) k))
    (λ k. returns_under P c m core (inner + 1) callers log k) h

called_under : (P : List (Event ℕ ℕ) → Type 0) → IsClosed P → (m : Map) (core : Core) (f : Option (List ℕ)) (n : Noted)
    → P (called m core f n).log → P n.log
called_under P c m core None n h = h
called_under P c m core (Some f) n h = c.earlier (Called f (globals_in m core n.calls) (kept core)) n.log h

arrived_by : (P : List (Event ℕ ℕ) → Type 0) → IsClosed P → (m : Map) (core : Core) (b : Bool) (f : Option (List ℕ)) (n : Noted)
    → P (if b then n else called m core f n).log → P n.log
arrived_by P c m core true f n h = h
arrived_by P c m core false f n h = called_under P c m core f n h

arrived_under : (P : List (Event ℕ ℕ) → Type 0) → IsClosed P → (m : Map) (core : Core) (n : Noted) → P (arrived m core n).log → P n.log
arrived_under P c m core n h =
    returns_under P c m core 0 n.calls n.log
    (arrived_by P c m core core.nullify (function_at m core.front) (record { calls = left core n.calls; log = with_returns m core 0 n.calls n.log }) h)

prefix_under : (P : List (Event ℕ ℕ) → Type 0) → IsClosed P → (es l : List (Event ℕ ℕ)) → P (es ++ l) → P l
prefix_under P c [] l h = h
prefix_under P c (e ∷ es) l h = prefix_under P c es l (c.earlier e (es ++ l) h)

stepped_under : (P : List (Event ℕ ℕ) → Type 0) → IsClosed P → (m : Map) (a b : Progress) (n : Noted) → P (stepped m a b n).log → P n.log
stepped_under P c m (Running s) (Running next) n h =
    prefix_under P c (accesses_in m s.core) n.log
    (arrived_under P c m next.core (record { calls = n.calls; log = accesses_in m s.core ++ n.log }) h)
stepped_under P c m (Running s) (Stopped end next) n h = h
stepped_under P c m (Stopped end s) next n h = h

-- ---- many steps

noted_under : (P : List (Event ℕ ℕ) → Type 0) → IsClosed P → (m : Map) (s : State) (n : ℕ) → P (noted m s (suc n)).log → P (noted m s n).log
unfolding noted
noted_under P c m s n h = stepped_under P c m (run_of n s) (run_of (suc n) s) (noted m s n) h

noted_below : (P : List (Event ℕ ℕ) → Type 0) → IsClosed P → (m : Map) (s : State) (n k : ℕ) → n ≤ k → P (noted m s k).log → P (noted m s n).log
noted_below P c m s n zero le h = subst (λ k. P (noted m s k).log) (let e : zero ≡ n = omega (arith, le) in e) h
noted_below P c m s n (suc k) le h = elim (le-suc_iff.0 le) [
  | inl low ↦ noted_below P c m s n k low (noted_under P c m s k h)
  | inr e ↦ subst (λ k. P (noted m s k).log) (sym e) h
]

-- a run that has stopped stays so
stays : (s : State) (j : ℕ) (e : MachineEnd) (t : State) → run_of j s ≡ Stopped e t → (k : ℕ) → j ≤ k → run_of k s ≡ Stopped e t
unfolding run_of
stays s j e t stopped zero le = subst (λ k. run_of k s ≡ Stopped e t) (let e : j ≡ zero = omega (arith, le) in e) stopped
stays s j e t stopped (suc k) le = elim (le-suc_iff.0 le) [
  | inl low ↦ ap goes_on (stays s j e t stopped k low)
  | inr same ↦ subst (λ k. run_of k s ≡ Stopped e t) same stopped
]

noted_stays : (P : List (Event ℕ ℕ) → Type 0) (m : Map) (s : State) (j : ℕ) (e : MachineEnd) (t : State) → run_of j s ≡ Stopped e t
    → (k : ℕ) → j ≤ k → P (noted m s j).log → P (noted m s k).log
unfolding noted
noted_stays P m s j e t stopped zero le h = subst (λ k. P (noted m s k).log) (let e : j ≡ zero = omega (arith, le) in e) h
noted_stays P m s j e t stopped (suc k) le h = elim (le-suc_iff.0 le) [
  | inl low ↦ subst (λ r. P (stepped m r (run_of (suc k) s) (noted m s k)).log) (sym (stays s j e t stopped k low)) (noted_stays P m s j e t stopped k low h)
  | inr same ↦ subst (λ k. P (noted m s k).log) same h
]

-- ---- stages

abbrev IsGoing : {N : Type 0} → Stage N → Type 0
IsGoing (Going v) = Unit {0}
IsGoing _ = ⊥

abbrev IsOver : {N : Type 0} → Stage N → Type 0
IsOver (Over end v) = Unit {0}
IsOver _ = ⊥

abbrev events_of : Stage (Event ℕ ℕ) → ℕ
events_of (Going v) = v.events
events_of _ = 0

abbrev log_of : Stage (Event ℕ ℕ) → List (Event ℕ ℕ)
log_of (Going v) = v.log
log_of (Over end v) = v.log
log_of Wrong = []

record HasStopped (P : List (Event ℕ ℕ) → Type 0) (at : Progress) (log : List (Event ℕ ℕ)) : Type 0 where
  end : MachineEnd
  state : State
  is : at ≡ Stopped end state
  holds : P log

going_at : (P : List (Event ℕ ℕ) → Type 0) (input : List ℕ) (k : ℕ) (at : Progress) (log : List (Event ℕ ℕ)) (view : View (Event ℕ ℕ))
    → staged input k at log ≡ Going view → P view.log → (k ≡ view.events) × P log
going_at P input k (Running s) log view e h = (ap events_of e, subst P (sym (ap log_of e)) h)
going_at P input k (Stopped (machine.Ended status) s) log view e h = absurd (subst IsGoing (sym e) tt)
going_at P input k (Stopped machine.StackStop s) log view e h = absurd (subst IsGoing (sym e) tt)
going_at P input k (Stopped (machine.Halted halt at) s) log view e h = absurd (subst IsGoing (sym e) tt)

over_at : (P : List (Event ℕ ℕ) → Type 0) → IsClosed P → (input : List ℕ) (k : ℕ) (at : Progress) (log : List (Event ℕ ℕ)) (end : End) (view : View (Event ℕ ℕ))
    → staged input k at log ≡ Over end view → P view.log → HasStopped P at log
over_at P c input k (Running s) log end view e h = absurd (subst IsOver (sym e) tt)
over_at P c input k (Stopped (machine.Ended status) s) log end view e h =
    record { end = machine.Ended status; state = s; is = refl; holds = subst P (sym (ap log_of e)) h }
over_at P c input k (Stopped machine.StackStop s) log end view e h =
    record { end = machine.StackStop; state = s; is = refl; holds = c.of_refused log (subst P (sym (ap log_of e)) h) }
over_at P c input k (Stopped (machine.Halted halt at) s) log end view e h = absurd (subst IsOver (sym e) tt)

stage_notes : (P : List (Event ℕ ℕ) → Type 0) → IsClosed P → (input : List ℕ) (n : ℕ) (at : Progress) (log : List (Event ℕ ℕ))
    → P log → Notes P (staged input n at log)
stage_notes P c input n (Running s) log h = h
stage_notes P c input n (Stopped (machine.Ended status) s) log h = h
stage_notes P c input n (Stopped machine.StackStop s) log h = c.to_refused log h
stage_notes P c input n (Stopped (machine.Halted halt at) s) log h = tt

notes_at : (P : List (Event ℕ ℕ) → Type 0) → IsClosed P → (m : Map) (core : Core) (input : List ℕ) (n : ℕ)
    → P (noted m (start_state core input) n).log → Notes P (traced_run m core input n)
unfolding traced_run
notes_at P c m core input n h =
    stage_notes P c input n (run_of n (start_state core input)) (noted m (start_state core input) n).log h

-- what holds of a log of a machine that went on for n steps, or stopped, holds of the log after n steps
pub notes_where_going : (P : List (Event ℕ ℕ) → Type 0) → IsClosed P → {M : Type 0} (v : View M) (m : Map) (core : Core) (input : List ℕ) (n : ℕ)
    → n ≤ v.events → GoesWith P v (traced_run m core input) → Notes P (traced_run m core input n)
unfolding traced_run
notes_where_going P c v m core input n le g =
    let h = going_at P input g.at (run_of g.at (start_state core input)) (noted m (start_state core input) g.at).log g.view g.is g.holds in
    notes_at P c m core input n
    (noted_below P c m (start_state core input) n g.at (omega (arith, le, g.counted, h.0)) h.1)

pub notes_where_over : (P : List (Event ℕ ℕ) → Type 0) → IsClosed P → (end : End) (m : Map) (core : Core) (input : List ℕ) (n : ℕ)
    → EndsWith P end (traced_run m core input) → Notes P (traced_run m core input n)
unfolding traced_run
notes_where_over P c end m core input n g =
    let s = start_state core input in
    let h = over_at P c input g.at (run_of g.at s) (noted m s g.at).log end g.view g.is g.holds in
    notes_at P c m core input n
    (elim (cases_lt g.at n) [
      | inl late ↦ noted_stays P m s g.at h.end h.state h.is n (omega (arith, late)) h.holds
      | inr early ↦ noted_below P c m s n g.at early h.holds
    ])
