-- What holds of all that a run notes between source and machine holds of the machine, where the source is defined.
use Rattle.std.specs.Prelude.{ℕ, ◌≡◌, List, [], ◌∷◌}
use Rattle.std.proofs.Common.{arith, subst, ap, refl}
use Rattle.pw_db.specs.declared.database.Directives.{Directives}
use Rattle.pw_machine.specs.Core.{Core}
use Rattle.pw_cmean.specs.Worlds as source
use Rattle.pw_cmean.specs.Acts.{Undefined, StackFull, Exit, Bound, Wrong, Outcome, Gives, Ends}
use Rattle.pw_cmean.specs.SourceRun.{run_main, start_state, source_run, seen}
use Rattle.pw_run.specs.Runs.{Stage, AreAlike, none, also, Refines, Same, Ended}
use Rattle.pw_run.specs.Runs as run
use Rattle.pw_run_agreement.specs.Agreement.{IsMeaningful, IsDefined}
use Rattle.pw_db_sound.specs.CallGraphs.{Graph}
use Rattle.pw_run_languages.specs.Traces.{Event, Called, Refused, Returned, Loaded, Stored, SameKind, Notes, KeepRegisters, with_refusal}
use Rattle.pw_run_languages.specs.Traffic.{ObeysTraffic}
use Rattle.pw_run_languages.specs.Meeting.{MetWith}
use Rattle.pw_run_languages.specs.MachineRun.{Map, traced_run}
use Rattle.pw_run_languages.proofs.Growing.{IsClosed, notes_where_going, notes_where_over}
use Rattle.pw_law_source.specs.Source.{source_stages, source_runs, staged, shown, end_of}

-- ---- from a defined source

ended : (P : List (Event ℕ ℕ) → Type 0) → IsClosed P → (m : Map) (c : Core) (input : List ℕ) (n : ℕ) (o : Outcome (Unit {0}))
    → IsMeaningful (end_of (seen o).end) → MetWith P (staged n o) (traced_run m c input) → Notes P (traced_run m c input n)
ended P closed m c input n (Gives done s) means met = notes_where_over P closed (Ended 0) m c input n met
ended P closed m c input n (Ends (Exit status) s) means met = notes_where_over P closed (Ended status) m c input n met
ended P closed m c input n (Ends StackFull s) means met = notes_where_over P closed run.StackFull m c input n met
ended P closed m c input n (Ends Bound s) means met = notes_where_going P closed (shown n s) m c input n (omega arith) met
ended P closed m c input n (Ends (Undefined operation home token) s) means met = absurd means
ended P closed m c input n (Ends Wrong s) means met = absurd means

pub defined_notes : (P : List (Event ℕ ℕ) → Type 0) → IsClosed P → (p : source.Program) (frame_of : List ℕ → ℕ) (stack : ℕ) (input : List ℕ) (m : Map) (c : Core)
    → IsDefined (source_runs p frame_of stack input) → ((n : ℕ) → MetWith P (source_stages p frame_of stack input n) (traced_run m c input))
    → (n : ℕ) → Notes P (traced_run m c input n)
unfolding source_stages source_run
defined_notes P closed p frame_of stack input m c defined met n =
    ended P closed m c input n (run_main (record { program = p; frame_of = frame_of; stack = stack }) n (start_state p input))
    (defined n) (met n)

-- ---- the two properties

registers_refused : (d : List (List ℕ × Directives)) (l : List (Event ℕ ℕ)) → KeepRegisters d (with_refusal l) → KeepRegisters d l
registers_refused d [] h = h
registers_refused d (Called f gs rs ∷ l) h = h
registers_refused d (Refused f ∷ l) h = h
registers_refused d (Returned f k gs rs ss ∷ l) h = h
registers_refused d (Loaded v ∷ l) h = h
registers_refused d (Stored v ∷ l) h = h

refused_registers : (d : List (List ℕ × Directives)) (l : List (Event ℕ ℕ)) → KeepRegisters d l → KeepRegisters d (with_refusal l)
refused_registers d [] h = h
refused_registers d (Called f gs rs ∷ l) h = h
refused_registers d (Refused f ∷ l) h = h
refused_registers d (Returned f k gs rs ss ∷ l) h = h
refused_registers d (Loaded v ∷ l) h = h
refused_registers d (Stored v ∷ l) h = h

pub registers_closed : (d : List (List ℕ × Directives)) → IsClosed (KeepRegisters d)
registers_closed d = record { earlier = λ e l h. h.1; of_refused = registers_refused d; to_refused = refused_registers d }

traffic_refused : (g : Graph) (d : List (List ℕ × Directives)) (l : List (Event ℕ ℕ)) → ObeysTraffic g d (with_refusal l) → ObeysTraffic g d l
traffic_refused g d [] h = h
traffic_refused g d (Called f gs rs ∷ l) h = h
traffic_refused g d (Refused f ∷ l) h = h
traffic_refused g d (Returned f k gs rs ss ∷ l) h = h
traffic_refused g d (Loaded v ∷ l) h = h
traffic_refused g d (Stored v ∷ l) h = h

refused_traffic : (g : Graph) (d : List (List ℕ × Directives)) (l : List (Event ℕ ℕ)) → ObeysTraffic g d l → ObeysTraffic g d (with_refusal l)
refused_traffic g d [] h = h
refused_traffic g d (Called f gs rs ∷ l) h = h
refused_traffic g d (Refused f ∷ l) h = h
refused_traffic g d (Returned f k gs rs ss ∷ l) h = h
refused_traffic g d (Loaded v ∷ l) h = h
refused_traffic g d (Stored v ∷ l) h = h

pub traffic_closed : (g : Graph) (d : List (List ℕ × Directives)) → IsClosed (ObeysTraffic g d)
traffic_closed g d = record { earlier = λ e l h. h.1; of_refused = traffic_refused g d; to_refused = refused_traffic g d }

-- ---- logs that are the same

pub same_logs : {M : Type 0} (l m : List M) → AreAlike Same l m → l ≡ m
same_logs l m none = refl
same_logs l m (also x y xs ys p q) = subst (λ y. x ∷ xs ≡ y ∷ ys) p (ap (λ r. x ∷ r) (same_logs xs ys q))

pub same_kinds : {B C V W : Type 0} (F : Event B V → Event C W → Type 0) → ((e : Event B V) (f : Event C W) → F e f → SameKind e f)
    → (l : List (Event B V)) (m : List (Event C W)) → AreAlike F l m → AreAlike SameKind l m
same_kinds F kind l m none = none
same_kinds F kind l m (also e f l' m' p q) = also e f l' m' (kind e f p) (same_kinds F kind l' m' q)
