-- What is noted in the run of a defined program's image: each call is one of the program's graph, and the functions that are
-- active have room on the stack.
use Rattle.std.specs.Prelude.{ℕ, List, [], ◌∷◌, map}
use Rattle.std.proofs.Common.{arith, subst}
use Rattle.pw_value.specs.declared.value.Value.{Value}
use Rattle.pw_value.specs.declared.value.Byte.{Byte}
use Rattle.pw_db.specs.declared.database.Directives.{Directives}
use Rattle.pw_object.specs.declared.object.Object.{Object}
use Rattle.pw_alloc.specs.declared.located.Located.{Located}
use Rattle.pw_machine.specs.Core.{Core}
use Rattle.pw_machine.specs.Start.{image_start}
use Rattle.pw_cmean.specs.Worlds as source
use Rattle.pw_cmean.specs.Acts.{Moment, Undefined, StackFull, Exit, Bound, Wrong, Outcome, Gives, Ends}
use Rattle.pw_cmean.specs.SourceRun.{run_main, start_state, source_run, seen}
use Rattle.pw_run.specs.Runs as run
use Rattle.pw_run.specs.Runs.{AreAlike, Ended, Refines, Same, Stage, Through, also, none}
use Rattle.pw_run.proofs.Composition.{refines_twice}
use Rattle.pw_run_agreement.specs.Agreement.{IsDefined, IsMeaningful}
use Rattle.pw_db_sound.specs.CallGraphs.{Graph}
use Rattle.pw_run_languages.specs.Traces.{Event, EventAlike, Called, Refused, Returned, Loaded, Stored, Notes, SameKind, calls_alone, calls_of, with_refusal}
use Rattle.pw_run_languages.specs.Calls.{FollowsCalls}
use Rattle.pw_run_languages.specs.Meeting.{MetWith}
use Rattle.pw_run_languages.specs.Late.{RefinesLately}
use Rattle.pw_run_languages.specs.Programs.{NoneForLibrary, Program}
use Rattle.pw_run_languages.specs.FlowRun as flow
use Rattle.pw_run_languages.specs.FlowRun.{flow_run}
use Rattle.pw_run_languages.specs.LawfulPrograms.{StartFits, graph_of}
use Rattle.pw_run_languages.specs.PlacedRun.{placed_run}
use Rattle.pw_run_languages.specs.Direction.{MomentAlike, directed_functions, unplaced, web_run, with_functions}
use Rattle.pw_run_languages.specs.Standing.{EventInWords}
use Rattle.pw_run_languages.specs.LineRun.{line_run}
use Rattle.pw_run_languages.specs.MachineRun.{Map, traced_run}
use Rattle.pw_run_languages.specs.SelectionLaws.{line_program, placed_program}
use Rattle.pw_run_languages.specs.LinkingLaws.{address_of, frame_in, image_run, map_of}
use Rattle.pw_run_languages.proofs.Growing.{IsClosed, notes_where_going, notes_where_over}
use Rattle.pw_run_languages.proofs.Late.{carried_late, late_same, same_kind}
use Rattle.pw_run_languages.proofs.Likeness.{kind_of_alike}
use Rattle.pw_run_languages.proofs.Meeting.{carried, met_with}
use Rattle.pw_run_languages.proofs.Traffic.{follows_alike}
use Rattle.pw_law_source.specs.Source.{end_of, shown, source_runs, source_stages, staged}
use Rattle.pw_law_source.specs.Lowering.{MomentKept}
use Rattle.pw_law_layers.specs.Whole.{LayersKeep, image_of}
use Rattle.pw_law_layers.proofs.Roomless.{stages_kept}
use Rattle.pw_law_room.specs.Room.{HadRoom}
use Rattle.pw_law_room.proofs.Names.{room_alike, room_of_refused, room_to_refused}

abbrev pub ActiveCallsHaveRoom : Type 0
ActiveCallsHaveRoom = (p : Program) (functions : List Located) (input : List ℕ) → StartFits p → NoneForLibrary p.frame_of → (n : ℕ) → Notes (HadRoom p) (placed_run (with_functions p functions) input n)

-- ---- from run to run

same_kinds : {B C V W : Type 0} (F : Event B V → Event C W → Type 0) → ((e : Event B V) (f : Event C W) → F e f → SameKind e f)
    → (l : List (Event B V)) (m : List (Event C W)) → AreAlike F l m → AreAlike SameKind l m
same_kinds F kind l m none = none
same_kinds F kind l m (also e f l' m' p q) = also e f l' m' (kind e f p) (same_kinds F kind l' m' q)

words_kind : (p : Program) (named : List ℕ → ℕ) (e : Event Byte Value) (f : Event ℕ ℕ) → EventInWords p named e f → SameKind e f
words_kind p named e f w = kind_of_alike _ _ e f w.alike

places_kind : (e f : Event Byte Value) → EventAlike Same Same e f → SameKind e f
places_kind e f w = kind_of_alike Same Same e f w

source_to_webs : (p : Program) (source : ℕ → Stage Moment) (flows : ℕ → Stage flow.Moment) (webs : ℕ → Stage (Event Byte Value))
    → Refines (MomentKept p) source flows → Refines (MomentAlike p) flows (calls_of webs)
    → Refines (Through (MomentKept p) (MomentAlike p)) source (calls_of webs)
source_to_webs p source flows webs a b = refines_twice (MomentKept p) (MomentAlike p) source flows (calls_of webs) a b

-- what a defined source's run ends with, or goes on with, the machine's has noted
ended : (P : List (Event ℕ ℕ) → Type 0) → IsClosed P → (m : Map) (c : Core) (input : List ℕ) (n : ℕ) (o : Outcome (Unit {0}))
    → IsMeaningful (end_of (seen o).end) → MetWith P (staged n o) (traced_run m c input) → Notes P (traced_run m c input n)
ended P closed m c input n (Gives done s) means met = notes_where_over P closed (Ended 0) m c input n met
ended P closed m c input n (Ends (Exit status) s) means met = notes_where_over P closed (Ended status) m c input n met
ended P closed m c input n (Ends StackFull s) means met = notes_where_over P closed run.StackFull m c input n met
ended P closed m c input n (Ends Bound s) means met = notes_where_going P closed (shown n s) m c input n (omega arith) met
ended P closed m c input n (Ends (Undefined operation home token) s) means met = absurd means
ended P closed m c input n (Ends Wrong s) means met = absurd means

defined_notes : (P : List (Event ℕ ℕ) → Type 0) → IsClosed P → (p : source.Program) (frame_of : List ℕ → ℕ) (stack : ℕ) (input : List ℕ) (m : Map) (c : Core)
    → IsDefined (source_runs p frame_of stack input) → ((n : ℕ) → MetWith P (source_stages p frame_of stack input n) (traced_run m c input))
    → (n : ℕ) → Notes P (traced_run m c input n)
unfolding source_stages source_run
defined_notes P closed p frame_of stack input m c defined met n =
    ended P closed m c input n (run_main (record { program = p; frame_of = frame_of; stack = stack }) n (start_state p input))
    (defined n) (met n)

-- ---- calls of the graph

earlier : (g : Graph) (e : Event ℕ ℕ) (l : List (Event ℕ ℕ)) → FollowsCalls g (e ∷ l) → FollowsCalls g l
earlier g (Called f gs rs) l h = h.1
earlier g (Refused f) l h = h.1
earlier g (Returned f k gs rs ss) l h = h
earlier g (Loaded v) l h = h
earlier g (Stored v) l h = h

of_refused : (g : Graph) (l : List (Event ℕ ℕ)) → FollowsCalls g (with_refusal l) → FollowsCalls g l
of_refused g [] h = h
of_refused g (Called f gs rs ∷ l) h = h
of_refused g (Refused f ∷ l) h = h
of_refused g (Returned f k gs rs ss ∷ l) h = h
of_refused g (Loaded v ∷ l) h = h
of_refused g (Stored v ∷ l) h = h

to_refused : (g : Graph) (l : List (Event ℕ ℕ)) → FollowsCalls g l → FollowsCalls g (with_refusal l)
to_refused g [] h = h
to_refused g (Called f gs rs ∷ l) h = h
to_refused g (Refused f ∷ l) h = h
to_refused g (Returned f k gs rs ss ∷ l) h = h
to_refused g (Loaded v ∷ l) h = h
to_refused g (Stored v ∷ l) h = h

closed : (g : Graph) → IsClosed (FollowsCalls g)
closed g = record { earlier = earlier g; of_refused = of_refused g; to_refused = to_refused g }

abbrev AreCarried : {B C V W : Type 0} → (List (Event B V) → Type 0) → (List (Event C W) → Type 0) → Type 0
AreCarried {B} {C} {V} {W} P Q = (l : List (Event B V)) (k : List (Event C W)) → AreAlike SameKind l k → P l → Q k

-- what holds of like logs, from the run under directives to the machine's
noted_down : (P : List (Event Byte Value) → Type 0) (Q : List (Event ℕ ℕ) → Type 0) → AreCarried P P → AreCarried P Q → AreCarried Q Q → IsClosed Q
    → (p : Program) (named : List ℕ → ℕ) (s : Stage Moment) (webs places : ℕ → Stage (Event Byte Value)) (lines machine : ℕ → Stage (Event ℕ ℕ))
    → Refines (EventAlike Same Same) webs places → Refines (EventInWords p named) places lines → RefinesLately Same lines machine
    → MetWith P s webs → MetWith Q s machine
noted_down P Q first second third closed p named s webs places lines machine a b c m =
    carried_late Same Q Q (λ l k q. third l k (same_kinds Same same_kind l k q)) closed.earlier s lines machine c
    (carried (EventInWords p named) P Q (λ l k q. second l k (same_kinds (EventInWords p named) (words_kind p named) l k q)) s places lines b
    (carried (EventAlike Same Same) P P (λ l k q. first l k (same_kinds (EventAlike Same Same) places_kind l k q)) s webs places a m))

-- so what each run under directives notes, the machine notes where the program is defined
pub machine_notes : (P : List (Event Byte Value) → Type 0) (Q : List (Event ℕ ℕ) → Type 0) → AreCarried P P → AreCarried P Q → AreCarried Q Q → IsClosed Q
    → (p : source.Program) (q : Program) (d : List (List ℕ × Directives)) (functions : List Located) (objects : List Object) (input : List ℕ) → LayersKeep p q d functions objects input
    → ((n : ℕ) → Notes P (web_run q d input n)) → IsDefined (source_runs p (frame_in (image_of objects q.stack)) q.stack input) → (n : ℕ) → Notes Q (image_run q functions (image_of objects q.stack) input n)
machine_notes P Q first second third closed p q d functions objects input l all defined n =
    let v = image_of objects q.stack in
    let source = source_stages p (frame_in v) q.stack input in
    let webs = web_run q d input in
    let places = placed_run (with_functions q functions) input in
    let lines = line_run (line_program q functions) l.linking.addresses l.linking.scratch input in
    let machine = image_run q functions v input in
    let words = subst (λ named. Refines (EventInWords q named) places lines) l.linking.named l.selection.runs in
    let down = late_same lines (line_run (placed_program q functions) l.linking.addresses l.linking.scratch input) machine l.placement.runs l.linking.runs in
    let low = stages_kept (MomentKept q) p (frame_in v) q.stack input (flow_run q input) l.lowering in
    let to_webs = source_to_webs q source (flow_run q input) webs low l.direction.runs in
    defined_notes Q closed p (frame_in v) q.stack input (map_of q functions v) (image_start v.memory) defined
    (λ k. noted_down P Q first second third closed q (address_of v) (source k) webs places lines machine l.places.runs words down
    (met_with (Through (MomentKept q) (MomentAlike q)) P calls_alone (source k) webs all (to_webs k))) n

pub calls_follow : (p : source.Program) (q : Program) (d : List (List ℕ × Directives)) (functions : List Located) (objects : List Object) (input : List ℕ) → LayersKeep p q d functions objects input
    → IsDefined (source_runs p (frame_in (image_of objects q.stack)) q.stack input) → (n : ℕ) → Notes (FollowsCalls (graph_of q)) (image_run q functions (image_of objects q.stack) input n)
calls_follow p q d functions objects input l defined n =
    let g = graph_of q in
    machine_notes (FollowsCalls g) (FollowsCalls g) (follows_alike g) (follows_alike g) (follows_alike g) (closed g) p q d functions objects input l l.direction.calls defined n

-- ---- room on the stack

room_closed : (q : Program) → IsClosed (HadRoom q)
room_closed q = record { earlier = λ e l h. h.1; of_refused = room_of_refused q; to_refused = room_to_refused q }

pub calls_have_room : ActiveCallsHaveRoom → (p : source.Program) (q : Program) (d : List (List ℕ × Directives)) (functions : List Located) (objects : List Object) (input : List ℕ) → LayersKeep p q d functions objects input
    → StartFits q → NoneForLibrary q.frame_of → IsDefined (source_runs p (frame_in (image_of objects q.stack)) q.stack input) → (n : ℕ) → Notes (HadRoom q) (image_run q functions (image_of objects q.stack) input n)
unfolding web_run
calls_have_room law p q d functions objects input l start library defined n =
    machine_notes (HadRoom q) (HadRoom q) (room_alike q) (room_alike q) (room_alike q) (room_closed q) p q d functions objects input l
    (law q (map unplaced (directed_functions q d)) input start library) defined n
