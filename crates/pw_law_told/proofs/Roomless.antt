-- The k-th call that the debugger counts is that of the program where no function takes room on the stack, also where it is refused
-- for want of stack.
use Rattle.std.specs.Prelude.{ℕ, suc, ◌≡◌, ◌+◌, ◌<◌, ◌≤◌, ◌⊎◌, List, [], ◌∷◌, ◌++◌, length}
use Rattle.std.proofs.Common.{arith, sym, ap, refl, subst, inl, inr, ◌∙◌, append_assoc}
use Rattle.std.proofs.lemmas.Bool.{cases_lt}
use Rattle.std.proofs.lemmas.List.{length-append}
use Rattle.pw_value.specs.declared.value.Value.{Value}
use Rattle.pw_value.specs.declared.value.Byte.{Byte}
use Rattle.pw_value.specs.Objects.{Object as Thing}
use Rattle.pw_db.specs.declared.database.Directives.{Directives}
use Rattle.pw_object.specs.declared.object.Object.{Object}
use Rattle.pw_alloc.specs.declared.located.Located.{Located}
use Rattle.pw_machine.specs.Core.{Core}
use Rattle.pw_machine.specs.Run.{State, start_state}
use Rattle.pw_machine.specs.Start.{image_start}
use Rattle.pw_cmean.specs.Worlds as source
use Rattle.pw_cmean.specs.Acts.{Moment, Called, Returned, Undefined, Exit, Bound, Wrong as WrongEnd, Outcome, Gives, Ends}
use Rattle.pw_cmean.specs.Acts as acts
use Rattle.pw_cmean.specs.Lasting.{state_behind}
use Rattle.pw_cmean.specs.SourceRun.{run_main, seen, source_run}
use Rattle.pw_cmean.specs.SourceRun as meaning
use Rattle.pw_run.specs.Runs.{AreAlike, Going, Over, Refines, Same, Stage, StackFull, View}
use Rattle.pw_run_agreement.specs.Agreement.{IsDefined, IsMeaningful}
use Rattle.pw_run_languages.specs.Traces.{Event, EventAlike, calls_alone, calls_of}
use Rattle.pw_run_languages.specs.Late.{GoesLately, MetLately, RefinesLately}
use Rattle.pw_run_languages.specs.Programs.{Program}
use Rattle.pw_run_languages.specs.Addresses.{Addresses}
use Rattle.pw_run_languages.specs.FlowRun as flow
use Rattle.pw_run_languages.specs.FlowRun.{flow_run}
use Rattle.pw_run_languages.specs.Direction.{MomentAlike, with_functions}
use Rattle.pw_run_languages.specs.Standing.{EventInWords}
use Rattle.pw_run_languages.specs.LineRun as lines
use Rattle.pw_run_languages.specs.LineRun.{LineProgram, line_run}
use Rattle.pw_run_languages.specs.MachineRun.{Map, noted, traced_run}
use Rattle.pw_run_languages.specs.PlacementLaws.{DirectionKeeps, PlacesKeep}
use Rattle.pw_run_languages.specs.SelectionLaws.{line_program, placed_program}
use Rattle.pw_run_languages.specs.LinkingLaws.{frame_in, image_run, map_of}
use Rattle.pw_run_languages.specs.PlacedRun as placed
use Rattle.pw_run_languages.proofs.Late.{late_same}
use Rattle.pw_law_source.specs.Source.{end_of, shown as view_of, source_progress, source_runs, source_stages, staged, staged_within}
use Rattle.pw_law_source.specs.Lowering.{MomentKept}
use Rattle.pw_law_layers.specs.Whole.{InMachine, LayersKeep, RefinementGoesThrough, image_of, roomless}
use Rattle.pw_law_layers.proofs.Roomless.{stages_kept}
use Rattle.pw_law_selection.specs.Following.{IsGiven}
use Rattle.pw_where.specs.Calls.{IsCall}
use Rattle.pw_law_where.specs.Counting.{AreEntriesOf}
use Rattle.pw_law_pause.specs.Moments.{IsOlder, noted_within}
use Rattle.pw_law_calls.specs.Calls.{HasCalls, HasNoted, IsCallOfSource, IsSourceCall, calls_among}
use Rattle.pw_law_refused.specs.Refused.{HasShown, IsRefused, IsRefusedAlike, NotesRefused, behind, log_with_call}
use Rattle.pw_law_refused.proofs.Logs.{alike_lengths, has_latest, has_part, shows_alike, stops_alike}
use Rattle.pw_law_told.specs.Told.{ComesToCall, IsPause, world_of}
use Rattle.pw_law_told.proofs.Pauses.{Longer, Roomier, call_later, longer_counts, noted_is, one_call, pause_is, roomless_later}

-- ---- logs of the program

calls_append : (xs ys : List Moment) → calls_among (xs ++ ys) ≡ calls_among xs + calls_among ys
calls_append [] ys = omega arith
calls_append (m ∷ xs) ys = let rest = calls_append xs ys in omega (arith, rest)

-- two logs that are the beginning of one
same_ends : (xs ys s t : List Moment) → xs ++ s ≡ ys ++ t → length s ≡ length t → s ≡ t
same_ends [] [] s t e long = e
same_ends [] (y ∷ ys) s t e long =
    let whole : length s ≡ length ((y ∷ ys) ++ t) = ap length e in
    let parts = length-append ys t in
    absurd (omega (arith, whole, parts, long))
same_ends (x ∷ xs) [] s t e long =
    let whole : length ((x ∷ xs) ++ s) ≡ length t = ap length e in
    let parts = length-append xs s in
    absurd (omega (arith, whole, parts, long))
same_ends (x ∷ xs) (y ∷ ys) s t e long =
    let rest : xs ++ s ≡ ys ++ t = cc in
    same_ends xs ys s t rest long

longer_with : (xs ys s t : List Moment) → xs ++ s ≡ ys ++ t → calls_among s < calls_among t → length s < length t
longer_with [] [] s t e less = let same : calls_among s ≡ calls_among t = ap calls_among e in absurd (omega (arith, same, less))
longer_with [] (y ∷ ys) s t e less =
    let whole : calls_among s ≡ calls_among ((y ∷ ys) ++ t) = ap calls_among e in
    let parts = calls_append ys t in
    absurd (omega (arith, whole, parts, less))
longer_with (x ∷ xs) [] s t e less =
    let whole : length ((x ∷ xs) ++ s) ≡ length t = ap length e in
    let parts = length-append xs s in
    omega (arith, whole, parts)
longer_with (x ∷ xs) (y ∷ ys) s t e less =
    let rest : xs ++ s ≡ ys ++ t = cc in
    longer_with xs ys s t rest less

older_then : (k l m : List Moment) → IsOlder k l → IsOlder l m → IsOlder k m
older_then k l m p q = (q.0 ++ p.0, q.1 ∙ ap (λ (x : List Moment). q.0 ++ x) p.1 ∙ sym (append_assoc q.0 p.0 k))

-- a log of at least k calls has its k-th
record HasCall (log : List Moment) (k : ℕ) : Type 0 where
  function : List ℕ
  things : List Thing
  call : IsSourceCall log k function things

one_later : (m : Moment) (log : List Moment) (k : ℕ) → HasCall log k → HasCall (m ∷ log) k
one_later m log k h = record { function = h.function; things = h.things; call = call_later log (m ∷ log) k h.function h.things (m ∷ [], refl) h.call }

has_call : (log : List Moment) (k : ℕ) → 0 < k → k ≤ calls_among log → HasCall log k
has_call [] k some most = absurd (omega (arith, some, most))
has_call (Returned f things ∷ log) k some most =
    let more : k ≤ calls_among log = omega (arith, most) in
    one_later (Returned f things) log k (has_call log k some more)
has_call (Called f things ∷ log) k some most = elim (cases_lt (calls_among log) k) [
  | inl last ↦ let count : calls_among log + 1 ≡ k = omega (arith, last, most) in
      record { function = f; things = things; call = record { later = []; before = log; log_is = refl; count = count } }
  | inr more ↦ one_later (Called f things) log k (has_call log k some more)
]

-- ---- stages of the program

record HasProgress (s : Stage Moment) (log : List Moment) : Type 0 where
  view : View Moment
  shown : HasShown s view
  is : view.log ≡ log

progress_by : (n : ℕ) (o : Outcome (Unit {0})) → HasProgress (staged_within n o) (state_behind o).moments
progress_by n (Gives done s) = record { view = view_of 0 s; shown = refl; is = refl }
progress_by n (Ends (Exit status) s) = record { view = view_of 0 s; shown = refl; is = refl }
progress_by n (Ends acts.StackFull s) = record { view = view_of 0 s; shown = refl; is = refl }
progress_by n (Ends Bound s) = record { view = view_of n s; shown = refl; is = refl }
progress_by n (Ends (Undefined operation home token) s) = record { view = view_of 0 s; shown = refl; is = refl }
progress_by n (Ends WrongEnd s) = record { view = view_of 0 s; shown = refl; is = refl }

has_progress : (p : source.Program) (input : List ℕ) (n : ℕ) → HasProgress (source_progress p (λ f. 0) 0 input n) (noted_within (world_of p (λ f. 0) 0) input n)
unfolding source_progress
has_progress p input n = progress_by n (run_main (world_of p (λ f. 0) 0) n (meaning.start_state p input))

-- the program has the k-th call on its stack, or is refused it
record HasOwn (n k : ℕ) (o : Outcome (Unit {0})) : Type 0 where
  log : List Moment
  noted : HasNoted (staged n o) log
  most : k ≤ calls_among log

record IsFull (k : ℕ) (o : Outcome (Unit {0})) : Type 0 where
  state : acts.State
  is : o ≡ Ends acts.StackFull state
  count : calls_among state.moments + 1 ≡ k

by_outcome : (step k : ℕ) (o : Outcome (Unit {0})) → IsMeaningful (end_of (seen o).end) → HasCalls step k (staged (suc step) o) → HasOwn (suc step) k o ⊎ IsFull k o
by_outcome step k (Gives done s) means has = inl (record { log = s.moments; noted = refl; most = omega (arith, has) })
by_outcome step k (Ends (Exit status) s) means has = inl (record { log = s.moments; noted = refl; most = omega (arith, has) })
by_outcome step k (Ends acts.StackFull s) means has = elim (cases_lt (calls_among s.moments) k) [
  | inl last ↦ let count : calls_among s.moments + 1 ≡ k = omega (arith, last, has) in inr (record { state = s; is = refl; count = count })
  | inr more ↦ inl (record { log = s.moments; noted = refl; most = more })
]
by_outcome step k (Ends Bound s) means has = inl (record { log = s.moments; noted = refl; most = has (omega arith) })
by_outcome step k (Ends (Undefined operation home token) s) means has = absurd means
by_outcome step k (Ends WrongEnd s) means has = absurd means

-- ---- like logs, one below another

-- a run that has shown no more than this, and goes on
abbrev constant : {M : Type 0} → List ℕ → ℕ → List M → ℕ → Stage M
constant output read log n = Going (record { output = output; read = read; events = 0; log = log })

constant_meets : {M N : Type 0} (F : M → N → Type 0) (output : List ℕ) (read : ℕ) (l : List M) (m : List N) (b : ℕ → Stage N) → b 0 ≡ Going (record { output = output; read = read; events = 0; log = m }) → AreAlike F l m
    → Refines F (constant output read l) b
constant_meets F output read l m b is alike n = record { at = 0; view = record { output = output; read = read; events = 0; log = m }; is = is; same = record { output = refl; read = refl; log = alike }; counted = omega arith }

lately_meets : (v : View (Event ℕ ℕ)) (machine : ℕ → Stage (Event ℕ ℕ)) → (met : GoesLately Same v machine) → RefinesLately Same (constant met.view.output met.view.read v.log) machine
lately_meets v machine met n = record { at = met.at; view = met.view; is = met.is; output = refl; read = refl; log = met.log; counted = omega arith }

goes_down : RefinementGoesThrough → (q : Program) (named : List ℕ → ℕ) (log : List Moment) (moments : List flow.Moment) (webs places : List (Event Byte Value)) (v : View (Event ℕ ℕ)) (machine : ℕ → Stage (Event ℕ ℕ))
    → AreAlike (MomentKept q) log moments → AreAlike (MomentAlike q) moments (calls_alone webs) → AreAlike (EventAlike Same Same) webs places → AreAlike (EventInWords q named) places v.log → (met : GoesLately Same v machine)
    → Refines (InMachine q named) (constant met.view.output met.view.read log) (calls_of machine)
goes_down through q named log moments webs places v machine a b c d met =
    let output = met.view.output in
    let read = met.view.read in
    through q named (constant output read log) (constant output read moments) (constant output read webs) (constant output read places) (constant output read v.log) machine
    (constant_meets (MomentKept q) output read log moments (constant output read moments) refl a)
    (constant_meets (MomentAlike q) output read moments (calls_alone webs) (calls_of (constant output read webs)) refl b)
    (constant_meets (EventAlike Same Same) output read webs places (constant output read places) refl c)
    (constant_meets (EventInWords q named) output read places v.log (constant output read v.log) refl d)
    (lately_meets v machine met)

-- a call of the flow graphs is one of the program
kept_called : (q : Program) (m : Moment) (f : List ℕ) (things : List Thing) → MomentKept q m (flow.Called f things) → (own : List Thing) × (m ≡ Called f own)
kept_called q (Called g own) f things h = (own, ap (λ (n : List ℕ). Called n own) (sym h.0))
kept_called q (Returned g own) f things h = absurd h

line_goes : (q : LineProgram) (w : Addresses) (scratch : ℕ → (ℕ → ℕ) → ℕ → ℕ) (input : List ℕ) (n : ℕ) (l : lines.Machine) → lines.steps q w scratch n (lines.start q w input) ≡ lines.On l → line_run q w scratch input n ≡ Going (lines.shown l l.trace)
unfolding line_run
line_goes q w scratch input n l is = ap lines.staged is

-- ---- the laws below

-- a call that is refused for want of stack comes next where no function takes room
abbrev pub NextIsNoted : source.World → List ℕ → Type 0
NextIsNoted world input =
    (n : ℕ) (t : acts.State) → run_main world n (meaning.start_state world.program input) ≡ Ends acts.StackFull t
    → (name : List ℕ) × IsOlder (Called name t.objects ∷ t.moments) (noted_within (world_of world.program (λ f. 0) 0) input n)

abbrev pub StagesHaveTheCalls : Type 0
StagesHaveTheCalls =
    (q : Program) (entries : List ℕ) (m : Map) (core : Core) (input : List ℕ) (program : ℕ → Stage Moment) (k step n : ℕ) (s : State) → AreEntriesOf entries m → Refines (InMachine q m.named) program (calls_of (traced_run m core input))
    → IsCall entries (start_state core input) k step s → HasCalls step k (program n)

abbrev pub CallsAreTheSources : Type 0
CallsAreTheSources =
    (q : Program) (entries : List ℕ) (m : Map) (core : Core) (input : List ℕ) (program : ℕ → Stage Moment) (k step n : ℕ) (s : State) (log : List Moment) (f : List ℕ) (things : List Thing) → AreEntriesOf entries m
    → Refines (InMachine q m.named) program (calls_of (traced_run m core input)) → IsCall entries (start_state core input) k step s → HasNoted (program n) log → IsSourceCall log k f things
    → IsCallOfSource q m k s.core (noted m (start_state core input) step) f things

abbrev pub GraphsAreRefusedAlike : Type 0
GraphsAreRefusedAlike =
    (q : Program) (d : List (List ℕ × Directives)) (functions : List Located) (w : Addresses) (input : List ℕ) (n k : ℕ) (v u : View flow.Moment) → IsGiven q d functions w input → DirectionKeeps q d input → PlacesKeep q d functions input
    → DirectionKeeps (roomless q) d input → PlacesKeep (roomless q) d functions input → flow_run q input n ≡ Over StackFull v → HasShown (flow_run (roomless q) input k) u → length v.log < length u.log
    → IsRefusedAlike q functions input (length v.log) u.log

abbrev pub RefusedCallsAreNoted : Type 0
RefusedCallsAreNoted =
    (q : Program) (d : List (List ℕ × Directives)) (functions : List Located) (w : Addresses) (scratch : ℕ → (ℕ → ℕ) → ℕ → ℕ) (input : List ℕ) (n : ℕ) (m u : placed.Machine) → IsGiven q d functions w input
    → placed.steps (with_functions q functions) n (placed.start (with_functions q functions) input) ≡ placed.On m → (refused : IsRefused q functions m u) → NotesRefused q functions w scratch input (behind refused.ops m) refused.function.body.name

pub record LawsBelow : Type 0 where
  pub through : RefinementGoesThrough
  pub stages : StagesHaveTheCalls
  pub calls : CallsAreTheSources
  pub alike : GraphsAreRefusedAlike
  pub noted : RefusedCallsAreNoted
  pub longer : Longer
  pub roomier : Roomier

module _ (laws : LawsBelow) (p : source.Program) (q : Program) (d : List (List ℕ × Directives)) (functions : List Located) (objects : List Object) (input : List ℕ) (layers : LayersKeep p q d functions objects input) where
  abbrev stages : ℕ → Stage Moment
  stages n = source_stages p (frame_in (image_of objects q.stack)) q.stack input n

  abbrev own_world : source.World
  own_world = world_of p (frame_in (image_of objects q.stack)) q.stack

  abbrev free : source.World
  free = world_of p (λ f. 0) 0

  abbrev map : Map
  map = map_of q functions (image_of objects q.stack)

  abbrev core : Core
  core = image_start (image_of objects q.stack).memory

  -- what the source has at the machine's k-th call
  source_has : (entries : List ℕ) (k step : ℕ) (s : State) → AreEntriesOf entries map → IsCall entries (start_state core input) k step s → Refines (InMachine q map.named) stages (calls_of (traced_run map core input))
      → IsDefined (source_runs p (frame_in (image_of objects q.stack)) q.stack input)
      → HasOwn (suc step) k (run_main own_world (suc step) (meaning.start_state p input)) ⊎ IsFull k (run_main own_world (suc step) (meaning.start_state p input))
  unfolding source_stages source_run
  source_has entries k step s are reached holds defined =
      let n = suc step in
      by_outcome step k (run_main own_world n (meaning.start_state p input)) (defined n) (laws.stages q entries map core input stages k step n s are holds reached)

  own_noted : (n k : ℕ) (h : HasOwn n k (run_main own_world n (meaning.start_state p input))) → HasNoted (stages n) h.log
  unfolding source_stages
  own_noted n k h = h.noted

  full_over : (n k : ℕ) (h : IsFull k (run_main own_world n (meaning.start_state p input))) → stages n ≡ Over StackFull (view_of 0 h.state)
  unfolding source_stages
  full_over n k h = ap (λ (x : Outcome (Unit {0})). staged n x) h.is

  -- ---- the program comes to it

  pub comes_to : (entries : List ℕ) (k step : ℕ) (s : State) → AreEntriesOf entries map → IsCall entries (start_state core input) k step s → Refines (InMachine q map.named) stages (calls_of (traced_run map core input))
      → IsDefined (source_runs p (frame_in (image_of objects q.stack)) q.stack input) → NextIsNoted own_world input → ComesToCall p input k
  comes_to entries k step s are reached holds defined next =
      let n = suc step in
      elim (source_has entries k step s are reached holds defined) [
        | inl own ↦ let before = reached.before in
            let c = has_call own.log k (omega (arith, before)) own.most in
            let noted = noted_is p (frame_in (image_of objects q.stack)) q.stack input n own.log (own_noted n k own) in
            let there : IsSourceCall (noted_within own_world input n) k c.function c.things = subst (λ (l : List Moment). IsSourceCall l k c.function c.things) (sym noted) c.call in
            record {
              function = c.function;
              things = c.things;
              pause = record { bound = n; call = call_later (noted_within own_world input n) (noted_within free input n) k c.function c.things (roomless_later laws.roomier p (frame_in (image_of objects q.stack)) q.stack input n) there };
            }
        | inr full ↦ let called = next n full.state full.is in record {
          function = called.0;
          things = full.state.objects;
          pause = record { bound = n; call = record { later = called.1.0; before = full.state.moments; log_is = called.1.1; count = full.count } };
        }
      ]

  module _ (entries : List ℕ) (k step : ℕ) (s : State) (are : AreEntriesOf entries map) (reached : IsCall entries (start_state core input) k step s) (f : List ℕ) (things : List Thing) (pause : IsPause p input k f things) where
    abbrev IsTheCall : List ℕ → List Thing → Type 0
    IsTheCall g others = IsCallOfSource q map k s.core (noted map (start_state core input) step) g others

    moved : (g : List ℕ) (others : List Thing) → (g ≡ f) × (others ≡ things) → IsTheCall g others → IsTheCall f things
    moved g others same call = subst (λ (h : List ℕ). IsTheCall h things) same.0 (subst (λ (ts : List Thing). IsTheCall g ts) same.1 call)

    -- on the stack
    own_call : (n : ℕ) (log : List Moment) → Refines (InMachine q map.named) stages (calls_of (traced_run map core input)) → HasNoted (stages n) log → k ≤ calls_among log → IsTheCall f things
    own_call n log places noted most =
        let before = reached.before in
        let c = has_call log k (omega (arith, before)) most in
        let same = pause_is laws.longer laws.roomier p (frame_in (image_of objects q.stack)) q.stack input n k log c.function f c.things things noted c.call pause in
        moved c.function c.things same (laws.calls q entries map core input stages k step n s log c.function c.things are places reached noted c.call)

    -- for want of stack
    module _ (given : IsGiven q d functions layers.linking.addresses input) (direction : DirectionKeeps (roomless q) d input) (places : PlacesKeep (roomless q) d functions input)
        (progress : Refines (MomentKept q) (source_progress p (λ f. 0) 0 input) (flow_run (roomless q) input)) where
      -- the program's call, and the like of it in the run of flow graphs and in the placed run
      record IsRefusedThere : Type 0 where
        count : ℕ
        log : List flow.Moment
        refused : IsRefusedAlike q functions input count log
        own : List Thing
        before : List Moment
        alike : AreAlike (MomentKept q) (Called refused.refused.function.body.name own ∷ before) (flow.Called refused.refused.function.body.name refused.objects ∷ refused.before)
        number : calls_among before + 1 ≡ k
        same : (refused.refused.function.body.name ≡ f) × (own ≡ things)

      -- of the source, which has stopped with these calls and returns noted, the log that has the call
      record Stopped (before : List Moment) : Type 0 where
        whole : List Moment
        stopped : IsOlder before whole
        paused : IsOlder (noted_within free input pause.bound) whole
        full : calls_among before + 1 ≡ k
        more : length before < length (noted_within free input pause.bound)

      has_stopped : (n : ℕ) (before : List Moment) → IsOlder before (noted_within free input n) → calls_among before + 1 ≡ k → Stopped before
      has_stopped n before room full =
          let all = n + pause.bound in
          let log = noted_within free input pause.bound in
          let first = older_then before (noted_within free input n) (noted_within free input all) room (laws.longer free input n all (omega arith)) in
          let second = laws.longer free input pause.bound all (omega arith) in
          let counted : calls_among log ≡ calls_among (pause.call.later ++ Called f things ∷ pause.call.before) = ap calls_among pause.call.log_is in
          let count = longer_counts pause.call.later pause.call.before f things in
          let number = pause.call.count in
          record { whole = noted_within free input all; stopped = first; paused = second; full = full; more = longer_with first.0 second.0 before log (sym first.1 ∙ second.1) (omega (arith, counted, count, number, full)) }

      -- the runs of the flow graphs
      record BothMet (before : List Moment) : Type 0 where
        count : ℕ
        long : length before ≡ count
        log : List flow.Moment
        refused : IsRefusedAlike q functions input count log
        alike : AreAlike (MomentKept q) (noted_within free input pause.bound) log

      both_met : (n : ℕ) (t : acts.State) → stages n ≡ Over StackFull (view_of 0 t) → length t.moments < length (noted_within free input pause.bound) → BothMet t.moments
      both_met n t over more =
          let shown = has_progress p input pause.bound in
          let free_graphs = shows_alike (MomentKept q) (source_progress p (λ f. 0) 0 input pause.bound) shown.view (flow_run (roomless q) input) shown.shown (progress pause.bound) in
          let graphs = stops_alike (MomentKept q) (stages n) (view_of 0 t) (flow_run q input) over (stages_kept (MomentKept q) p (frame_in (image_of objects q.stack)) q.stack input (flow_run q input) layers.lowering n) in
          let a = alike_lengths (MomentKept q) t.moments graphs.view.log graphs.alike in
          let b = alike_lengths (MomentKept q) shown.view.log free_graphs.view.log free_graphs.alike in
          let c : length shown.view.log ≡ length (noted_within free input pause.bound) = ap (λ (l : List Moment). length l) shown.is in
          let further : length graphs.view.log < length free_graphs.view.log = omega (arith, a, b, c, more) in
          record {
            count = length graphs.view.log;
            long = a;
            log = free_graphs.view.log;
            refused = laws.alike q d functions layers.linking.addresses input graphs.at free_graphs.at graphs.view free_graphs.view given layers.direction layers.places direction places graphs.is free_graphs.shown further;
            alike = subst (λ (l : List Moment). AreAlike (MomentKept q) l free_graphs.view.log) shown.is free_graphs.alike;
          }

      -- the call among what the program has noted
      record IsAmong (before : List Moment) (count : ℕ) (name : List ℕ) (others : List Thing) (moments : List flow.Moment) : Type 0 where
        since : List Moment
        own : List Thing
        behind : List Moment
        is : noted_within free input pause.bound ≡ since ++ Called name own ∷ behind
        alike : AreAlike (MomentKept q) (Called name own ∷ behind) (flow.Called name others ∷ moments)
        long : length behind ≡ length moments

      is_among : (before : List Moment) (h : BothMet before) → IsAmong before h.count h.refused.refused.function.body.name h.refused.objects h.refused.before
      is_among before h =
          let r = h.refused in
          let name = r.refused.function.body.name in
          let part = has_part (MomentKept q) (noted_within free input pause.bound) h.log r.since (flow.Called name r.objects ∷ r.before) r.is h.alike in
          let latest = has_latest (MomentKept q) part.part (flow.Called name r.objects ∷ r.before) (flow.Called name r.objects) r.before refl part.alike in
          let own = kept_called q latest.latest name r.objects latest.alike in
          let part_is : part.part ≡ Called name own.0 ∷ latest.before = latest.is ∙ ap (λ (m : Moment). m ∷ latest.before) own.1 in
          record {
            since = part.since;
            own = own.0;
            behind = latest.before;
            is = part.is ∙ ap (λ (l : List Moment). part.since ++ l) part_is;
            alike = subst (λ (l : List Moment). AreAlike (MomentKept q) l (flow.Called name r.objects ∷ r.before)) part_is part.alike;
            long = alike_lengths (MomentKept q) latest.before r.before latest.others;
          }

      there_by : (before : List Moment) → Stopped before → (h : BothMet before) → IsAmong before h.count h.refused.refused.function.body.name h.refused.objects h.refused.before → IsRefusedThere
      there_by before s h among =
          let log = noted_within free input pause.bound in
          let name = h.refused.refused.function.body.name in
          let in_log : IsOlder among.behind log = older_then among.behind (Called name among.own ∷ among.behind) log (Called name among.own ∷ [], refl) (among.since, among.is) in
          let older = older_then among.behind log s.whole in_log s.paused in
          let same : among.behind ≡ before = same_ends older.0 s.stopped.0 among.behind before (sym older.1 ∙ s.stopped.1) (among.long ∙ (h.refused.long ∙ sym h.long)) in
          let last : calls_among among.behind + 1 ≡ k = ap (λ (l : List Moment). calls_among l + 1) same ∙ s.full in
          record {
            count = h.count;
            log = h.log;
            refused = h.refused;
            own = among.own;
            before = among.behind;
            alike = among.alike;
            number = last;
            same = one_call log k name f among.own things (record { later = among.since; before = among.behind; log_is = among.is; count = last }) pause.call;
          }

      refused_there : (n : ℕ) (t : acts.State) → stages n ≡ Over StackFull (view_of 0 t) → IsOlder t.moments (noted_within free input n) → calls_among t.moments + 1 ≡ k → IsRefusedThere
      refused_there n t over room full =
          let s = has_stopped n t.moments room full in
          let h = both_met n t over s.more in
          there_by t.moments s h (is_among t.moments h)

      refused_call : IsRefusedThere → IsTheCall f things
      refused_call h =
          let r = h.refused in
          let name = r.refused.function.body.name in
          let w = layers.linking.addresses in
          let scratch = layers.linking.scratch in
          let line = laws.noted q d functions w scratch input r.at r.last r.stopped given r.comes r.refused in
          let machine = image_run q functions (image_of objects q.stack) input in
          let down = late_same (line_run (line_program q functions) w scratch input) (line_run (placed_program q functions) w scratch input) machine layers.placement.runs layers.linking.runs in
          let view = lines.shown line.state line.state.trace in
          let met : GoesLately Same view machine = subst (λ (x : Stage (Event ℕ ℕ)). MetLately Same x machine) (line_goes (line_program q functions) w scratch input line.count line.state line.comes) (down line.count) in
          let log : List Moment = Called name h.own ∷ h.before in
          let refines = goes_down laws.through q w.named log (flow.Called name r.objects ∷ r.before) r.webs (log_with_call q functions name (behind r.refused.ops r.last)) view machine h.alike r.moments r.events line.alike met in
          let there = subst (λ (named : List ℕ → ℕ). Refines (InMachine q named) (constant met.view.output met.view.read log) (calls_of machine)) layers.linking.named refines in
          moved name h.own h.same
          (laws.calls q entries map core input (constant met.view.output met.view.read log) k step 0 s log name h.own are there reached refl (record { later = []; before = h.before; log_is = refl; count = h.number }))

      pub the_call : Refines (InMachine q map.named) stages (calls_of (traced_run map core input)) → IsDefined (source_runs p (frame_in (image_of objects q.stack)) q.stack input) → IsTheCall f things
      the_call holds defined =
          let n = suc step in
          elim (source_has entries k step s are reached holds defined) [
            | inl own ↦ own_call n own.log holds (own_noted n k own) own.most
            | inr full ↦ refused_call (refused_there n full.state (full_over n k full)
                (subst (λ (l : List Moment). IsOlder l (noted_within free input n)) (ap (λ (x : Outcome (Unit {0})). (state_behind x).moments) full.is) (roomless_later laws.roomier p (frame_in (image_of objects q.stack)) q.stack input n)) full.count)
          ]
