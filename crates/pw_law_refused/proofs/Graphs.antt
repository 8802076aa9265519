-- Where the run of flow graphs stops for want of stack, the placed run is refused a call; and where no function takes room, both go on
-- with that call.
use Rattle.std.proofs.Common.{◌≡◌, ◌≢◌, ◌⊎◌, ℕ, suc, ◌+◌, ◌-◌, ◌<◌, ◌≤◌, ◌||◌, Bool, true, false, not, if◌then◌else◌, Option, Some, None, List, [], ◌∷◌, ◌++◌, map, length, refl, sym, ap, subst, ◌∙◌, arith, inl, inr, bytes_eq}
use Rattle.std.proofs.lemmas.Bool.{cases_lt}
use Rattle.std.proofs.lemmas.Slice.Eq.{bytes_eq-Decides}
use Rattle.pw_value.specs.declared.value.Value.{Value}
use Rattle.pw_value.specs.declared.value.Byte.{Byte}
use Rattle.pw_value.specs.Objects.{Object}
use Rattle.pw_value.specs.ProgramNames.{start_name, exit_name, getchar_name, putchar_name}
use Rattle.pw_db.specs.declared.database.Directives.{Directives}
use Rattle.pw_webflow.specs.declared.web.WebBlock.{WebBlock}
use Rattle.pw_alloc.specs.declared.located.Located.{Located}
use Rattle.pw_run.specs.Runs.{AreAlike, End, Going, Over, Same, Stage, StackFull, View, Wrong}
use Rattle.pw_db_sound.specs.CallGraphs.{Calls}
use Rattle.pw_run_languages.specs.Traces.{Called, Event, EventAlike, Loaded, Notes, Refused, Returned, SameKind, Standing, Stored, called, calls_alone, calls_of, is_of_source, loaded, refused, returned, shown_by, stored}
use Rattle.pw_run_languages.specs.Traffic.{Open, active}
use Rattle.pw_run_languages.specs.Calls.{FollowsCalls, IsCalledBy}
use Rattle.pw_run_languages.specs.Programs.{Program, Library, GetChar, PutChar, Exit, library_at}
use Rattle.pw_run_languages.specs.LawfulPrograms.{IsProgram, graph_of}
use Rattle.pw_run_languages.specs.Addresses.{Addresses}
use Rattle.pw_run_languages.specs.FlowRun as flow
use Rattle.pw_run_languages.specs.FlowRun.{flow_run}
use Rattle.pw_run_languages.specs.PlacedRun.{PlacedProgram, Frame, Machine, Step, On, Stopped, Astray, begins, entered_webs, first_block, function_named, globals_now, kept, name_of, placed_run, staged, start, step, steps, value_in}
use Rattle.pw_run_languages.specs.Direction.{MomentAlike, web_run, with_functions}
use Rattle.pw_run_languages.specs.PlacementLaws.{DirectionKeeps, PlacesKeep}
use Rattle.pw_run_languages.proofs.Likeness.{kind_of_alike}
use Rattle.pw_run_languages.proofs.Traffic.{follows_alike}
use Rattle.pw_law_direction.specs.DirectedLaws.{StartIsNotCalled}
use Rattle.pw_law_select_known.specs.Laws.{ActiveCallsAreNoted, WebsKeepShape, WebsNeverStop}
use Rattle.pw_law_select_start.proofs.Starting.{found_name}
use Rattle.pw_law_selection.specs.Following.{IsGiven}
use Rattle.pw_law_selection.proofs.Reaching.{webs_go}
use Rattle.pw_law_select_known.proofs.Parts.{begun_at, starts_at_by, starts_by}
use Rattle.pw_law_layers.specs.Whole.{roomless}
use Rattle.pw_law_refused.specs.Refused.{HasShown, IsRefused, IsRefusedAlike, behind, log_with_call}
use Rattle.pw_law_refused.proofs.Stages.{next_is, stops_from}
use Rattle.pw_law_refused.proofs.Adding.{Events, IsLater, TraceOf, begins_later, earlier, later_then, one_trace, trace_later}
use Rattle.pw_law_refused.proofs.Logs.{StopsAlike, alike_lengths, alike_weaker, alone_append, counts_add, counts_alike, has_latest, has_part, shown_count, shows_alike, stops_alike}
use Rattle.pw_law_refused.proofs.Free.{entering, enters_refused, steps_on}

-- ---- stages

abbrev log_of : {M : Type 0} → Stage M → List M
log_of (Going v) = v.log
log_of (Over end v) = v.log
log_of Wrong = []

-- what was shown where all is shown
record ShowsAll {M N : Type 0} (f : List M → List N) (s : Stage M) (log : List N) : Type 0 where
  view : View M
  shown : HasShown s view
  is : f view.log ≡ log

shows_all : {M N : Type 0} (f : List M → List N) (s : Stage M) (view : View N) → HasShown (shown_by f s) view → ShowsAll f s view.log
shows_all {M} {N} f (Going v) view is = record { view = v; shown = refl; is = ap (λ (w : View N). w.log) is }
shows_all {M} {N} f (Over end v) view is = record { view = v; shown = refl; is = ap (λ (w : View N). w.log) is }
shows_all {M} {N} f Wrong view is = absurd is

record StopsWhole {M N : Type 0} (f : List M → List N) (s : Stage M) (log : List N) : Type 0 where
  view : View M
  over : s ≡ Over StackFull view
  is : f view.log ≡ log

stops_whole : {M N : Type 0} (f : List M → List N) (s : Stage M) (view : View N) → shown_by f s ≡ Over StackFull view → StopsWhole f s view.log
stops_whole f (Going v) view e = absurd cc
stops_whole f (Over end v) view e = let same : end ≡ StackFull = cc in record { view = v; over = ap (λ (x : End). Over x v) same; is = ap log_of e }
stops_whole f Wrong view e = absurd cc

-- of a placed run
shown_step : (s : Step) (view : View (Event Byte Value)) → HasShown (staged s) view → TraceOf s view.log
shown_step (On m) view is = ap (λ (v : View (Event Byte Value)). v.log) is
shown_step (Stopped end m) view is = ap (λ (v : View (Event Byte Value)). v.log) is
shown_step Astray view is = is

placed_step : (q : PlacedProgram) (input : List ℕ) (n : ℕ) (view : View (Event Byte Value)) → HasShown (placed_run q input n) view → TraceOf (steps q n (start q input)) view.log
unfolding placed_run
placed_step q input n view is = shown_step (steps q n (start q input)) view is

record IsStopped (s : Step) (log : Events) : Type 0 where
  state : Machine
  is : s ≡ Stopped StackFull state
  trace : state.trace ≡ log

stopped_step : (s : Step) (view : View (Event Byte Value)) → staged s ≡ Over StackFull view → IsStopped s view.log
stopped_step (On m) view e = absurd cc
stopped_step (Stopped end m) view e = let same : end ≡ StackFull = cc in record { state = m; is = ap (λ (x : End). Stopped x m) same; trace = ap log_of e }
stopped_step Astray view e = absurd cc

placed_stopped : (q : PlacedProgram) (input : List ℕ) (n : ℕ) (view : View (Event Byte Value)) → placed_run q input n ≡ Over StackFull view → IsStopped (steps q n (start q input)) view.log
unfolding placed_run
placed_stopped q input n view e = stopped_step (steps q n (start q input)) view e

-- ---- a run does not stop where it starts

start_goes_at : WebsNeverStop → (p : Program) (fs : List Located) (input : List ℕ) (u : Machine) (l : Located) (b : Option WebBlock) → starts_at_by (with_functions p fs) input l b ≡ Stopped StackFull u → ⊥
start_goes_at never p fs input u l None e = cc
start_goes_at never p fs input u l (Some b) e = webs_go never p fs StackFull u (entered_webs l) (begun_at (with_functions p fs) input l b) e

start_goes : WebsNeverStop → (p : Program) (fs : List Located) (input : List ℕ) (u : Machine) (l : Option Located) → starts_by (with_functions p fs) input l ≡ Stopped StackFull u → ⊥
start_goes never p fs input u None e = cc
start_goes never p fs input u (Some l) e = start_goes_at never p fs input u l (first_block l) e

-- ---- the function whose call is refused is one of the source

differ : (f g : List ℕ) → f ≢ g → bytes_eq f g ≡ false
differ f g apart = by (bytes_eq f g) refl
  where
    by : (b : Bool) → bytes_eq f g ≡ b → b ≡ false
    by true e = absurd (apart ((bytes_eq-Decides f g).0 e))
    by false e = refl

source_by : (a b c d : Bool) → a ≡ false → ◌≡◌ {A = Option Library} (if c then Some GetChar else if d then Some PutChar else if b then Some Exit else None) None → not (a || (b || (c || (d || false)))) ≡ true
source_by true b c d e f = absurd cc
source_by false b true d e f = absurd cc
source_by false b false true e f = absurd cc
source_by false true false false e f = absurd cc
source_by false false false false e f = refl

source_name : (f : List ℕ) → library_at f ≡ None → f ≢ start_name → is_of_source f ≡ true
source_name f e apart = source_by (bytes_eq f start_name) (bytes_eq f exit_name) (bytes_eq f getchar_name) (bytes_eq f putchar_name) (differ f start_name apart) e

-- where functions are active, a call of the graph is one by a function
by_function : (p : Program) → StartIsNotCalled → IsProgram p → (name : List ℕ) (f : Frame) (fs : List Frame) (calls : List (Open Byte Value)) → map (λ c. c.function) calls ≡ map name_of (f ∷ fs) → IsCalledBy (graph_of p) name calls → name ≢ start_name
by_function p never program name f fs [] same calling = absurd cc
by_function p never program name f fs (c ∷ cs) same calling = λ e. never p c.function program (subst (λ (n : List ℕ). Calls (graph_of p) c.function n) e calling)

-- ---- both runs

places_kind : (e f : Event Byte Value) → EventAlike Same Same e f → SameKind e f
places_kind e f w = kind_of_alike Same Same e f w

roomless_moments : (p : Program) (m : flow.Moment) (e : Event Byte Value) → MomentAlike (roomless p) m e → MomentAlike p m e
roomless_moments p (flow.Called f objects) (Called g gs rs) h = h
roomless_moments p (flow.Called f objects) (Refused g) h = absurd h
roomless_moments p (flow.Called f objects) (Returned g k gs rs ss) h = absurd h
roomless_moments p (flow.Called f objects) (Loaded g) h = absurd h
roomless_moments p (flow.Called f objects) (Stored g) h = absurd h
roomless_moments p (flow.Returned f objects) (Called g gs rs) h = absurd h
roomless_moments p (flow.Returned f objects) (Refused g) h = absurd h
roomless_moments p (flow.Returned f objects) (Returned g k gs rs ss) h = h
roomless_moments p (flow.Returned f objects) (Loaded g) h = absurd h
roomless_moments p (flow.Returned f objects) (Stored g) h = absurd h

abbrev pub StopsAreRefusals : Type 0
StopsAreRefusals =
    (p : Program) (d : List (List ℕ × Directives)) (functions : List Located) (w : Addresses) (input : List ℕ) (n : ℕ) (m u : Machine) → IsGiven p d functions w input →
    steps (with_functions p functions) n (start (with_functions p functions) input) ≡ On m → step (with_functions p functions) m ≡ Stopped StackFull u → IsRefused p functions m u

module _ (shape : WebsKeepShape) (never : WebsNeverStop) (p : Program) (d : List (List ℕ × Directives)) (functions : List Located) (input : List ℕ) where
  abbrev full : PlacedProgram
  full = with_functions p functions

  abbrev free : PlacedProgram
  free = with_functions (roomless p) functions

  -- the run without room, where it has noted more than the run with room, has noted the refused call
  module _ (n : ℕ) (m u : Machine) (comes : steps full n (start full input) ≡ On m) (r : IsRefused p functions m u) where
    abbrev call : Events
    call = log_with_call p functions r.function.body.name (behind r.ops m)

    passed : steps free n (start free input) ≡ On m
    passed = steps_on p functions input n m comes

    entered_later : (log : Events) → TraceOf (steps free (suc n) (start free input)) log → IsLater call log
    entered_later log at =
        let args = map (value_in m.frame m.registers) r.from in
        let next = entering p functions free r.function (behind r.ops m) in
        let is = next_is free n (start free input) m (begins free r.function (first_block r.function) r.result args next) passed (enters_refused p functions m u r) in
        trace_later call (begins free r.function (first_block r.function) r.result args next) log (begins_later shape never (roomless p) functions r.function (first_block r.function) r.result args next)
        (subst (λ (s : Step). TraceOf s log) is at)

    behind_call : (k : ℕ) (log : Events) → TraceOf (steps free k (start free input)) log → (n < k) ⊎ (k ≤ n) → shown_count m.trace < shown_count log → IsLater call log
    behind_call k log at (inl after) more =
        let same : suc n + (k - suc n) ≡ k = omega (arith, after) in
        let e = earlier shape never (roomless p) functions (start free input) (suc n) (k - suc n) log (subst (λ (i : ℕ). TraceOf (steps free i (start free input)) log) (sym same) at) in
        later_then call e.noted log (entered_later e.noted e.is) e.later
    behind_call k log at (inr before) more =
        let same : k + (n - k) ≡ n = omega (arith, before) in
        let own : TraceOf (steps free n (start free input)) m.trace = subst (λ (s : Step). TraceOf s m.trace) (sym passed) refl in
        let e = earlier shape never (roomless p) functions (start free input) k (n - k) m.trace (subst (λ (i : ℕ). TraceOf (steps free i (start free input)) m.trace) (sym same) own) in
        let here : e.noted ≡ log = one_trace (steps free k (start free input)) e.noted log e.is at in
        let counts = counts_add m.trace e.later.0 e.noted e.later.1 in
        let least : shown_count e.noted ≡ shown_count log = ap (λ (l : Events). shown_count l) here in
        absurd (omega (arith, counts, least, more))

  -- ---- the call as the graphs note it

  record IsLatestCall (f : List ℕ) (log webs : Events) (part : List flow.Moment) : Type 0 where
    objects : List Object
    before : List flow.Moment
    is : part ≡ flow.Called f objects ∷ before
    long : length before ≡ shown_count log
    moments : AreAlike (MomentAlike p) (flow.Called f objects ∷ before) (calls_alone webs)

  -- a call is alike to a call alone
  record IsCalled (f : List ℕ) (e : Event Byte Value) : Type 0 where
    globals : List (Standing Byte Value)
    registers : List Value
    is : e ≡ Called f globals registers

  event_called : (f : List ℕ) (gs : List (Standing Byte Value)) (rs : List Value) (e x : Event Byte Value) → EventAlike Same Same e x → x ≡ Called f gs rs → IsCalled f e
  event_called f gs rs e x (called g hs is ss ts a) same = let name : g ≡ f = cc in record { globals = hs; registers = ss; is = ap (λ (n : List ℕ). Called n hs ss) name }
  event_called f gs rs e x (refused g) same = absurd cc
  event_called f gs rs e x (returned g k hs is ss ts us vs a) same = absurd cc
  event_called f gs rs e x (loaded g) same = absurd cc
  event_called f gs rs e x (stored g) same = absurd cc

  moment_called : (f : List ℕ) (gs : List (Standing Byte Value)) (rs : List Value) (m : flow.Moment) → MomentAlike p m (Called f gs rs) → (objects : List Object) × (m ≡ flow.Called f objects)
  moment_called f gs rs (flow.Called g objects) h = (objects, ap (λ (n : List ℕ). flow.Called n objects) (sym h.0))
  moment_called f gs rs (flow.Returned g objects) h = absurd h

  call_alone : (f : List ℕ) (gs : List (Standing Byte Value)) (rs : List Value) (log : Events) → is_of_source f ≡ true → calls_alone (Called f gs rs ∷ log) ≡ Called f gs rs ∷ calls_alone log
  call_alone f gs rs log source = ap (λ (b : Bool). if b then Called f gs rs ∷ calls_alone log else calls_alone log) source

  latest_call : (f : List ℕ) (gs : List (Standing Byte Value)) (rs : List Value) (log webs : Events) (part : List flow.Moment) → is_of_source f ≡ true → AreAlike (EventAlike Same Same) webs (Called f gs rs ∷ log)
      → AreAlike (MomentAlike p) part (calls_alone webs) → IsLatestCall f log webs part
  latest_call f gs rs log webs part source events moments =
      let e = has_latest (EventAlike Same Same) webs (Called f gs rs ∷ log) (Called f gs rs) log refl events in
      let own = event_called f gs rs e.latest (Called f gs rs) e.alike refl in
      let webs_are : webs ≡ Called f own.globals own.registers ∷ e.before = e.is ∙ ap (λ (x : Event Byte Value). x ∷ e.before) own.is in
      let alone : calls_alone webs ≡ Called f own.globals own.registers ∷ calls_alone e.before =
      ap (λ (l : Events). calls_alone l) webs_are ∙ call_alone f own.globals own.registers e.before source in
      let m = has_latest (MomentAlike p) part (calls_alone webs) (Called f own.globals own.registers) (calls_alone e.before) alone moments in
      let call = moment_called f own.globals own.registers m.latest m.alike in
      let is : part ≡ flow.Called f call.0 ∷ m.before = m.is ∙ ap (λ (x : flow.Moment). x ∷ m.before) call.1 in
      record {
        objects = call.0;
        before = m.before;
        is = is;
        long = alike_lengths (MomentAlike p) m.before (calls_alone e.before) m.others ∙ counts_alike (EventAlike Same Same) places_kind e.before log e.others;
        moments = subst (λ (l : List flow.Moment). AreAlike (MomentAlike p) l (calls_alone webs)) is moments;
      }

  -- ---- from graphs to places

  module _ (w : Addresses) (given : IsGiven p d functions w input) (named : ActiveCallsAreNoted) (not_called : StartIsNotCalled) (stops : StopsAreRefusals)
      (direction : DirectionKeeps p d input) (places : PlacesKeep p d functions input) (direction0 : DirectionKeeps (roomless p) d input) (places0 : PlacesKeep (roomless p) d functions input) where
    -- the function is one of the source
    refused_source : (m u : Machine) (n : ℕ) (webs log : Events) → steps full n (start full input) ≡ On m → (r : IsRefused p functions m u)
        → FollowsCalls (graph_of p) webs → AreAlike (EventAlike Same Same) webs log → log ≡ Refused r.function.body.name ∷ m.trace → is_of_source r.function.body.name ≡ true
    refused_source m u n webs log comes r follows alike is =
        let name = r.function.body.name in
        let down = follows_alike (graph_of p) webs log (alike_weaker (EventAlike Same Same) SameKind places_kind webs log alike) follows in
        let follow : FollowsCalls (graph_of p) (Refused name ∷ m.trace) = subst (λ (l : Events). FollowsCalls (graph_of p) l) is down in
        let apart = by_function p not_called given.program name m.frame m.callers (active m.trace) (named p functions input n m comes) follow.0 in
        source_name name (subst (λ (f : List ℕ). library_at f ≡ None) (sym (found_name functions r.name r.function r.found)) r.of_module) apart

    -- the run under directives stops
    record WebsStop (count : ℕ) : Type 0 where
      at : ℕ
      view : View (Event Byte Value)
      over : web_run p d input at ≡ Over StackFull view
      counts : shown_count view.log ≡ count

    webs_stop : (n : ℕ) (v : View flow.Moment) → flow_run p input n ≡ Over StackFull v → WebsStop (length v.log)
    webs_stop n v over =
        let webs = stops_alike (MomentAlike p) (flow_run p input n) v (calls_of (web_run p d input)) over (direction.runs n) in
        let whole = stops_whole calls_alone (web_run p d input webs.at) webs.view webs.is in
        let long = alike_lengths (MomentAlike p) v.log webs.view.log webs.alike in
        let counts : shown_count whole.view.log ≡ length webs.view.log = ap (λ (l : Events). length l) whole.is in
        record { at = webs.at; view = whole.view; over = whole.over; counts = omega (arith, long, counts) }

    -- so does the placed run, which is refused a call
    record PlacesStop (count : ℕ) : Type 0 where
      at : ℕ
      last : Machine
      stopped : Machine
      comes : steps full at (start full input) ≡ On last
      refused : IsRefused p functions last stopped
      source : is_of_source refused.function.body.name ≡ true
      counts : shown_count last.trace ≡ count

    places_stop_by : (count : ℕ) (webs : WebsStop count) → (StopsAlike (EventAlike Same Same) webs.view.log (placed_run full input)) → PlacesStop count
    places_stop_by count webs below =
        let end = placed_stopped full input below.at below.view below.is in
        let from = stops_from full (start full input) StackFull end.state (start_goes never p functions input end.state (function_named full start_name)) below.at end.is in
        let r = stops p d functions w input from.count from.last end.state given from.comes from.stops in
        let log : below.view.log ≡ Refused r.function.body.name ∷ from.last.trace = sym end.trace ∙ ap (λ (m : Machine). m.trace) r.stops in
        let same = counts_alike (EventAlike Same Same) places_kind webs.view.log below.view.log below.alike in
        let last : shown_count below.view.log ≡ shown_count from.last.trace = ap (λ (l : Events). shown_count l) log in
        let own = webs.counts in
        record {
          at = from.count;
          last = from.last;
          stopped = end.state;
          comes = from.comes;
          refused = r;
          source = refused_source from.last end.state from.count webs.view.log below.view.log from.comes r (subst (λ s. Notes (FollowsCalls (graph_of p)) s) webs.over (direction.calls webs.at)) below.alike log;
          counts = omega (arith, same, last, own);
        }

    places_stop : (count : ℕ) → WebsStop count → PlacesStop count
    places_stop count webs = places_stop_by count webs (stops_alike (EventAlike Same Same) (web_run p d input webs.at) webs.view (placed_run full input) webs.over (places.runs webs.at))

    -- where no function takes room, both go on
    record GoesBelow (log : List flow.Moment) : Type 0 where
      at : ℕ
      webs : Events
      below : Events
      trace : TraceOf (steps free at (start free input)) below
      moments : AreAlike (MomentAlike (roomless p)) log (calls_alone webs)
      events : AreAlike (EventAlike Same Same) webs below

    goes_below : (k : ℕ) (u : View flow.Moment) → HasShown (flow_run (roomless p) input k) u → GoesBelow u.log
    goes_below k u shown =
        let webs = shows_alike (MomentAlike (roomless p)) (flow_run (roomless p) input k) u (calls_of (web_run (roomless p) d input)) shown (direction0.runs k) in
        let whole = shows_all calls_alone (web_run (roomless p) d input webs.at) webs.view webs.shown in
        let below = shows_alike (EventAlike Same Same) (web_run (roomless p) d input webs.at) whole.view (placed_run free input) whole.shown (places0.runs webs.at) in
        record {
          at = below.at;
          webs = whole.view.log;
          below = below.view.log;
          trace = placed_step free input below.at below.view below.shown;
          moments = subst (λ (l : Events). AreAlike (MomentAlike (roomless p)) u.log l) (sym whole.is) webs.alike;
          events = below.alike;
        }

    -- the part of the logs up to the call
    record HasBoth (log : List flow.Moment) (call : Events) : Type 0 where
      since : List flow.Moment
      part : List flow.Moment
      is : log ≡ since ++ part
      webs : Events
      moments : AreAlike (MomentAlike p) part (calls_alone webs)
      events : AreAlike (EventAlike Same Same) webs call

    has_both : (log : List flow.Moment) (call : Events) → (h : GoesBelow log) → IsLater call h.below → HasBoth log call
    has_both log call h later =
        let events = has_part (EventAlike Same Same) h.webs h.below later.0 call later.1 h.events in
        let split : calls_alone h.webs ≡ calls_alone events.since ++ calls_alone events.part = ap (λ (l : Events). calls_alone l) events.is ∙ alone_append events.since events.part in
        let moments = has_part (MomentAlike (roomless p)) log (calls_alone h.webs) (calls_alone events.since) (calls_alone events.part) split h.moments in
        record {
          since = moments.since;
          part = moments.part;
          is = moments.is;
          webs = events.part;
          moments = alike_weaker (MomentAlike (roomless p)) (MomentAlike p) (roomless_moments p) moments.part (calls_alone events.part) moments.alike;
          events = events.alike;
        }

    both_refused : (count : ℕ) (log : List flow.Moment) (s : PlacesStop count) → HasBoth log (log_with_call p functions s.refused.function.body.name (behind s.refused.ops s.last)) → IsRefusedAlike p functions input count log
    both_refused count log s h =
        let r = s.refused in
        let next = behind r.ops s.last in
        let latest = latest_call r.function.body.name (globals_now full next.registers (next.frame ∷ next.callers) next.objects) (kept next.registers) s.last.trace h.webs h.part s.source h.events h.moments in
        record {
          at = s.at;
          last = s.last;
          stopped = s.stopped;
          comes = s.comes;
          refused = r;
          objects = latest.objects;
          before = latest.before;
          since = h.since;
          is = h.is ∙ ap (λ (l : List flow.Moment). h.since ++ l) latest.is;
          long = latest.long ∙ s.counts;
          webs = h.webs;
          moments = latest.moments;
          events = h.events;
        }

    refused_by : (count : ℕ) (log : List flow.Moment) → PlacesStop count → GoesBelow log → count < length log → IsRefusedAlike p functions input count log
    refused_by count log s h more =
        let long = alike_lengths (MomentAlike (roomless p)) log (calls_alone h.webs) h.moments in
        let same = counts_alike (EventAlike Same Same) places_kind h.webs h.below h.events in
        let own = s.counts in
        let further : shown_count s.last.trace < shown_count h.below = omega (arith, long, same, own, more) in
        both_refused count log s (has_both log (log_with_call p functions s.refused.function.body.name (behind s.refused.ops s.last)) h (behind_call s.at s.last s.stopped s.comes s.refused h.at h.below h.trace (cases_lt s.at h.at) further))

    pub refused_alike : (n k : ℕ) (v u : View flow.Moment) → flow_run p input n ≡ Over StackFull v → HasShown (flow_run (roomless p) input k) u → length v.log < length u.log → IsRefusedAlike p functions input (length v.log) u.log
    refused_alike n k v u over shown more = refused_by (length v.log) u.log (places_stop (length v.log) (webs_stop n v over)) (goes_below k u shown) more
