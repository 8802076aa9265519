-- The k-th call of the program and that of the machine, where what the program notes is alike to what the machine does.
use Rattle.std.proofs.Common.{◌≡◌, ℕ, ◌+◌, Bool, true, false, cond, List, [], ◌∷◌, ◌++◌, refl, sym, ap, subst, ◌∙◌, arith}
use Rattle.std.specs.List.{AllByRecursion}
use Rattle.pw_value.specs.Objects.{Object}
use Rattle.pw_machine.specs.declared.ends.End.TheVariants as machine
use Rattle.pw_machine.specs.Core.{Core}
use Rattle.pw_machine.specs.Run.{State, Progress, Running, Stopped, run_of, start_state}
use Rattle.pw_cmean.specs.Acts as source
use Rattle.pw_cmean.specs.Acts.{Moment}
use Rattle.pw_run.specs.Runs.{AreAlike, Going, Met, Over, Refines, Stage, Wrong, also, none}
use Rattle.pw_run_languages.specs.Programs.{Program}
use Rattle.pw_run_languages.specs.Traces.{Event, Called, Refused, Returned, Loaded, Stored, Standing, calls_alone, calls_of, is_shown, shown_by, with_refusal}
use Rattle.pw_run_languages.specs.MachineRun.{Map, globals_in, kept, noted, staged, traced_run}
use Rattle.pw_law_layers.specs.Whole.{AllInMachine, InMachine}
use Rattle.pw_where.specs.Calls.{IsCall, one_if}
use Rattle.pw_law_where.specs.Counting.{AreEntriesOf, NotesCall, is_source_call, source_calls}
use Rattle.pw_law_calls.specs.Calls.{HasNoted, IsCallOfSource, IsSourceCall, calls_among, is_call}
use Rattle.pw_law_calls.proofs.Logs.{Events, IsCallIn, no_call, one_call_of, refused_call, whole_call}

abbrev pub AllShown : Events → Type 0
AllShown es = AllByRecursion (λ e. is_shown e ≡ true) es

-- ---- what is alike, moment by moment

module _ (q : Program) (named : List ℕ → ℕ) where
  abbrev pub Alike : Moment → Event ℕ ℕ → Type 0
  Alike = InMachine q named

  abbrev Each : List Moment → Events → Type 0
  Each [] es = es ≡ []
  Each (m ∷ ms) es = (e : Event ℕ ℕ) × (more : Events) × (es ≡ e ∷ more) × Alike m e × AreAlike Alike ms more

  each : (ms : List Moment) (es : Events) → AreAlike Alike ms es → Each ms es
  each ms es none = refl
  each ms es (also m e rest more h t) = (e, more, refl, h, t)

  -- a call of the program is alike to a call of the machine
  record CallAlike (f : List ℕ) (objects : List Object) (e : Event ℕ ℕ) : Type 0 where
    globals : List (Standing ℕ ℕ)
    registers : List ℕ
    is : e ≡ Called f globals registers
    stands : AllInMachine q named objects globals

  call_alike : (f : List ℕ) (objects : List Object) (e : Event ℕ ℕ) → Alike (source.Called f objects) e → CallAlike f objects e
  call_alike f objects (Called g globals registers) h = record { globals = globals; registers = registers; is = ap (λ (name : List ℕ). Called name globals registers) h.0; stands = h.1 }
  call_alike f objects (Refused g) h = absurd h
  call_alike f objects (Returned g inner globals before after) h = absurd h
  call_alike f objects (Loaded v) h = absurd h
  call_alike f objects (Stored v) h = absurd h

  one_counts : (m : Moment) (e : Event ℕ ℕ) → Alike m e → is_shown e ≡ true → one_if (is_call m) ≡ one_if (is_source_call e)
  one_counts (source.Called f objects) (Called g globals registers) h shown = ap one_if (sym shown)
  one_counts (source.Called f objects) (Refused g) h shown = absurd h
  one_counts (source.Called f objects) (Returned g inner globals before after) h shown = absurd h
  one_counts (source.Called f objects) (Loaded v) h shown = absurd h
  one_counts (source.Called f objects) (Stored v) h shown = absurd h
  one_counts (source.Returned f objects) (Called g globals registers) h shown = absurd h
  one_counts (source.Returned f objects) (Refused g) h shown = absurd h
  one_counts (source.Returned f objects) (Returned g inner globals before after) h shown = refl
  one_counts (source.Returned f objects) (Loaded v) h shown = absurd h
  one_counts (source.Returned f objects) (Stored v) h shown = absurd h

  pub counts : (ms : List Moment) (es : Events) → AreAlike Alike ms es → AllShown es → calls_among ms ≡ source_calls es
  counts [] es a shown = sym (ap source_calls (each [] es a))
  counts (m ∷ ms) es a shown =
      let p = each (m ∷ ms) es a in
      let all : AllShown (p.0 ∷ p.1) = subst AllShown p.2 shown in
      let rest = counts ms p.1 p.4 all.1 in
      let one = one_counts m p.0 p.3 all.0 in
      let whole : source_calls es ≡ one_if (is_source_call p.0) + source_calls p.1 = ap source_calls p.2 in
      omega (arith, rest, one, whole)

  -- the k-th call
  record Found (k : ℕ) (f : List ℕ) (objects : List Object) (es : Events) : Type 0 where
    event : Event ℕ ℕ
    call : IsCallIn es k event
    alike : CallAlike f objects event

  found_more : (k : ℕ) (f : List ℕ) (objects : List Object) (e : Event ℕ ℕ) (es : Events) → Found k f objects es → Found k f objects (e ∷ es)
  found_more k f objects e es c = record {
    event = c.event;
    call = record { later = e ∷ c.call.later; before = c.call.before; is = ap (λ (l : Events). e ∷ l) c.call.is; of_source = c.call.of_source; count = c.call.count };
    alike = c.alike;
  }

  found_at : (k : ℕ) (f : List ℕ) (objects : List Object) (later before : List Moment) (es : Events) → AreAlike Alike (later ++ source.Called f objects ∷ before) es → AllShown es → calls_among before + 1 ≡ k → Found k f objects es
  found_at k f objects [] before es a shown count =
      let p = each (source.Called f objects ∷ before) es a in
      let c = call_alike f objects p.0 p.3 in
      let all : AllShown (p.0 ∷ p.1) = subst AllShown p.2 shown in
      let same = counts before p.1 p.4 all.1 in
      let own : is_shown (Called f c.globals c.registers) ≡ true = subst (λ (e : Event ℕ ℕ). is_shown e ≡ true) c.is all.0 in
      let number : source_calls p.1 + 1 ≡ k = omega (arith, same, count) in
      record {
        event = p.0;
        call = record { later = []; before = p.1; is = p.2; of_source = ap is_source_call c.is ∙ own; count = number };
        alike = c;
      }
  found_at k f objects (m ∷ later) before es a shown count =
      let p = each (m ∷ (later ++ source.Called f objects ∷ before)) es a in
      let all : AllShown (p.0 ∷ p.1) = subst AllShown p.2 shown in
      subst (Found k f objects) (sym p.2) (found_more k f objects p.0 p.1 (found_at k f objects later before p.1 p.4 all.1 count))

  found_in : (k : ℕ) (f : List ℕ) (objects : List Object) (log : List Moment) (es : Events) → AreAlike Alike log es → AllShown es → IsSourceCall log k f objects → Found k f objects es
  found_in k f objects log es a shown c = found_at k f objects c.later c.before es (subst (λ (l : List Moment). AreAlike Alike l es) c.log_is a) shown c.count

-- ---- what the machine shows of its calls

shown_if : (b : Bool) (e : Event ℕ ℕ) (es : Events) → is_shown e ≡ b → AllShown es → AllShown (cond b (e ∷ es) es)
shown_if true e es is all = (is, all)
shown_if false e es is all = all

pub all_shown : (log : Events) → AllShown (calls_alone log)
all_shown [] = tt
all_shown (e ∷ log) = shown_if (is_shown e) e (calls_alone log) refl (all_shown log)

-- what a stage has noted, if it has not gone wrong
abbrev log_of : Stage (Event ℕ ℕ) → Events
log_of (Going v) = v.log
log_of (Over end v) = v.log
log_of Wrong = []

stage_shown : (input : List ℕ) (steps : ℕ) (p : Progress) (log : Events) → AllShown (log_of (shown_by calls_alone (staged input steps p log)))
stage_shown input steps (Running s) log = all_shown log
stage_shown input steps (Stopped (machine.Ended status) s) log = all_shown log
stage_shown input steps (Stopped machine.StackStop s) log = all_shown (with_refusal log)
stage_shown input steps (Stopped (machine.Halted halt at) s) log = tt

stage_call : (input : List ℕ) (steps : ℕ) (p : Progress) (log : Events) (k : ℕ) (x : Event ℕ ℕ) → IsCallIn (log_of (shown_by calls_alone (staged input steps p log))) k x → IsCallIn log k x
stage_call input steps (Running s) log k x c = whole_call log k x c
stage_call input steps (Stopped (machine.Ended status) s) log k x c = whole_call log k x c
stage_call input steps (Stopped machine.StackStop s) log k x c = refused_call log k x (whole_call (with_refusal log) k x c)
stage_call input steps (Stopped (machine.Halted halt at) s) log k x c = no_call k x (IsCallIn log k x) c

module _ (m : Map) (core : Core) (input : List ℕ) where
  abbrev run : ℕ → Stage (Event ℕ ℕ)
  run = calls_of (traced_run m core input)

  run_shown : (at : ℕ) → AllShown (log_of (run at))
  unfolding traced_run
  run_shown at = stage_shown input at (run_of at (start_state core input)) (noted m (start_state core input) at).log

  run_call : (at k : ℕ) (x : Event ℕ ℕ) → IsCallIn (log_of (run at)) k x → IsCallIn (noted m (start_state core input) at).log k x
  unfolding traced_run
  run_call at k x c = stage_call input at (run_of at (start_state core input)) (noted m (start_state core input) at).log k x c

  -- a stage of the program is met by the machine, which has its k-th call
  abbrev HasCall : Program → ℕ → List ℕ → List Object → Type 0
  HasCall q k f objects = (at : ℕ) × Found q m.named k f objects (log_of (run at))

  met_call : (q : Program) (stage : Stage Moment) (k : ℕ) (f : List ℕ) (objects : List Object) (log : List Moment) → Met (InMachine q m.named) stage run → HasNoted stage log → IsSourceCall log k f objects → HasCall q k f objects
  met_call q (Going v) k f objects log met has c =
      let es : met.view.log ≡ log_of (run met.at) = sym (ap log_of met.is) in
      let alike : AreAlike (InMachine q m.named) v.log (log_of (run met.at)) = subst (AreAlike (InMachine q m.named) v.log) es met.same.log in
      (met.at, found_in q m.named k f objects v.log (log_of (run met.at)) alike (run_shown met.at) (subst (λ (l : List Moment). IsSourceCall l k f objects) (sym has) c))
  met_call q (Over end v) k f objects log met has c =
      let es : met.view.log ≡ log_of (run met.at) = sym (ap log_of met.is) in
      let alike : AreAlike (InMachine q m.named) v.log (log_of (run met.at)) = subst (AreAlike (InMachine q m.named) v.log) es met.same.log in
      (met.at, found_in q m.named k f objects v.log (log_of (run met.at)) alike (run_shown met.at) (subst (λ (l : List Moment). IsSourceCall l k f objects) (sym has) c))
  met_call q Wrong k f objects log met has c = absurd has

  pub noted_call : (k step : ℕ) (c : Core) (call : NotesCall m k c (noted m (start_state core input) step)) → IsCallIn (noted m (start_state core input) step).log k (Called call.function (globals_in m c call.callers) (kept c))
  noted_call k step c call = record { later = []; before = call.before; is = call.called; of_source = call.of_source; count = call.count }

  found_call : (q : Program) (k step : ℕ) (c : Core) (f : List ℕ) (objects : List Object) → HasCall q k f objects → NotesCall m k c (noted m (start_state core input) step) → IsCallOfSource q m k c (noted m (start_state core input) step) f objects
  found_call q k step c f objects has call =
      let found = has.1 in
      let here = Called call.function (globals_in m c call.callers) (kept c) in
      let same : found.event ≡ here = one_call_of m (start_state core input) k has.0 step found.event here (run_call has.0 k found.event found.call) (noted_call k step c call) in
      let event : Called f found.alike.globals found.alike.registers ≡ Called call.function (globals_in m c call.callers) (kept c) = sym found.alike.is ∙ same in
      let function : call.function ≡ f = cc in
      let globals : found.alike.globals ≡ globals_in m c call.callers = cc in
      record { call = call; function = function; globals = subst (AllInMachine q m.named objects) globals found.alike.stands }

-- ---- the law

abbrev CallsAreNoted : Type 0
CallsAreNoted = (entries : List ℕ) (m : Map) (start s : State) (k n : ℕ) → AreEntriesOf entries m → IsCall entries start k n s → NotesCall m k s.core (noted m start n)

pub the_call : CallsAreNoted → (q : Program) (entries : List ℕ) (m : Map) (core : Core) (input : List ℕ) (meaning : ℕ → Stage Moment) (k step n : ℕ) (s : State) (log : List Moment) (f : List ℕ) (objects : List Object)
    → AreEntriesOf entries m → Refines (InMachine q m.named) meaning (calls_of (traced_run m core input)) → IsCall entries (start_state core input) k step s → HasNoted (meaning n) log → IsSourceCall log k f objects
    → IsCallOfSource q m k s.core (noted m (start_state core input) step) f objects
the_call law q entries m core input meaning k step n s log f objects are refines call has c =
    found_call m core input q k step s.core f objects (met_call m core input q (meaning n) k f objects log (refines n) has c) (law entries m (start_state core input) s k step are call)
