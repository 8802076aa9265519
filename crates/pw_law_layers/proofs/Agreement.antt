-- The refinements of all layers as one, and the agreement of source and machine from it.
use Rattle.std.specs.Prelude.{ℕ, ◌≡◌, List}
use Rattle.std.proofs.Common.{subst, sym, refl, ◌∙◌}
use Rattle.pw_value.specs.declared.value.Value.{Value}
use Rattle.pw_value.specs.declared.value.Byte.{Byte}
use Rattle.pw_machine.specs.Core.{Core}
use Rattle.pw_cmean.specs.Worlds as source
use Rattle.pw_cmean.specs.Acts.{Moment, Undefined, StackFull, Exit, Bound, Wrong, Outcome, Gives, Ends}
use Rattle.pw_cmean.specs.SourceRun.{run_main, start_state, source_run, seen}
use Rattle.pw_run.specs.Runs.{Stage, Going, Over, AreAlike, none, also, SameIn, GoesOn, EndsSo, Met, Refines, Through, Same, Whatever}
use Rattle.pw_run.specs.Runs as run
use Rattle.pw_run.proofs.Composition.{refines_twice}
use Rattle.pw_run_agreement.specs.MachineStages.{machine_run}
use Rattle.pw_run_agreement.specs.Agreement as agreement
use Rattle.pw_run_agreement.specs.Agreement.{Agree}
use Rattle.pw_run_languages.specs.Traces.{Event, EventAlike, SameKind, calls_of, calls_alone, shown_by}
use Rattle.pw_run_languages.proofs.Likeness.{kind_of_alike, met_shown, calls_refine}
use Rattle.pw_run_languages.specs.Late.{RefinesLately}
use Rattle.pw_run_languages.proofs.Late.{calls_in_time, same_kind}
use Rattle.pw_run_languages.specs.Programs.{Program}
use Rattle.pw_run_languages.specs.FlowRun as flow
use Rattle.pw_run_languages.specs.Direction.{MomentAlike}
use Rattle.pw_run_languages.specs.Standing.{EventInWords}
use Rattle.pw_run_languages.specs.MachineRun.{Map, traced_run}
use Rattle.pw_run_languages.proofs.Forgetting.{forgotten, run_forgets}
use Rattle.pw_law_source.specs.Source.{source_progress, source_runs, staged_within, end_of}
use Rattle.pw_law_source.specs.Lowering.{MomentKept}
use Rattle.pw_law_layers.specs.Whole.{InMachine}
use Rattle.pw_law_layers.proofs.Places.{all_layers}

-- ---- a wider likeness

alike_wider : {M N : Type 0} (F G : M → N → Type 0) → ((m : M) (n : N) → F m n → G m n)
    → (l : List M) (k : List N) → AreAlike F l k → AreAlike G l k
alike_wider F G h l k none = none
alike_wider F G h l k (also m n ms ns p q) = also m n ms ns (h m n p) (alike_wider F G h ms ns q)

met_wider : {M N : Type 0} (F G : M → N → Type 0) → ((m : M) (n : N) → F m n → G m n)
    → (s : Stage M) (b : ℕ → Stage N) → Met F s b → Met G s b
met_wider F G h (Going v) b p = record {
  at = p.at;
  view = p.view;
  is = p.is;
  counted = p.counted;
  same = record { output = p.same.output; read = p.same.read; log = alike_wider F G h v.log p.view.log p.same.log };
}
met_wider F G h (Over end v) b p = record {
  at = p.at;
  view = p.view;
  is = p.is;
  counted = p.counted;
  same = record { output = p.same.output; read = p.same.read; log = alike_wider F G h v.log p.view.log p.same.log };
}
met_wider F G h run.Wrong b p = tt

-- ---- the runs one after another

pub words_kind : (p : Program) (named : List ℕ → ℕ) (e : Event Byte Value) (f : Event ℕ ℕ) → EventInWords p named e f → SameKind e f
words_kind p named e f w = kind_of_alike _ _ e f w.alike

pub places_kind : (e f : Event Byte Value) → EventAlike Same Same e f → SameKind e f
places_kind e f w = kind_of_alike Same Same e f w

-- from the source to the machine
pub source_to_machine : (p : Program) (named : List ℕ → ℕ)
    (source : ℕ → Stage Moment) (flows : ℕ → Stage flow.Moment) (webs places : ℕ → Stage (Event Byte Value)) (lines machine : ℕ → Stage (Event ℕ ℕ))
    → Refines (MomentKept p) source flows → Refines (MomentAlike p) flows (calls_of webs)
    → Refines (EventAlike Same Same) webs places → Refines (EventInWords p named) places lines → RefinesLately Same lines machine
    → Refines (InMachine p named) source (calls_of machine)
source_to_machine p named source flows webs places lines machine a b c d e =
    λ n. met_wider (Through (MomentKept p) (Through (MomentAlike p) (Through (EventAlike Same Same) (Through (EventInWords p named) Same))))
    (InMachine p named) (all_layers p named) (source n) (calls_of machine)
    (refines_twice (MomentKept p) (Through (MomentAlike p) (Through (EventAlike Same Same) (Through (EventInWords p named) Same)))
    source flows (calls_of machine) a
    (refines_twice (MomentAlike p) (Through (EventAlike Same Same) (Through (EventInWords p named) Same))
    flows (calls_of webs) (calls_of machine) b
    (refines_twice (EventAlike Same Same) (Through (EventInWords p named) Same) (calls_of webs) (calls_of places) (calls_of machine)
    (calls_refine (EventAlike Same Same) places_kind webs places c)
    (refines_twice (EventInWords p named) Same (calls_of places) (calls_of lines) (calls_of machine)
    (calls_refine (EventInWords p named) (words_kind p named) places lines d)
    (calls_in_time Same same_kind lines machine e)))) n)

-- from the source to the directed run
pub source_to_webs : (p : Program) (source : ℕ → Stage Moment) (flows : ℕ → Stage flow.Moment) (webs : ℕ → Stage (Event Byte Value))
    → Refines (MomentKept p) source flows → Refines (MomentAlike p) flows (calls_of webs)
    → Refines (Through (MomentKept p) (MomentAlike p)) source (calls_of webs)
source_to_webs p source flows webs a b = refines_twice (MomentKept p) (MomentAlike p) source flows (calls_of webs) a b

-- ---- without what is noted

nothing_alike : {M N : Type 0} (F : M → N → Type 0) (l : List M) (m : List N) → AreAlike F l m → AreAlike Whatever (forgotten l) (forgotten m)
nothing_alike F l m p = none

-- a run that is another at each stage meets what that meets
met_by : {M N : Type 0} (F : M → N → Type 0) (s : Stage M) (b c : ℕ → Stage N) → ((n : ℕ) → b n ≡ c n) → Met F s b → Met F s c
met_by F (Going v) b c e p = record { at = p.at; view = p.view; is = sym (e p.at) ∙ p.is; same = p.same; counted = p.counted }
met_by F (Over end v) b c e p = record { at = p.at; view = p.view; is = sym (e p.at) ∙ p.is; same = p.same; counted = p.counted }
met_by F run.Wrong b c e p = tt

calls_forget : (s : Stage (Event ℕ ℕ)) → shown_by forgotten (shown_by calls_alone s) ≡ shown_by forgotten s
calls_forget (Going v) = refl
calls_forget (Over end v) = refl
calls_forget run.Wrong = refl

outcome_forgets : (n : ℕ) (o : Outcome (Unit {0}))
    → shown_by forgotten (staged_within n o) ≡ agreement.stage_by n (record { end = end_of (seen o).end; output = (seen o).out; read = (seen o).read }) (end_of (seen o).end)
outcome_forgets n (Gives done s) = refl
outcome_forgets n (Ends (Exit status) s) = refl
outcome_forgets n (Ends StackFull s) = refl
outcome_forgets n (Ends Bound s) = refl
outcome_forgets n (Ends (Undefined operation home token) s) = refl
outcome_forgets n (Ends Wrong s) = refl

source_forgets : (p : source.Program) (frame_of : List ℕ → ℕ) (stack : ℕ) (input : List ℕ) (n : ℕ)
    → shown_by forgotten (source_progress p frame_of stack input n) ≡ agreement.source_stages (source_runs p frame_of stack input) n
unfolding source_progress source_run
source_forgets p frame_of stack input n =
    outcome_forgets n (run_main (record { program = p; frame_of = frame_of; stack = stack }) n (start_state p input))

-- the agreement of source and machine
pub agrees : (p : source.Program) (frame_of : List ℕ → ℕ) (stack : ℕ) (input : List ℕ) (q : Program) (named : List ℕ → ℕ) (m : Map) (c : Core)
    → Refines (InMachine q named) (source_progress p frame_of stack input) (calls_of (traced_run m c input))
    → Agree (source_runs p frame_of stack input) c input
agrees p frame_of stack input q named m c r =
    λ n. subst (λ s. Met Whatever s (machine_run c input)) (source_forgets p frame_of stack input n)
    (met_by Whatever (shown_by forgotten (source_progress p frame_of stack input n))
    (λ k. shown_by forgotten (calls_of (traced_run m c input) k)) (machine_run c input)
    (λ k. calls_forget (traced_run m c input k) ∙ run_forgets m c input k)
    (met_shown (InMachine q named) Whatever forgotten forgotten (nothing_alike (InMachine q named))
    (source_progress p frame_of stack input n) (calls_of (traced_run m c input)) (r n)))
