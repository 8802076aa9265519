-- From calls that keep their promise to programs that keep their runs: `$start` calls `main`, and `exit` with the result.
use Rattle.std.proofs.Common.{◌≡◌, ◌≢◌, ℕ, zero, suc, ◌+◌, ◌%◌, Bool, true, false, true≢false, nat_lt, ltb-false, le-ltb, if◌then◌else◌, Option, Some, None, List, [], ◌∷◌, refl, ap, sym, ◌∙◌, arith}
use Rattle.pw_value.specs.declared.value.Value.{Value}
use Rattle.pw_value.specs.declared.value.Value.TheVariants as V
use Rattle.pw_value.specs.ProgramNames.{main_name, exit_name, start_name}
use Rattle.pw_flow.specs.declared.flow.Op.TheVariants as op
use Rattle.pw_cmean.specs.Worlds.{World, Callable, Body, Defined, Library, function_named, depth}
use Rattle.pw_cmean.specs.Acts as source
use Rattle.pw_cmean.specs.Acts.{State, Ending, Outcome, Gives, Ends, give, stop, go_on, ◌>>=◌, branch, look, need, undefined, wrong}
use Rattle.pw_cmean.specs.Evaluation.{bounded_call, take_room, call_body, call}
use Rattle.pw_cmean.specs.SourceRun.{run_body, callee, calls, finish, run_main, start_state, seen, source_run}
use Rattle.pw_run.specs.Runs as run
use Rattle.pw_run.specs.Runs.{Stage, Met}
use Rattle.pw_law_source.specs.FromRunLanguages.Commands.{command}
use Rattle.pw_law_source.specs.FromRunLanguages.Programs as flows
use Rattle.pw_law_source.specs.FromRunLanguages.Programs.{AreBytes, NoneForLibrary}
use Rattle.pw_law_source.specs.FromRunLanguages.FlowRun as flow
use Rattle.pw_law_source.specs.FromRunLanguages.FlowRun.{Machine, Step, On, Stopped, steps, goes_on, start, flow_run}
use Rattle.pw_law_source.specs.Source.{staged_within, source_progress}
use Rattle.pw_law_source.specs.Lowering.{MomentKept}
use Rattle.pw_law_refine.specs.Lowerable.{IsLowerableWorld}
use Rattle.pw_law_refine.specs.Activations.{graphs}
use Rattle.pw_law_refine.specs.Matching.{Shows}
use Rattle.pw_law_refine.specs.Meeting.{Reaches, Stops, Counts, Meets}
use Rattle.pw_law_refine.specs.Calls.{HasReturned, CallsKeep}
use Rattle.pw_law_refine_steps.proofs.Steps.{steps-more}
use Rattle.pw_law_refine.specs.Whole.{start_machine, StartMatches, StartsMatch, ProgramsKeepRuns}

-- ---- what a machine comes to, seen as a stage

-- the machine at the start comes to what the source's run counted
counts : (w : World) (input : List ℕ) (n : ℕ) (m : Machine) (s : State) → start (graphs w) input ≡ On m → m.events ≡ 0
    → Counts w n m s → Met (MomentKept (graphs w)) (run.Going (record { output = s.out; read = s.read; events = n; log = s.moments })) (flow_run (graphs w) input)
unfolding flow_run
counts w input n m s starts none c = record {
  at = c.count;
  view = flow.shown c.machine;
  is = ap (λ (a : Step). flow.staged (steps (graphs w) c.count a)) starts ∙ ap flow.staged c.comes;
  same = record { output = c.shows.output; read = c.shows.read; log = c.shows.log };
  counted = omega (arith, c.counted, none);
}

stops : (w : World) (input : List ℕ) (end : run.End) (m : Machine) (s : State) → start (graphs w) input ≡ On m
    → Stops w end m s → Met (MomentKept (graphs w)) (run.Over end (record { output = s.out; read = s.read; events = 0; log = s.moments })) (flow_run (graphs w) input)
unfolding flow_run
stops w input end m s starts c = record {
  at = c.count;
  view = flow.shown c.machine;
  is = ap (λ (a : Step). flow.staged (steps (graphs w) c.count a)) starts ∙ ap flow.staged c.comes;
  same = c.shows;
  counted = omega arith;
}

-- and what it comes to where an operation is undefined
reaches : (w : World) (input : List ℕ) (m : Machine) (s : State) → start (graphs w) input ≡ On m
    → Reaches (graphs w) m (Shows w s) → Met (MomentKept (graphs w)) (run.Going (record { output = s.out; read = s.read; events = 0; log = s.moments })) (flow_run (graphs w) input)
unfolding flow_run
reaches w input m s starts c = record {
  at = c.count;
  view = flow.shown c.machine;
  is = ap (λ (a : Step). flow.staged (steps (graphs w) c.count a)) starts ∙ ap flow.staged c.comes;
  same = record { output = c.holds.output; read = c.holds.read; log = c.holds.log };
  counted = omega arith;
}

-- the stages of the source's run, but where it does what no accepted program does, that promises nothing
abbrev noted : ℕ → Outcome (Unit {0}) → Stage source.Moment
noted n (Gives done s) = staged_within n (Gives done s)
noted n (Ends source.Bound s) = staged_within n (Ends source.Bound s)
noted n (Ends source.StackFull s) = staged_within n (Ends source.StackFull s)
noted n (Ends (source.Exit status) s) = staged_within n (Ends (source.Exit status) s)
noted n (Ends (source.Undefined o h t) s) = staged_within n (Ends (source.Undefined o h t) s)
noted n (Ends source.Wrong s) = run.Wrong

-- it never does
never_so : (w : World) (input : List ℕ) (n : ℕ) (o : Outcome (Unit {0})) → (seen o).end ≢ source.Wrong
    → Met (MomentKept (graphs w)) (noted n o) (flow_run (graphs w) input) → Met (MomentKept (graphs w)) (staged_within n o) (flow_run (graphs w) input)
never_so w input n (Gives done s) never h = h
never_so w input n (Ends source.Bound s) never h = h
never_so w input n (Ends source.StackFull s) never h = h
never_so w input n (Ends (source.Exit status) s) never h = h
never_so w input n (Ends (source.Undefined o at t) s) never h = h
never_so w input n (Ends source.Wrong s) never h = absurd (never refl)

-- ---- what a call needs of the stack

gives : {A : Type 0} → Outcome A → Bool
gives (Gives a s) = true
gives (Ends ending s) = false

gave : {A : Type 0} (o : Outcome A) (a : A) (s : State) → o ≡ Gives a s → gives o ≡ true
unfolding gives
gave o a s e = ap gives e

-- an act behind room on the stack gives a value only where there is room
had_room : {A : Type 0} (b : Bool) (act : Unit {0} → source.Act A) (s : State)
    → gives (go_on (branch b (stop source.StackFull) (give tt) s) act) ≡ true → b ≡ false
unfolding gives branch stop give go_on
had_room true act s e = sym e
had_room false act s e = refl

body_room : (w : World) (n : ℕ) (name shape : List ℕ) (body : Body) (args : List Value) (s : State)
    → gives (call w (calls w n) (record { name = name; shape = shape; body = body }) args s) ≡ true
    → nat_lt w.stack (depth w (name ∷ s.active)) ≡ false
unfolding call call_body bounded_call calls callee run_body take_room look ◌>>=◌ go_on gives stop
body_room w n name shape (Library g) args s e = had_room (nat_lt w.stack (depth w (name ∷ s.active))) _ s e
body_room w zero name shape (Defined home f) args s e = absurd (true≢false (sym e))
body_room w (suc n) name shape (Defined home f) args s e = had_room (nat_lt w.stack (depth w (name ∷ s.active))) _ s e

-- ---- the end of `$start`

no_frame : (frame_of : List ℕ → ℕ) → NoneForLibrary frame_of → frame_of exit_name ≡ 0
no_frame frame_of none = none exit_name (0, omega arith, refl)

-- where the frame of `$start` is within the stack, `exit` is called
exit_fits : (w : World) (main : List ℕ) → NoneForLibrary w.frame_of → nat_lt w.stack (depth w (main ∷ start_name ∷ [])) ≡ false
    → nat_lt w.stack (w.frame_of exit_name + (w.frame_of start_name + 0)) ≡ false
exit_fits w main none fits =
    le-ltb w.stack (w.frame_of exit_name + (w.frame_of start_name + 0))
    (omega (arith, no_frame w.frame_of none, ltb-false w.stack (depth w (main ∷ start_name ∷ [])) fits))

-- the frame of `$start` when `main` has returned
abbrev returned_to : flows.Program → List ℕ → Value → flow.Frame
returned_to p input v = record (start_machine p input).frame { ops = op.Call None exit_name (0 ∷ []) ∷ []; temps = v ∷ [] }

abbrev stopped_at : flows.Program → List ℕ → Value → Machine → Machine
stopped_at p input v m = record m { frame = record (returned_to p input v) { ops = [] }; callers = [] }

chosen : {A : Type 0} (b : Bool) (x y : A) → b ≡ false → (if b then x else y) ≡ y
chosen b x y e = ap (λ (c : Bool). if c then x else y) e

exits : (w : World) (input : List ℕ) (k : ℕ) (m : Machine)
    → nat_lt w.stack (w.frame_of exit_name + (w.frame_of start_name + 0)) ≡ false
    → flow.step (graphs w) (record m { frame = returned_to (graphs w) input (V.Num k); callers = [] })
    ≡ Stopped (run.Ended (k % 256)) (stopped_at (graphs w) input (V.Num k) m)
unfolding flow.step command
exits w input k m fits =
    chosen (nat_lt w.stack (w.frame_of exit_name + (w.frame_of start_name + 0)))
    (Stopped run.StackFull (stopped_at (graphs w) input (V.Num k) m)) (Stopped (run.Ended (k % 256)) (stopped_at (graphs w) input (V.Num k) m)) fits

-- `main` has returned a number: the run ends with it
ends_with : (w : World) (input : List ℕ) (spots : List _) (k : ℕ) (s : State) (m n : Machine)
    → nat_lt w.stack (w.frame_of exit_name + (w.frame_of start_name + 0)) ≡ false
    → (reach : Reaches (graphs w) m (HasReturned w spots (Some 0) (op.Call None exit_name (0 ∷ []) ∷ []) (start_state w.program input) (start_machine (graphs w) input) (Some (V.Num k)) s))
    → Stops w (run.Ended (k % 256)) m s
unfolding steps
ends_with w input spots k s m n fits reach =
    let r = reach.holds in
    let at : Machine = reach.machine in
    let frame : at.frame ≡ returned_to (graphs w) input (V.Num k) = r.frame ∙ ap (λ (v : Value). returned_to (graphs w) input v) r.stands in
    let same : flow.step (graphs w) at ≡ flow.step (graphs w) (record at { frame = returned_to (graphs w) input (V.Num k); callers = [] }) =
    ap (λ (f : flow.Frame). flow.step (graphs w) (record at { frame = f })) frame
    ∙ ap (λ (fs : List flow.Frame). flow.step (graphs w) (record at { frame = returned_to (graphs w) input (V.Num k); callers = fs })) r.callers in
    record {
      count = reach.count + 1;
      machine = stopped_at (graphs w) input (V.Num k) at;
      comes = steps-more (graphs w) reach.count 1 (On m) ∙ ap (λ (a : Step). steps (graphs w) 1 a) reach.comes ∙ same ∙ exits w input k at fits;
      shows = r.matches.shows;
    }

-- ---- the run

abbrev at_start : World → List ℕ → Machine
at_start w input = start_machine (graphs w) input

-- what `main` came to, and what comes behind it
finishes : (w : World) (input : List ℕ) (n : ℕ) (spots : List _) (f : Callable) (result : Option Value) (s : State)
    → start (graphs w) input ≡ On (at_start w input)
    → nat_lt w.stack (w.frame_of exit_name + (w.frame_of start_name + 0)) ≡ false
    → Reaches (graphs w) (at_start w input) (HasReturned w spots (Some 0) (op.Call None exit_name (0 ∷ []) ∷ []) (start_state w.program input) (at_start w input) result s)
    → Met (MomentKept (graphs w)) (noted n (finish f.body result s)) (flow_run (graphs w) input)
unfolding finish stop undefined wrong
finishes w input n spots f (Some (V.Num k)) s starts fits reach =
    stops w input (run.Ended (k % 256)) (at_start w input) s starts (ends_with w input spots k s (at_start w input) (at_start w input) fits reach)
finishes w input n spots f None s starts fits reach = by_body f.body
  where
    by_body : (body : Body) → Met (MomentKept (graphs w)) (noted n (finish body None s)) (flow_run (graphs w) input)
    by_body (Defined home g) =
        reaches w input (at_start w input) s starts (record { count = reach.count; machine = reach.machine; comes = reach.comes; holds = reach.holds.matches.shows })
    by_body (Library g) = tt
finishes w input n spots f (Some V.Undefined) s starts fits reach = tt
finishes w input n spots f (Some V.Null) s starts fits reach = tt
finishes w input n spots f (Some (V.At q)) s starts fits reach = tt
finishes w input n spots f (Some (V.Piece q i)) s starts fits reach = tt

goes : (w : World) (input : List ℕ) (n : ℕ) (spots : List _) (f : Callable) (o : Outcome (Option Value))
    → NoneForLibrary w.frame_of → start (graphs w) input ≡ On (at_start w input)
    → call w (calls w n) f [] (start_state w.program input) ≡ o
    → Meets w n (at_start w input) o (HasReturned w spots (Some 0) (op.Call None exit_name (0 ∷ []) ∷ []) (start_state w.program input) (at_start w input))
    → Met (MomentKept (graphs w)) (noted n (go_on o (λ result. finish f.body result))) (flow_run (graphs w) input)
unfolding go_on
goes w input n spots f (Gives result s) none starts is meets =
    finishes w input n spots f result s starts
    (exit_fits w f.name none (body_room w n f.name f.shape f.body [] (start_state w.program input) (gave _ result s is))) meets
goes w input n spots f (Ends source.Bound s) none starts is meets = counts w input n (at_start w input) s starts refl meets
goes w input n spots f (Ends source.StackFull s) none starts is meets = stops w input run.StackFull (at_start w input) s starts meets
goes w input n spots f (Ends (source.Exit status) s) none starts is meets = stops w input (run.Ended status) (at_start w input) s starts meets
goes w input n spots f (Ends (source.Undefined o h t) s) none starts is meets = reaches w input (at_start w input) s starts meets
goes w input n spots f (Ends source.Wrong s) none starts is meets = tt

-- the first step of `$start`
calls_main : (w : World) (input : List ℕ) → flow.step (graphs w) (at_start w input)
    ≡ flow.calls (graphs w) (Some 0) main_name [] (record (at_start w input) { frame = record (at_start w input).frame { ops = op.Call None exit_name (0 ∷ []) ∷ [] } })
unfolding flow.step command
calls_main w input = refl

runs_main : (w : World) (input : List ℕ) (n : ℕ) (o : Option Callable)
    → ((n : ℕ) → CallsKeep n) → IsLowerableWorld w → StartMatches w input → function_named w.program main_name ≡ o
    → Met (MomentKept (graphs w)) (noted n ((need o >>= λ main. (call w (calls w n) main [] >>= λ result. finish main.body result)) (start_state w.program input))) (flow_run (graphs w) input)
unfolding need give stop wrong ◌>>=◌ go_on
runs_main w input n None keep lowerable st is = tt
runs_main w input n (Some f) keep lowerable st is =
    goes w input n st.spots f (call w (calls w n) f [] (start_state w.program input)) lowerable.library st.starts refl
    (keep n w st.spots main_name f [] [] (Some 0) (op.Call None exit_name (0 ∷ []) ∷ []) (start_state w.program input) (at_start w input) lowerable is (st.main f is) tt st.matches (calls_main w input))

pub programs_keep : ((n : ℕ) → CallsKeep n) → StartsMatch → ProgramsKeepRuns
unfolding source_progress source_run run_main
programs_keep keep starts p frame_of stack input lowerable none bytes never = λ n.
    let w : World = record { program = p; frame_of = frame_of; stack = stack } in
    let l : IsLowerableWorld w = record { program = lowerable; library = none } in
    never_so w input n (run_main w n (start_state p input)) (never n) (runs_main w input n (function_named p main_name) keep l (starts w input l bytes) refl)
