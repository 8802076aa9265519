-- A run of the machine, a step at a time over a sink that keeps nothing.
use Rattle.std.proofs.Common.{◌≡◌, ◌≢◌, ℕ, zero, suc, ◌+◌, ◌-◌, ◌<◌, ◌≤◌, Bool, true, false, List, [], ◌∷◌, Option, Some, None, refl, sym, ap, subst, ◌∙◌, arith, add-one}
use Rattle.std.proofs.Math.Nat.{add-zero, add-suc}
use Rattle.std.specs.Prelude.{IfSome}
use Rattle.pw_where.proofs.Lists.{some_map}
use Rattle.pw_machine.specs.declared.ends.End.{End}
use Rattle.pw_machine.specs.declared.ends.End.TheVariants as end
use Rattle.pw_machine.specs.declared.ends.Stop.{Stop}
use Rattle.pw_machine.specs.declared.ends.Stop.TheVariants as how
use Rattle.pw_machine.specs.Core.{Core}
use Rattle.pw_machine.specs.Effect.{Effect, Goes, Reads, Writes, Stops, effect_of}
use Rattle.pw_machine.specs.Run.{State, Progress, Running, Stopped, reads, taken, step, goes_on, began, run_of, start_state}
use Rattle.pw_machine.specs.Stops.{RunsOver, IsRunFrom, WriteCount}
use Rattle.pw_where.specs.Calls.{is_at, one_if, call_at, calls_in, Passes, PassesTo, Stands, Follows, ReachesCall, EndsShort}

-- ---- runs that differ in their output alone

abbrev pub Alike : Progress → Progress → Type 0
Alike (Running s) (Running t) = (s.core ≡ t.core) × (s.rest ≡ t.rest)
Alike (Stopped e s) (Stopped f t) = (e ≡ f) × (s.core ≡ t.core) × (s.rest ≡ t.rest)
Alike (Running s) (Stopped f t) = ⊥
Alike (Stopped e s) (Running t) = ⊥

abbrev pub state_of : Core → List ℕ → List ℕ → State
state_of core rest output = record { core = core; rest = rest; output = output }

reads_alike : (core : Core) (rest o p : List ℕ) → Alike (reads core rest o) (reads core rest p)
reads_alike core [] o p = (refl, refl)
reads_alike core (byte ∷ rest) o p = (refl, refl)

taken_alike : (e : Effect) (core : Core) (rest o p : List ℕ) → Alike (taken e (state_of core rest o)) (taken e (state_of core rest p))
taken_alike (Goes new) core rest o p = (refl, refl)
taken_alike Reads core rest o p = reads_alike core rest o p
taken_alike (Writes byte) core rest o p = (refl, refl)
taken_alike (Stops end) core rest o p = (refl, refl, refl)

step_alike : (s : State) (core : Core) (rest : List ℕ) → core ≡ s.core → rest ≡ s.rest → Alike (step s) (step (state_of core rest []))
step_alike s core rest same_core same_rest =
    let whole : Alike (step s) (step (state_of s.core s.rest [])) = taken_alike (effect_of s.core) s.core s.rest s.output [] in
    let two : Alike (step s) (step (state_of s.core rest [])) = subst (λ (r : List ℕ). Alike (step s) (step (state_of s.core r []))) (sym same_rest) whole in
    subst (λ (k : Core). Alike (step s) (step (state_of k rest []))) (sym same_core) two

next_step : (m : ℕ) (start s : State) → run_of m start ≡ Running s → run_of (m + 1) start ≡ step s
unfolding run_of
next_step m start s e = rw add-one (ap goes_on e)

first_step : (s : State) → s.core.stopped ≡ None → run_of 1 s ≡ step s
unfolding run_of
first_step s going = ap (λ (o : Option End). goes_on (began o s)) going

-- one step more of a run is the first of one that begins there
one_more : (m : ℕ) (start s : State) (core : Core) (rest : List ℕ) → run_of m start ≡ Running s → core ≡ s.core → rest ≡ s.rest → core.stopped ≡ None → Alike (run_of (m + 1) start) (run_of 1 (state_of core rest []))
one_more m start s core rest e same_core same_rest going =
    subst (λ (p : Progress). Alike p (run_of 1 (state_of core rest []))) (sym (next_step m start s e))
    (subst (λ (p : Progress). Alike (step s) p) (sym (first_step (state_of core rest []) going)) (step_alike s core rest same_core same_rest))

like_running : (p : Progress) (last : State) → Alike p (Running last) → (t : State) × ((p ≡ Running t) × (t.core ≡ last.core) × (t.rest ≡ last.rest))
like_running (Running t) last h = (t, (refl, h.0, h.1))
like_running (Stopped e t) last h = absurd h

like_stopped : (p : Progress) (e : End) (last : State) → Alike p (Stopped e last) → (t : State) × ((p ≡ Stopped e t) × (t.core ≡ last.core) × (t.rest ≡ last.rest))
like_stopped (Running t) e last h = absurd h
like_stopped (Stopped f t) e last h = (t, (ap (λ (x : End). Stopped x t) h.0, h.1, h.2))

none_taken : (s last : State) → s.core.stopped ≡ None → run_of 0 s ≡ Running last → s ≡ last
unfolding run_of
none_taken s last going e =
    let begun : Running s ≡ Running last = sym (ap (λ (o : Option End). began o s) going) ∙ e in
    cc

-- ---- calls

one_if_small : (b : Bool) → one_if b ≤ 1
one_if_small true = omega arith
one_if_small false = omega arith

pub calls_next : (entries : List ℕ) (start : State) (m : ℕ) (s : State) → run_of m start ≡ Running s → calls_in entries start (m + 1) ≡ calls_in entries start m + one_if (is_at entries s.core)
calls_next entries start m s e = rw add-one (ap (λ (p : Progress). calls_in entries start m + one_if (call_at entries p)) e)

-- a run that has stopped stays, and calls nothing
stays : (d m : ℕ) (start last : State) (e : End) → run_of m start ≡ Stopped e last → run_of (m + d) start ≡ Stopped e last
unfolding run_of
stays zero m start last e h = rw add-zero h
stays (suc d) m start last e h = rw add-suc (ap goes_on (stays d m start last e h))

calls_stay : (entries : List ℕ) (d m : ℕ) (start last : State) (e : End) → run_of m start ≡ Stopped e last → calls_in entries start (m + d) ≡ calls_in entries start m
calls_stay entries zero m start last e h = rw add-zero refl
calls_stay entries (suc d) m start last e h =
    let none : one_if (call_at entries (run_of (m + d) start)) ≡ 0 = ap (λ (p : Progress). one_if (call_at entries p)) (stays d m start last e h) in
    let front : calls_in entries start (m + d) ≡ calls_in entries start m = calls_stay entries d m start last e h in
    rw add-suc (omega (arith, none, front))

-- ---- a turn

pub begins : (entries : List ℕ) (k : ℕ) (core : Core) (rest : List ℕ) → core.stopped ≡ None → Follows entries (start_state core rest) k k 0 core (Some rest)
unfolding run_of
begins entries k core rest going = record {
  state = start_state core rest;
  goes = ap (λ (o : Option End). began o (start_state core rest)) going;
  stands = record { is = refl; left = refl };
  count = omega arith;
}

-- the call is the next step
one_left : (b : Bool) (left behind : ℕ) → 0 < left → behind ≡ left - one_if b → behind ≡ 0 → (b ≡ true) × (left ≡ 1)
one_left true left behind some e none = (refl, omega (arith, some, e, none))
one_left false left behind some e none = absurd (omega (arith, some, e, none))

module _ (entries : List ℕ) (start : State) (k left behind m budget : ℕ) (old new : Core) (rest rest' got got' : Option (List ℕ)) (n : ℕ) where
  pub reached : Follows entries start k left m old rest → 0 < left → behind ≡ left - one_if (is_at entries old) → behind ≡ 0 → m < budget
      → ReachesCall entries start k budget old rest
  reached f some e none lt =
      let one = one_left (is_at entries old) left behind some e none in
      record {
        step = m;
        state = f.state;
        within = lt;
        call = record {
          goes = f.goes;
          at = sym (ap (is_at entries) f.stands.is) ∙ one.0;
          before = ap (λ (i : ℕ). calls_in entries start m + i) (sym one.1) ∙ f.count;
        };
        stands = f.stands;
      }

  run_from : (s : State) → Stands s old rest → (stop : Stop) → RunsOver old rest got 1 stop n new rest' got' → IsRunFrom old s.rest got 1 stop n new rest' got'
  run_from s stands stop over = subst (λ (o : Option (List ℕ)). RunsOver old o got 1 stop n new rest' got') stands.left over

  -- how many calls are left behind the step
  counted : (f : Follows entries start k left m old rest) → 0 < left → behind ≡ left - one_if (is_at entries old) → calls_in entries start (m + 1) + behind ≡ k
  counted f some e =
      let next = calls_next entries start m f.state f.goes in
      let same : one_if (is_at entries f.state.core) ≡ one_if (is_at entries old) = ap (λ (c : Core). one_if (is_at entries c)) (sym f.stands.is) in
      let small = one_if_small (is_at entries old) in
      omega (arith, next, same, small, f.count, some, e)

  -- the run goes on
  pub goes_further : Follows entries start k left m old rest → old.stopped ≡ None → 0 < left → behind ≡ left - one_if (is_at entries old) → RunsOver old rest got 1 how.Spent n new rest' got'
      → Follows entries start k behind (m + 1) new rest'
  goes_further f going some e over =
      let run = run_from f.state f.stands how.Spent over in
      let alike : Alike (run_of (m + 1) start) (Running (state_of new run.left run.output)) =
      subst (λ (p : Progress). Alike (run_of (m + 1) start) p) run.comes.1 (one_more m start f.state old f.state.rest f.goes f.stands.is refl going) in
      let next = like_running (run_of (m + 1) start) (state_of new run.left run.output) alike in
      record {
        state = next.0;
        goes = next.1.0;
        stands = record { is = sym next.1.1; left = run.rest_is ∙ ap Some (sym next.1.2) };
        count = counted f some e;
      }

  -- it stops so, and no call is behind
  passes : (e : End) (t : State) → m < budget → run_of (m + 1) start ≡ Stopped e t → calls_in entries start (m + 1) + behind ≡ k → 0 < behind → Passes entries start k budget (Stopped e t)
  passes e t lt stopped count more =
      let d = budget - (m + 1) in
      let at : (m + 1) + d ≡ budget = omega (arith, lt) in
      let calls : calls_in entries start budget ≡ calls_in entries start (m + 1) = subst (λ (i : ℕ). calls_in entries start i ≡ calls_in entries start (m + 1)) at (calls_stay entries d (m + 1) start t e stopped) in
      record {
        comes = subst (λ (i : ℕ). run_of i start ≡ Stopped e t) at (stays d (m + 1) start t e stopped);
        few = omega (arith, calls, count, more);
      }

  ended : (e : End) (f : Follows entries start k left m old rest) → old.stopped ≡ None → 0 < left → behind ≡ left - one_if (is_at entries old) → 0 < behind → m < budget
      → (left_rest output : List ℕ) → rest' ≡ Some left_rest → run_of 1 (state_of old f.state.rest []) ≡ Stopped e (state_of new left_rest output)
      → (last : State) × (Passes entries start k budget (Stopped e last) × Stands last new rest')
  ended e f going some is more lt left_rest output rest_is comes =
      let alike : Alike (run_of (m + 1) start) (Stopped e (state_of new left_rest output)) =
      subst (λ (p : Progress). Alike (run_of (m + 1) start) p) comes (one_more m start f.state old f.state.rest f.goes f.stands.is refl going) in
      let next = like_stopped (run_of (m + 1) start) e (state_of new left_rest output) alike in
      (next.0, (passes e next.0 lt next.1.0 (counted f some is) more, record { is = sym next.1.1; left = rest_is ∙ ap Some (sym next.1.2) }))

  -- the read that would be next has a fault
  faulted : (f : Follows entries start k left m old rest) → old.stopped ≡ None → 0 < left → behind ≡ left - one_if (is_at entries old) → 0 < behind → m < budget
      → (left_rest output : List ℕ) → rest' ≡ Some left_rest → n < 1 → run_of n (state_of old f.state.rest []) ≡ Running (state_of new left_rest output)
      → (last : State) × (((i : ℕ) × PassesTo entries start k budget i last) × Stands last new rest')
  faulted f going some is more lt left_rest output rest_is first comes =
      let none : n ≡ 0 = omega (arith, first) in
      let same : state_of old f.state.rest [] ≡ state_of new left_rest output = none_taken (state_of old f.state.rest []) (state_of new left_rest output) going (subst (λ (i : ℕ). run_of i (state_of old f.state.rest []) ≡ Running (state_of new left_rest output)) none comes) in
      let few : calls_in entries start (m + 1) < k = let count = counted f some is in omega (arith, count, more) in (
        f.state,
        (
          (
            m,
            record {
              within = lt;
              goes = f.goes;
              few = subst (λ (i : ℕ). calls_in entries start i < k) (add-one m) few;
            },
          ),
          record {
            is = sym (ap (λ (s : State). s.core) same) ∙ f.stands.is;
            left = rest_is ∙ ap Some (sym (ap (λ (s : State). s.rest) same));
          },
        ),
      )

  -- it stops
  pub stops_there : (h : Stop) → h ≢ how.Spent → h ≢ how.WriteFault → Follows entries start k left m old rest → old.stopped ≡ None → 0 < left → behind ≡ left - one_if (is_at entries old) → behind ≢ 0 → m < budget
      → RunsOver old rest got 1 h n new rest' got' → EndsShort entries start k budget h new rest'
  stops_there (how.Ended status) unspent unwritten f going some is none lt over =
      let run = run_from f.state f.stands (how.Ended status) over in
      let all = ended (end.Ended status) f going some is (omega (arith, none)) lt run.left run.output run.rest_is run.comes.1 in
      record { last = all.0; stops = all.1.0; stands = all.1.1 }
  stops_there how.StackStop unspent unwritten f going some is none lt over =
      let run = run_from f.state f.stands how.StackStop over in
      let all = ended end.StackStop f going some is (omega (arith, none)) lt run.left run.output run.rest_is run.comes.1 in
      record { last = all.0; stops = all.1.0; stands = all.1.1 }
  stops_there how.Spent unspent unwritten f going some is none lt over = absurd (unspent refl)
  stops_there (how.Halted halt at) unspent unwritten f going some is none lt over =
      let run = run_from f.state f.stands (how.Halted halt at) over in
      let all = ended (end.Halted halt at) f going some is (omega (arith, none)) lt run.left run.output run.rest_is run.comes.1 in
      record { last = all.0; stops = all.1.0; stands = all.1.1 }
  stops_there how.ReadFault unspent unwritten f going some is none lt over =
      let run = run_from f.state f.stands how.ReadFault over in
      let all = faulted f going some is (omega (arith, none)) lt run.left run.output run.rest_is run.comes.0 run.comes.1 in
      record { last = all.0; stops = all.1.0; stands = all.1.1 }
  stops_there how.WriteFault unspent unwritten f going some is none lt over = absurd (unwritten refl)

-- all steps are done
pub spent : (entries : List ℕ) (start : State) (k left m budget : ℕ) (core : Core) (rest : Option (List ℕ)) → Follows entries start k left m core rest → 0 < left → m ≡ budget
    → EndsShort entries start k budget how.Spent core rest
spent entries start k left m budget core rest f some at = record {
  last = f.state;
  stops = record {
    comes = subst (λ (i : ℕ). run_of i start ≡ Running f.state) at f.goes;
    few = subst (λ (i : ℕ). calls_in entries start i < k) at (let count = f.count in omega (arith, count, some));
  };
  stands = f.stands;
}

-- ---- the same of an input that may tell nothing

pub begins_over : (entries : List ℕ) (k : ℕ) (core : Core) (o : Option (List ℕ)) → core.stopped ≡ None → IfSome o (λ r. Follows entries (start_state core r) k k 0 core o)
begins_over entries k core None going = tt
begins_over entries k core (Some rest) going = begins entries k core rest going

module _ (entries : List ℕ) (o : Option (List ℕ)) (first : Core) (k left behind m budget : ℕ) (old new : Core) (rest rest' got got' : Option (List ℕ)) (n : ℕ) where
  pub further_over : IfSome o (λ r. Follows entries (start_state first r) k left m old rest) → old.stopped ≡ None → 0 < left → behind ≡ left - one_if (is_at entries old) → RunsOver old rest got 1 how.Spent n new rest' got'
      → IfSome o (λ r. Follows entries (start_state first r) k behind (m + 1) new rest')
  further_over f going some e over = some_map (λ r. Follows entries (start_state first r) k left m old rest) (λ r. Follows entries (start_state first r) k behind (m + 1) new rest') o
      (λ r h. goes_further entries (start_state first r) k left behind m budget old new rest rest' got got' n h going some e over) f

  pub reached_over : IfSome o (λ r. Follows entries (start_state first r) k left m old rest) → 0 < left → behind ≡ left - one_if (is_at entries old) → behind ≡ 0 → m < budget
      → IfSome o (λ r. ReachesCall entries (start_state first r) k budget old rest)
  reached_over f some e none lt = some_map (λ r. Follows entries (start_state first r) k left m old rest) (λ r. ReachesCall entries (start_state first r) k budget old rest) o
      (λ r h. reached entries (start_state first r) k left behind m budget old new rest rest' got got' n h some e none lt) f

  pub stops_over : (h : Stop) → h ≢ how.Spent → h ≢ how.WriteFault → IfSome o (λ r. Follows entries (start_state first r) k left m old rest) → old.stopped ≡ None → 0 < left → behind ≡ left - one_if (is_at entries old) → behind ≢ 0 → m < budget
      → RunsOver old rest got 1 h n new rest' got' → IfSome o (λ r. EndsShort entries (start_state first r) k budget h new rest')
  stops_over h unspent unwritten f going some e none lt over = some_map (λ r. Follows entries (start_state first r) k left m old rest) (λ r. EndsShort entries (start_state first r) k budget h new rest') o
      (λ r follows. stops_there entries (start_state first r) k left behind m budget old new rest rest' got got' n h unspent unwritten follows going some e none lt over) f

pub spent_over : (entries : List ℕ) (o : Option (List ℕ)) (first : Core) (k left m budget : ℕ) (core : Core) (rest : Option (List ℕ)) → IfSome o (λ r. Follows entries (start_state first r) k left m core rest) → 0 < left → m ≡ budget
    → IfSome o (λ r. EndsShort entries (start_state first r) k budget how.Spent core rest)
spent_over entries o first k left m budget core rest f some at = some_map (λ r. Follows entries (start_state first r) k left m core rest) (λ r. EndsShort entries (start_state first r) k budget how.Spent core rest) o
    (λ r h. spent entries (start_state first r) k left m budget core rest h some at) f

-- a sink that has no fault is never told to have one
pub unwritten : (h : Stop) → WriteCount 0 0 h → h ≢ how.WriteFault
unwritten h count is =
    let rose : WriteCount 0 0 how.WriteFault = subst (λ (x : Stop). WriteCount 0 0 x) is count in
    absurd (omega (arith, rose))

pub spent_unwritten : how.Spent ≢ how.WriteFault
spent_unwritten e = cc
