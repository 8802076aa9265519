-- From agreement to what the machine's run within a budget tells.
use Rattle.std.proofs.Common.{ℕ, ◌≡◌, ◌+◌, ◌-◌, ◌<◌, ◌≤◌, List, ◌++◌, refl, sym, ap, subst, ◌∙◌, arith}
use Rattle.pw_machine.specs.declared.ends.End.{End}
use Rattle.pw_machine.specs.declared.ends.End.TheVariants as machine
use Rattle.pw_machine.specs.Core.{Core}
use Rattle.pw_machine.specs.Run.{State, Progress, Running, Stopped, run_of, start_state}
use Rattle.pw_run.specs.Runs.{View, Stage, Going, Over, Wrong, GoesOn, EndsSo, Met, Whatever}
use Rattle.pw_run.specs.Runs as run
use Rattle.pw_run_agreement.specs.MachineStages.{Nothing, shown, staged, machine_run}
use Rattle.pw_run_agreement.specs.Agreement.{SourceEnd, SourceRun, Ends, Stack, Bound, Undefined, stage_by, Agree, IsMeaningful}
use Rattle.pw_law_stops.specs.Stops.{Tells}
use Rattle.pw_law_stops.proofs.Growing.{BeginsWith, written, run_writes}

-- ---- a stage of the machine, read back

pub record IsAt (input : List ℕ) (at : ℕ) (p : Progress) (view : View Nothing) (make : State → Progress) : Type 0 where
  last : State
  is : p ≡ make last
  view_is : view ≡ shown input at last

going_is : (input : List ℕ) (at : ℕ) (p : Progress) (view : View Nothing) → staged input at p ≡ Going view → IsAt input at p view Running
going_is input at (Running s) view e = record { last = s; is = refl; view_is = cc }
going_is input at (Stopped (machine.Ended status) s) view e = absurd cc
going_is input at (Stopped machine.StackStop s) view e = absurd cc
going_is input at (Stopped (machine.Halted halt place) s) view e = absurd cc

ended_is : (input : List ℕ) (at : ℕ) (p : Progress) (status : ℕ) (view : View Nothing) → staged input at p ≡ Over (run.Ended status) view →
    IsAt input at p view (Stopped (machine.Ended status))
ended_is input at (Running s) status view e = absurd cc
ended_is input at (Stopped (machine.Ended other) s) status view e = record { last = s; is = cc; view_is = cc }
ended_is input at (Stopped machine.StackStop s) status view e = absurd cc
ended_is input at (Stopped (machine.Halted halt place) s) status view e = absurd cc

stack_is : (input : List ℕ) (at : ℕ) (p : Progress) (view : View Nothing) → staged input at p ≡ Over run.StackFull view →
    IsAt input at p view (Stopped machine.StackStop)
stack_is input at (Running s) view e = absurd cc
stack_is input at (Stopped (machine.Ended other) s) view e = absurd cc
stack_is input at (Stopped machine.StackStop s) view e = record { last = s; is = refl; view_is = cc }
stack_is input at (Stopped (machine.Halted halt place) s) view e = absurd cc

-- ---- within a budget

module _ (stays : (m n : ℕ) (start last : State) (end : End) → run_of m start ≡ Stopped end last → run_of (m + n) start ≡ Stopped end last) where
  -- two runs from a state that stop come to the same
  stops_alike : (s x y : State) (a b : ℕ) (e f : End) → run_of a s ≡ Stopped e x → run_of b s ≡ Stopped f y → Stopped e x ≡ Stopped f y
  stops_alike s x y a b e f p q =
      let one : run_of (a + b) s ≡ Stopped e x = stays a b s x e p in
      let other : run_of (b + a) s ≡ Stopped f y = stays b a s y f q in
      let order : b + a ≡ a + b = omega arith in
      sym one ∙ sym (ap (λ (n : ℕ). run_of n s) order) ∙ other

  -- where the machine goes on beyond the budget, it has not stopped within it, and wrote a prefix
  goes_beyond : (input : List ℕ) (s mid : State) (budget at : ℕ) (p : Progress) (r : SourceRun) → run_of budget s ≡ p → run_of at s ≡ Running mid →
      budget < at → r.output ≡ mid.output → Tells input p r
  goes_beyond input s mid budget at (Running last) r is later lt out =
      let place : budget + (at - budget) ≡ at = omega (arith, lt) in
      let grown : BeginsWith (written (run_of at s)) (written (run_of budget s)) =
      subst (λ (n : ℕ). BeginsWith (written (run_of n s)) (written (run_of budget s))) place (run_writes (at - budget) budget s) in
      record {
        more = grown.more;
        output = out ∙ sym (ap written later) ∙ grown.is ∙ ap (λ (q : Progress). written q ++ grown.more) is;
      }
  goes_beyond input s mid budget at (Stopped end last) r is later lt out =
      let place : budget + (at - budget) ≡ at = omega (arith, lt) in
      let stopped : run_of at s ≡ Stopped end last =
      subst (λ (n : ℕ). run_of n s ≡ Stopped end last) place (stays budget (at - budget) s last end is) in
      absurd (cc)

  -- where it stops, it stopped so within the budget, or wrote a prefix
  stops_so : (input : List ℕ) (s last : State) (budget at : ℕ) (p : Progress) (end : End) (r : SourceRun) → run_of budget s ≡ p → run_of at s ≡ Stopped end last →
      r.output ≡ last.output → Tells input (Stopped end last) r → Tells input p r
  stops_so input s last budget at (Running mid) end r is later out told =
      let place : budget + at ≡ at + budget = omega arith in
      let stopped : run_of (budget + at) s ≡ Stopped end last =
      subst (λ (n : ℕ). run_of n s ≡ Stopped end last) (sym place) (stays at budget s last end later) in
      let grown : BeginsWith (written (run_of (budget + at) s)) (written (run_of budget s)) = run_writes at budget s in
      record {
        more = grown.more;
        output = out ∙ sym (ap written stopped) ∙ grown.is ∙ ap (λ (q : Progress). written q ++ grown.more) is;
      }
  stops_so input s last budget at (Stopped other y) end r is later out told =
      subst (λ (q : Progress). Tells input q r) (stops_alike s last y at budget end other later is) told

  -- ---- by the source's end

  by_end : (core : Core) (input : List ℕ) (budget bound : ℕ) (r : SourceRun) (end : SourceEnd) → r.end ≡ end → budget < bound → IsMeaningful end →
      Met Whatever (stage_by bound r end) (machine_run core input) → Tells input (run_of budget (start_state core input)) r
  unfolding machine_run
  by_end core input budget bound r (Ends status) e lt meaningful met =
      let there = ended_is input met.at (run_of met.at (start_state core input)) status met.view met.is in
      let out : r.output ≡ there.last.output = met.same.output ∙ ap (λ (v : View Nothing). v.output) there.view_is in
      let read : r.read ≡ _ = met.same.read ∙ ap (λ (v : View Nothing). v.read) there.view_is in
      stops_so input (start_state core input) there.last budget met.at (run_of budget (start_state core input)) (machine.Ended status) r refl there.is out
      (record { end = e; output = out; read = read })
  by_end core input budget bound r Stack e lt meaningful met =
      let there = stack_is input met.at (run_of met.at (start_state core input)) met.view met.is in
      let out : r.output ≡ there.last.output = met.same.output ∙ ap (λ (v : View Nothing). v.output) there.view_is in
      let read : r.read ≡ _ = met.same.read ∙ ap (λ (v : View Nothing). v.read) there.view_is in
      stops_so input (start_state core input) there.last budget met.at (run_of budget (start_state core input)) machine.StackStop r refl there.is out
      (record { end = e; output = out; read = read })
  by_end core input budget bound r Bound e lt meaningful met =
      let there = going_is input met.at (run_of met.at (start_state core input)) met.view met.is in
      let out : r.output ≡ there.last.output = met.same.output ∙ ap (λ (v : View Nothing). v.output) there.view_is in
      let counted : bound ≤ met.at = subst (λ (n : ℕ). bound ≤ n) (ap (λ (v : View Nothing). v.events) there.view_is) met.counted in
      goes_beyond input (start_state core input) there.last budget met.at (run_of budget (start_state core input)) r refl there.is (omega (arith, lt, counted)) out
  by_end core input budget bound r Undefined e lt meaningful met = absurd meaningful

  pub stops_told : (run : ℕ → SourceRun) (core : Core) (input : List ℕ) → Agree run core input →
      (budget bound : ℕ) → budget < bound → IsMeaningful (run bound).end → Tells input (run_of budget (start_state core input)) (run bound)
  stops_told run core input agree budget bound lt meaningful =
      by_end core input budget bound (run bound) (run bound).end refl lt meaningful (agree bound)
