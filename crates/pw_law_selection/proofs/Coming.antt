-- Ways of the lines from one state to another, with return addresses in each state on the way.
use Rattle.std.proofs.Common.{◌≡◌, ◌⊎◌, ℕ, zero, suc, ◌+◌, ◌-◌, ◌≤◌, ◌<◌, List, [], ◌∷◌, ◌++◌, length, refl, sym, ap, subst, ◌∙◌, arith, inl, inr}
use Rattle.std.proofs.lemmas.Bool.{cases_lt}
use Rattle.std.proofs.lemmas.List.{length-append}
use Rattle.pw_alloc.specs.declared.located.Located.{Located}
use Rattle.pw_delay.specs.declared.items.Item.{Item}
use Rattle.pw_run_languages.specs.Traces.{Event}
use Rattle.pw_run_languages.specs.Programs.{Program}
use Rattle.pw_run_languages.specs.Addresses.{Addresses}
use Rattle.pw_run_languages.specs.Acts.{Core}
use Rattle.pw_run_languages.specs.LineRun as run
use Rattle.pw_run_languages.specs.LineRun.{LineProgram}
use Rattle.pw_run_languages.specs.Links.{LinksStand, GoesOn, HasLinks}
use Rattle.pw_run_languages.specs.SelectionLaws.{line_program}
use Rattle.pw_law_select_states.specs.Passes.{IsAmid, Passes, further}
use Rattle.pw_law_select_frames.specs.Stepping.{ReturnAddressesStand}
use Rattle.pw_law_selection.specs.Following.{Comes}
use Rattle.pw_law_selection.specs.Linking.{PassagesCome}
use Rattle.pw_law_selection.proofs.Linking.{amid_links, same_machine, states_have_links}

-- a function at its first item has not gone on behind a call
begins_not_behind : (f : run.Frame) → f.left ≡ f.function.items → GoesOn f → ⊥
begins_not_behind f begins goes =
    let long = length-append goes.before (goes.item ∷ f.left) in
    let whole : length f.function.items ≡ length (goes.before ++ goes.item ∷ f.left) = ap length goes.items in
    let same : length f.left ≡ length f.function.items = ap length begins in
    omega (arith, long, whole, same)

-- links of a function that begins are those of its callers
pub begins_links : (w : Addresses) (m : run.Machine) → m.frame.left ≡ m.frame.function.items → LinksStand w m.core m.callers → HasLinks w m
begins_links w m begins stand = record { at_call = λ b. stand; at_return = λ g. absurd (begins_not_behind m.frame begins g) }

-- those of one that goes on behind a call are those of all
pub behind_links : (w : Addresses) (m : run.Machine) → LinksStand w m.core (m.frame ∷ m.callers) → HasLinks w m
behind_links w m stand = record { at_call = λ b. below m.callers stand; at_return = λ g. stand }
  where
    below : (fs : List run.Frame) → LinksStand w m.core (m.frame ∷ fs) → LinksStand w m.core fs
    below [] h = tt
    below (caller ∷ callers) h = h.1

module _ (p : Program) (functions : List Located) (w : Addresses) (scratch : ℕ → (ℕ → ℕ) → ℕ → ℕ) where
  abbrev lines : LineProgram
  lines = line_program p functions

  no_steps : (s : run.Step) → run.steps lines w scratch 0 s ≡ s
  unfolding run.steps
  no_steps s = refl

  one_step : (m : run.Machine) → run.steps lines w scratch 1 (run.On m) ≡ run.step lines w scratch m
  unfolding run.steps
  one_step m = refl

  pub steps_add : (a b : ℕ) (s : run.Step) → run.steps lines w scratch (a + b) s ≡ run.steps lines w scratch b (run.steps lines w scratch a s)
  unfolding run.steps
  steps_add zero b s = let e : zero + b ≡ b = omega arith in ap (λ n. run.steps lines w scratch n s) e
  steps_add (suc a) b s =
      let e : suc a + b ≡ suc (a + b) = omega arith in
      ap (λ n. run.steps lines w scratch n s) e ∙ steps_add a b (run.and_then s (run.step lines w scratch))

  -- one way behind another
  module _ (s t u : run.Step) (one : Comes p functions w scratch s t) (two : Comes p functions w scratch t u) where
    behind : (k : ℕ) → one.count ≤ k → run.steps lines w scratch k s ≡ run.steps lines w scratch (k - one.count) t
    behind k le =
        let sum : k ≡ one.count + (k - one.count) = omega (arith, le) in
        ap (λ n. run.steps lines w scratch n s) sum ∙ steps_add one.count (k - one.count) s ∙ ap (run.steps lines w scratch (k - one.count)) one.steps

    linked : (k : ℕ) (o : run.Machine) → k ≤ one.count + two.count → run.steps lines w scratch k s ≡ run.On o → HasLinks w o
    linked k o le e = elim (cases_lt k one.count) [
      | inl less ↦ one.links k o (omega (arith, less)) e
      | inr more ↦ two.links (k - one.count) o (omega (arith, le, more)) (sym (behind k more) ∙ e)
    ]

    pub joined : Comes p functions w scratch s u
    joined = record {
      count = one.count + two.count;
      steps = steps_add one.count two.count s ∙ ap (run.steps lines w scratch two.count) one.steps ∙ two.steps;
      links = linked;
    }

  -- where a way ends, return addresses stand
  pub end_links : (s : run.Step) (l : run.Machine) → Comes p functions w scratch s (run.On l) → HasLinks w l
  end_links s l one = one.links one.count l (omega arith) one.steps

  -- by steps that are amid a function until the last
  pub comes_by : (l : run.Machine) (t : run.Step) (count : ℕ) → HasLinks w l → run.steps lines w scratch count (run.On l) ≡ t
      → ((k : ℕ) (n : run.Machine) → 0 < k → k < count → run.steps lines w scratch k (run.On l) ≡ run.On n → IsAmid n.frame)
      → ((o : run.Machine) → t ≡ run.On o → HasLinks w o) → Comes p functions w scratch (run.On l) t
  comes_by l t count here steps amid last = record { count = count; steps = steps; links = by_count }
    where
      by_last : (k : ℕ) (o : run.Machine) → 0 < k → k ≤ count → run.steps lines w scratch k (run.On l) ≡ run.On o → (k < count) ⊎ (count ≤ k) → HasLinks w o
      by_last k o some le e (inl less) = amid_links w o (amid k o some less e)
      by_last k o some le e (inr more) =
          let whole : k ≡ count = omega (arith, le, more) in
          last o (sym steps ∙ (ap (λ n. run.steps lines w scratch n (run.On l)) (sym whole) ∙ e))

      by_count : (k : ℕ) (o : run.Machine) → k ≤ count → run.steps lines w scratch k (run.On l) ≡ run.On o → HasLinks w o
      by_count zero o le e = subst (HasLinks w) (same_machine l o (sym (no_steps (run.On l)) ∙ e)) here
      by_count (suc k) o le e = by_last (suc k) o (omega arith) le e (cases_lt (suc k) count)

  -- through lines that call nothing
  pub comes_through : (l : run.Machine) (rest : List Item) (core : Core) (log : List (Event ℕ ℕ)) → HasLinks w l → (passes : Passes lines w scratch l rest core log)
      → Comes p functions w scratch (run.On l) (run.On (further rest core passes.more log l))
  comes_through l rest core log here passes =
      let end = further rest core passes.more log l in
      record { count = passes.count; steps = passes.steps; links = by_count }
    where
      by_count : (k : ℕ) (o : run.Machine) → k ≤ passes.count → run.steps lines w scratch k (run.On l) ≡ run.On o → HasLinks w o
      by_count zero o le e = subst (HasLinks w) (same_machine l o (sym (no_steps (run.On l)) ∙ e)) here
      by_count (suc k) o le e = amid_links w o (passes.amid (suc k) o (omega arith) le e)

  -- by one step
  pub comes_one : (l : run.Machine) (t : run.Step) → HasLinks w l → run.step lines w scratch l ≡ t → ((o : run.Machine) → t ≡ run.On o → HasLinks w o) → Comes p functions w scratch (run.On l) t
  comes_one l t here is last = comes_by l t 1 here (one_step l ∙ is) (λ k n some less e. absurd (omega (arith, some, less))) last

pub passages_come : ReturnAddressesStand → PassagesCome
passages_come stand p functions w scratch site m l rest core log both passes = comes_through p functions w scratch l rest core log (states_have_links stand p w site m l both) passes
