-- How what holds of all that a run notes goes from run to run.
use Rattle.std.specs.Prelude.{ℕ, ◌≡◌, List}
use Rattle.std.proofs.Common.{arith, subst, sym, ap, refl}
use Rattle.pw_run.specs.Runs.{End, View, Stage, Going, Over, Wrong, AreAlike, GoesOn, EndsSo, Met, Refines}
use Rattle.pw_run_languages.specs.Traces.{shown_by, Notes}
use Rattle.pw_run_languages.specs.Meeting.{GoesWith, EndsWith, MetWith}

-- ---- from a run of which less is shown

abbrev IsGoing : {N : Type 0} → Stage N → Type 0
IsGoing (Going v) = Unit {0}
IsGoing _ = ⊥

abbrev IsOver : {N : Type 0} → Stage N → Type 0
IsOver (Over end v) = Unit {0}
IsOver _ = ⊥

abbrev events_of : {N : Type 0} → Stage N → ℕ
events_of (Going v) = v.events
events_of _ = 0

abbrev end_of : {N : Type 0} → End → Stage N → End
end_of e (Over end v) = end
end_of e _ = e

record IsGoingWith {N : Type 0} (P : List N → Type 0) (events : ℕ) (s : Stage N) : Type 0 where
  view : View N
  is : s ≡ Going view
  counted : view.events ≡ events
  holds : P view.log

record IsOverWith {N : Type 0} (P : List N → Type 0) (end : End) (s : Stage N) : Type 0 where
  view : View N
  is : s ≡ Over end view
  holds : P view.log

shown_going : {M N : Type 0} (P : List N → Type 0) (f : List N → List M) (s : Stage N) (view : View M)
    → shown_by f s ≡ Going view → Notes P s → IsGoingWith P view.events s
shown_going P f (Going v) view e p = record { view = v; is = refl; counted = ap events_of e; holds = p }
shown_going P f (Over end v) view e p = absurd (subst IsGoing (sym e) tt)
shown_going P f Wrong view e p = absurd (subst IsGoing (sym e) tt)

shown_over : {M N : Type 0} (P : List N → Type 0) (f : List N → List M) (s : Stage N) (end : End) (view : View M)
    → shown_by f s ≡ Over end view → Notes P s → IsOverWith P end s
shown_over P f (Going v) end view e p = absurd (subst IsOver (sym e) tt)
shown_over P f (Over own v) end view e p = record {
  view = v;
  is = ap (λ x. Over x v) (ap (end_of end) e);
  holds = p;
}
shown_over P f Wrong end view e p = absurd (subst IsOver (sym e) tt)

pub met_with : {L M N : Type 0} (F : L → M → Type 0) (P : List N → Type 0) (f : List N → List M) (s : Stage L) (b : ℕ → Stage N)
    → ((n : ℕ) → Notes P (b n)) → Met F s (λ n. shown_by f (b n)) → MetWith P s b
met_with F P f (Going v) b all p =
    let h = shown_going P f (b p.at) p.view p.is (all p.at) in record {
      at = p.at;
      view = h.view;
      is = h.is;
      counted = omega (arith, h.counted, p.counted);
      holds = h.holds;
    }
met_with F P f (Over end v) b all p =
    let h = shown_over P f (b p.at) end p.view p.is (all p.at) in record { at = p.at; view = h.view; is = h.is; holds = h.holds }
met_with F P f Wrong b all p = tt

-- ---- on to a run that refines it

pub carried : {L M N : Type 0} (F : M → N → Type 0) (P : List M → Type 0) (Q : List N → Type 0)
    → ((l : List M) (k : List N) → AreAlike F l k → P l → Q k)
    → (s : Stage L) (b : ℕ → Stage M) (c : ℕ → Stage N) → Refines F b c → MetWith P s b → MetWith Q s c
carried F P Q h (Going v) b c r p =
    let m : GoesOn F p.view c = subst (λ s. Met F s c) p.is (r p.at) in record {
      at = m.at;
      view = m.view;
      is = m.is;
      counted = omega (arith, p.counted, m.counted);
      holds = h p.view.log m.view.log m.same.log p.holds;
    }
carried F P Q h (Over end v) b c r p =
    let m : EndsSo F end p.view c = subst (λ s. Met F s c) p.is (r p.at) in record {
      at = m.at;
      view = m.view;
      is = m.is;
      holds = h p.view.log m.view.log m.same.log p.holds;
    }
carried F P Q h Wrong b c r p = tt

-- ---- on from a stage of whose log something holds

pub met_on : {L M N : Type 0} (P : List M → Type 0) (Q : List N → Type 0) (s : Stage L) (b : ℕ → Stage M) (c : ℕ → Stage N)
    → MetWith P s b → ((n : ℕ) → Notes P (b n) → MetWith Q (b n) c) → MetWith Q s c
met_on P Q (Going v) b c p h =
    let m : GoesWith Q p.view c = subst (λ s. MetWith Q s c) p.is (h p.at (subst (Notes P) (sym p.is) p.holds)) in record {
      at = m.at;
      view = m.view;
      is = m.is;
      counted = omega (arith, p.counted, m.counted);
      holds = m.holds;
    }
met_on P Q (Over end v) b c p h =
    let m : EndsWith Q end c = subst (λ s. MetWith Q s c) p.is (h p.at (subst (Notes P) (sym p.is) p.holds)) in
    record { at = m.at; view = m.view; is = m.is; holds = m.holds }
met_on P Q Wrong b c p h = tt
