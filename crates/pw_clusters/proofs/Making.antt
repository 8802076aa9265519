-- An assignment of roots, where one can tell of each function whether it is inner: each function takes the one root of its
-- callers, again and again, until nothing changes.
use Rattle.std.proofs.Common.{◌≡◌, ◌⊎◌, ℕ, zero, suc, ◌+◌, ◌<◌, ◌≤◌, List, [], ◌∷◌, length, map, refl, sym, ◌∙◌, arith, inl, inr}
use Rattle.std.specs.Prelude.{slice_index}
use Rattle.std.specs.List.{range_with_len}
use Rattle.std.proofs.lemmas.Bool.{cases_eq, cases_lt}
use Rattle.std.proofs.lemmas.Option.{slice_get_within}
use Rattle.std.proofs.lemmas.List.{length-map}
use Rattle.std.proofs.lemmas.List.FromFn.{length-range_with_len, get_or-map-range_with_len}
use Rattle.pw_summary.specs.declared.summary.Summary.{Summary}
use Rattle.pw_graph.specs.declared.graph.CallGraph.{CallGraph}
use Rattle.pw_graph.specs.CallGraph.{Calls}
use Rattle.pw_graph.specs.Program.{IsGraphOf}
use Rattle.pw_clusters.specs.Clusters.{IsInner, AreRoots}
use Rattle.pw_clusters.proofs.Callers.{search}
use Rattle.pw_clusters.proofs.Climbing.{Trail, nothing, full, longer, caller_within}
use Rattle.pw_clusters.proofs.Telling.{AreTold}

module _ (ss : List Summary) (g : CallGraph) (told : AreTold ss g) (of : IsGraphOf ss g) where
  -- what a function takes, once its callers have numbers
  record Takes (number : ℕ → ℕ) (f r : ℕ) : Type 0 where
    of_callers : (q : ℕ) → IsInner ss g f → ((c : ℕ) → Calls g c f → number c ≡ q) → r ≡ q
    itself : ((q : ℕ) → IsInner ss g f → ((c : ℕ) → Calls g c f → number c ≡ q) → ⊥) → r ≡ f

  taken : (number : ℕ → ℕ) (f : ℕ) → f < length g.functions → (r : ℕ) × Takes number f r
  taken number f lt = elim (told f lt) [
    | inr out ↦ (f, record { of_callers = λ q inner have. absurd (out inner); itself = λ none. refl })
    | inl inner ↦ elim (search g number f (number inner.caller) (length g.functions)) [
      | inl each ↦
          let have : (c : ℕ) → Calls g c f → number c ≡ number inner.caller = λ c calls. each c (caller_within g of.call_rows c f calls) calls in
          (number inner.caller, record { of_callers = λ q i others. others inner.caller inner.called; itself = λ none. absurd (none (number inner.caller) inner have) })
      | inr o ↦ (f, record { of_callers = λ q i others. absurd (o.differs (others o.caller o.calls ∙ sym (others inner.caller inner.called))); itself = λ none. refl })
    ]
  ]

  step_of : (number : ℕ → ℕ) (f : ℕ) → (f < length g.functions) ⊎ (length g.functions ≤ f) → ℕ
  step_of number f (inl lt) = (taken number f lt).0
  step_of number f (inr past) = f

  step : (ℕ → ℕ) → ℕ → ℕ
  step number f = step_of number f (cases_lt f (length g.functions))

  takes_of : (number : ℕ → ℕ) (f : ℕ) (d : (f < length g.functions) ⊎ (length g.functions ≤ f)) → f < length g.functions → Takes number f (step_of number f d)
  unfolding step_of
  takes_of number f (inl there) lt = (taken number f there).1
  takes_of number f (inr past) lt = absurd (omega (arith, lt, past))

  step_takes : (number : ℕ → ℕ) (f : ℕ) → f < length g.functions → Takes number f (step number f)
  unfolding step
  step_takes number f lt = takes_of number f (cases_lt f (length g.functions)) lt

  same_taken : (one two : ℕ → ℕ) (f r q : ℕ) → Takes one f r → Takes two f q → ((c : ℕ) → Calls g c f → one c ≡ two c) → r ≡ q
  same_taken one two f r q a b same = elim (cases_eq r q) [
    | inl e ↦ e
    | inr differ ↦
        let none : (v : ℕ) → IsInner ss g f → ((c : ℕ) → Calls g c f → one c ≡ v) → ⊥ =
        λ v inner have. differ (a.of_callers v inner have ∙ sym (b.of_callers v inner (λ c calls. sym (same c calls) ∙ have c calls))) in
        a.itself none ∙ sym (b.itself (λ v inner have. none v inner (λ c calls. same c calls ∙ have c calls)))
  ]

  -- the numbers after so many steps
  after : ℕ → ℕ → ℕ
  after zero f = f
  after (suc k) f = step (after k) f

  settle : (more f : ℕ) (trail : List ℕ) → Trail g f trail → f < length g.functions → length g.functions ≤ more + length trail → after more f ≡ after (suc more) f
  unfolding after
  settle zero f trail t lt long = elim (told f lt) [
    | inl inner ↦ absurd (full g of.call_rows f trail t inner.no_cycle lt (omega (arith, long)))
    | inr out ↦ sym ((step_takes (after zero) f lt).itself (λ v inner have. out inner))
  ]
  settle (suc more) f trail t lt long = elim (told f lt) [
    | inl inner ↦
        same_taken (after more) (after (suc more)) f (after (suc more) f) (after (suc (suc more)) f) (step_takes (after more) f lt) (step_takes (after (suc more)) f lt)
        (λ c calls. settle more c (f ∷ trail) (longer g of.call_rows c f trail t inner.no_cycle lt calls) (caller_within g of.call_rows c f calls) (omega (arith, long)))
    | inr out ↦ (step_takes (after more) f lt).itself (λ v inner have. out inner) ∙ sym ((step_takes (after (suc more)) f lt).itself (λ v inner have. out inner))
  ]

  settled : (f : ℕ) → f < length g.functions → after (length g.functions) f ≡ step (after (length g.functions)) f
  unfolding after
  settled f lt = settle (length g.functions) f [] (nothing g of.call_rows f) lt (omega arith)

  made : List ℕ
  made = map (after (length g.functions)) (range_with_len 0 (length g.functions))

  made_at : (f : ℕ) → f < length g.functions → slice_index made f ≡ after (length g.functions) f
  unfolding made
  made_at f lt = get_or-map-range_with_len (after (length g.functions)) 0 (length g.functions) f f 0 lt (omega arith)

  are_made : AreRoots ss g made
  unfolding made
  are_made = record {
    each = length-map (range_with_len 0 (length g.functions)) (after (length g.functions)) ∙ length-range_with_len 0 (length g.functions);
    of_callers = λ f r inner have.
        let lt = slice_get_within g.functions f inner.name inner.at in
        made_at f lt ∙ settled f lt ∙ (step_takes (after (length g.functions)) f lt).of_callers r inner (λ c calls. sym (made_at c (caller_within g of.call_rows c f calls)) ∙ have c calls);
    itself = λ f lt none.
        made_at f lt ∙ settled f lt ∙ (step_takes (after (length g.functions)) f lt).itself (λ v inner have. none v inner (λ c calls. made_at c (caller_within g of.call_rows c f calls) ∙ have c calls));
  }

  pub there : (roots : List ℕ) × AreRoots ss g roots
  there = (made, are_made)
