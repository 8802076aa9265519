-- Roots: a call graph has one assignment of them, each root is its own root, and who stands below a root on the way to one of
-- its members is a member too.
use Rattle.std.proofs.Common.{◌≡◌, ℕ, ◌<◌, List, length, sym, ap, subst, ◌∙◌, arith, inl, inr}
use Rattle.std.specs.Prelude.{slice_index}
use Rattle.std.proofs.lemmas.Bool.{cases_eq, cases_lt}
use Rattle.std.proofs.lemmas.List.{ext_get_or}
use Rattle.pw_summary.specs.declared.summary.Summary.{Summary}
use Rattle.pw_graph.specs.declared.graph.CallGraph.{CallGraph}
use Rattle.pw_graph.specs.CallGraph.{Calls, Path}
use Rattle.pw_graph.specs.Program.{IsGraphOf}
use Rattle.pw_clusters.specs.Clusters.{IsInner, HaveRoot, AreRoots}
use Rattle.pw_clusters.specs.Sharing.{PathBelow, here, further}
use Rattle.pw_clusters.proofs.Climbing.{where_told, everywhere}

module _ (ss : List Summary) (g : CallGraph) (xs : List ℕ) (x : AreRoots ss g xs) where
  -- who comes to call itself is its own root
  pub cycle_is_own : (f : ℕ) → f < length g.functions → Path g f f → slice_index xs f ≡ f
  cycle_is_own f lt path = x.itself f lt (λ r inner have. inner.no_cycle path)

  -- whose root is another one, all its callers have that root
  pub of_caller : (c f r : ℕ) → f < length g.functions → slice_index xs f ≡ r → (f ≡ r → ⊥) → Calls g c f → slice_index xs c ≡ r
  of_caller c f r lt is other calls = elim (cases_eq (slice_index xs c) r) [
    | inl e ↦ e
    | inr differ ↦ absurd (other (sym (x.itself f lt (λ s inner have. differ (have c calls ∙ sym (x.of_callers f s inner have) ∙ is))) ∙ is))
  ]

  -- whose callers all have roots that are their own, has one
  own : (f : ℕ) → f < length g.functions → ((c : ℕ) → Calls g c f → slice_index xs (slice_index xs c) ≡ slice_index xs c) → slice_index xs (slice_index xs f) ≡ slice_index xs f
  own f lt all = elim (cases_eq (slice_index xs (slice_index xs f)) (slice_index xs f)) [
    | inl e ↦ e
    | inr differ ↦
        let none : (r : ℕ) → IsInner ss g f → HaveRoot g xs f r → ⊥ =
        λ r inner have.
        let same : slice_index xs inner.caller ≡ slice_index xs f = have inner.caller inner.called ∙ sym (x.of_callers f r inner have) in
        differ (subst (λ q. slice_index xs q ≡ q) same (all inner.caller inner.called)) in
        ap (slice_index xs) (x.itself f lt none)
  ]

  pub each_is_its_own : IsGraphOf ss g → (f : ℕ) → f < length g.functions → slice_index xs (slice_index xs f) ≡ slice_index xs f
  each_is_its_own of = everywhere g of.call_rows (λ f. slice_index xs (slice_index xs f) ≡ slice_index xs f) (record {
    once = where_told g (λ f. slice_index xs (slice_index xs f) ≡ slice_index xs f) (λ f. cases_eq (slice_index xs (slice_index xs f)) (slice_index xs f)) (λ f lt path. ap (slice_index xs) (cycle_is_own f lt path));
    from_callers = own;
  })

  -- a root is one of the functions
  near : (f : ℕ) → f < length g.functions → ((c : ℕ) → Calls g c f → slice_index xs c < length g.functions) → slice_index xs f < length g.functions
  near f lt all = elim (cases_lt (slice_index xs f) (length g.functions)) [
    | inl e ↦ e
    | inr past ↦
        let none : (r : ℕ) → IsInner ss g f → HaveRoot g xs f r → ⊥ =
        λ r inner have.
        let same : slice_index xs inner.caller ≡ slice_index xs f = have inner.caller inner.called ∙ sym (x.of_callers f r inner have) in
        let below : slice_index xs inner.caller < length g.functions = all inner.caller inner.called in
        omega (arith, same, below, past) in
        let is : slice_index xs f ≡ f = x.itself f lt none in
        omega (arith, is, lt)
  ]

  pub each_is_within : IsGraphOf ss g → (f : ℕ) → f < length g.functions → slice_index xs f < length g.functions
  each_is_within of = everywhere g of.call_rows (λ f. slice_index xs f < length g.functions) (record {
    once = λ f lt. elim (cases_lt (slice_index xs f) (length g.functions)) [
      | inl e ↦ inl e
      | inr past ↦ inr (λ path. let is : slice_index xs f ≡ f = cycle_is_own f lt path in omega (arith, is, lt, past))
    ];
    from_callers = near;
  })

  -- who stands below the root on the way to one that has it, has it too
  pub below : IsGraphOf ss g → (h r f : ℕ) → PathBelow g r h f → slice_index xs f ≡ r → slice_index xs h ≡ r
  below of h r f here is = is
  below of h r f (further b c path calls other) is = below of h r b path (of_caller b c r (of.calls_within b c calls) is other calls)

module _ (ss : List Summary) (g : CallGraph) (xs ys : List ℕ) (x : AreRoots ss g xs) (y : AreRoots ss g ys) where
  agree : (f : ℕ) → f < length g.functions → ((c : ℕ) → Calls g c f → slice_index xs c ≡ slice_index ys c) → slice_index xs f ≡ slice_index ys f
  agree f lt same = elim (cases_eq (slice_index xs f) (slice_index ys f)) [
    | inl e ↦ e
    | inr differ ↦
        let none : (r : ℕ) → IsInner ss g f → HaveRoot g xs f r → ⊥ =
        λ r inner have. differ (x.of_callers f r inner have ∙ sym (y.of_callers f r inner (λ c calls. sym (same c calls) ∙ have c calls))) in
        x.itself f lt none ∙ sym (y.itself f lt (λ r inner have. none r inner (λ c calls. same c calls ∙ have c calls)))
  ]

  pub one : IsGraphOf ss g → xs ≡ ys
  one of = ext_get_or 0 xs ys (x.each ∙ sym y.each) (λ f lt. everywhere g of.call_rows (λ f. slice_index xs f ≡ slice_index ys f) (record {
    once = where_told g (λ f. slice_index xs f ≡ slice_index ys f) (λ f. cases_eq (slice_index xs f) (slice_index ys f)) (λ f lt path. cycle_is_own ss g xs x f lt path ∙ sym (cycle_is_own ss g ys y f lt path));
    from_callers = agree;
  }) f (omega (arith, lt, x.each)))
