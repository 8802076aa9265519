-- What flows into nodes, edge by edge: the join so far of what flows out of those before.
use Rattle.std.proofs.Common.{◌≡◌, ◌⊎◌, ℕ, List, set, sym, ap, subst, ◌∙◌, inl, inr}
use Rattle.std.specs.Prelude.{Some, slice_get, Contains}
use Rattle.std.proofs.lemmas.Option.{same_Some}
use Rattle.pw_fix.specs.Order.{IsPreorder, IsLeast, IsJoin}
use Rattle.pw_fix.specs.Solution.{HasEdge, IsAbovePredecessors, IsInflow, into, Derivable, AreDerived, least, flows, joins}
use Rattle.pw_fix.proofs.Derivations.{derivable_own}
use Rattle.pw_fix.proofs.Places.{set_cases}

module _ {E : Type 0} (is_own : E → Type 0) (is_below : E → E → Type 0) (order : IsPreorder is_own is_below) (gives : ℕ → E → E → Type 0) (edges : List (ℕ × ℕ)) (ends : List E) where
  -- the rows are joins over the edges of some
  pub record IsGathered (some : ℕ × ℕ → Type 0) (fronts : List E) : Type 0 where
    pub own : (n : ℕ) (y : E) → slice_get fronts n ≡ Some y → is_own y
    pub above : (m n : ℕ) (x y : E) → some (m, n) → slice_get ends m ≡ Some x → slice_get fronts n ≡ Some y → is_below x y
    pub least : (n : ℕ) (y z : E) → slice_get fronts n ≡ Some y → is_own z → IsAbovePredecessors is_below edges ends n z → is_below y z
    pub derived : (n : ℕ) (y : E) → slice_get fronts n ≡ Some y → Derivable is_own is_below gives edges (into n) y

  pub gathered_none : (some : ℕ × ℕ → Type 0) (fronts : List E) → ((e : ℕ × ℕ) → ¬ some e) → ((n : ℕ) (y : E) → slice_get fronts n ≡ Some y → IsLeast is_own is_below y) → IsGathered some fronts
  gathered_none some fronts none bottoms = record {
    own = λ n y is. (bottoms n y is).own;
    above = λ m n x y s at is. absurd (none (m, n) s);
    least = λ n y z is own above. (bottoms n y is).least z own;
    derived = λ n y is. least (into n) y (bottoms n y is);
  }

  -- one edge more
  pub gathered_more : (some more : ℕ × ℕ → Type 0) (fronts : List E) (m n : ℕ) (x y z : E) → IsGathered some fronts → AreDerived is_own is_below gives edges ends → HasEdge edges m n
      → ((e : ℕ × ℕ) → more e → some e ⊎ (e ≡ (m, n))) → is_own x → slice_get ends m ≡ Some x → slice_get fronts n ≡ Some y → IsJoin is_own is_below y x z → IsGathered more (set fronts n z)
  gathered_more some more fronts m n x y z g derived edge cases own_x at is j = record {
    own = λ k w there. elim (set_cases fronts n k z w there) [
      | inl now ↦ subst is_own (sym now.1) j.own
      | inr old ↦ g.own k w old.1
    ];
    above = λ l k v w new end_at there. elim (set_cases fronts n k z w there) [
      | inl now ↦ subst (is_below v) (sym now.1) (elim (cases (l, k) new) [
        | inl before ↦
            let low : is_below v y = g.above l n v y (subst (λ (i : ℕ). some (l, i)) now.0 before) end_at is in
            order.transitive v y z (own_end l v end_at) (g.own n y is) j.own low j.above_first
        | inr this ↦
            let from : l ≡ m = ap (λ (e : ℕ × ℕ). e.0) this in
            let same : v ≡ x = same_Some v x (sym end_at ∙ ap (slice_get ends) from ∙ at) in
            subst (λ (u : E). is_below u z) (sym same) j.above_second
      ])
      | inr old ↦ elim (cases (l, k) new) [
        | inl before ↦ g.above l k v w before end_at old.1
        | inr this ↦ absurd (old.0 (ap (λ (e : ℕ × ℕ). e.1) this))
      ]
    ];
    least = λ k w v there own_v above. elim (set_cases fronts n k z w there) [
      | inl now ↦
          let here : IsAbovePredecessors is_below edges ends n v = subst (λ (i : ℕ). IsAbovePredecessors is_below edges ends i v) now.0 above in
          subst (λ (u : E). is_below u v) (sym now.1) (j.least v own_v (g.least n y v is own_v here) (here m x edge at))
      | inr old ↦ g.least k w v old.1 own_v above
    ];
    derived = λ k w there. elim (set_cases fronts n k z w there) [
      | inl now ↦
          subst (λ (u : E). Derivable is_own is_below gives edges (into k) u) (sym now.1)
          (subst (λ (i : ℕ). Derivable is_own is_below gives edges (into i) z) (sym now.0) (joins (into n) y x z (g.derived n y is) (flows m n x edge (derived m x at)) j))
      | inr old ↦ g.derived k w old.1
    ];
  }
    where
      own_end : (l : ℕ) (v : E) → slice_get ends l ≡ Some v → is_own v
      own_end l v e = derivable_own is_own is_below gives edges (derived l v e)

  pub gathered_all : (some : ℕ × ℕ → Type 0) (fronts : List E) → IsGathered some fronts → ((e : ℕ × ℕ) → Contains edges e → some e)
      → (n : ℕ) (y : E) → slice_get fronts n ≡ Some y → IsInflow is_own is_below edges ends n y
  gathered_all some fronts g all n y is = record {
    own = g.own n y is;
    above = λ m x edge at. g.above m n x y (all (m, n) edge) at is;
    least = λ z own above. g.least n y z is own above;
  }
