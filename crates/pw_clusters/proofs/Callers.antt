-- All callers of a function have one number, or there is one that has another.
use Rattle.std.proofs.Common.{◌≡◌, ◌⊎◌, ℕ, zero, suc, ◌<◌, List, [], ◌∷◌, refl, sym, subst, ◌∙◌, arith, inl, inr}
use Rattle.std.specs.Prelude.{Option, None, Some, slice_get, Contains}
use Rattle.std.proofs.lemmas.Bool.{cases_eq, cases_lt}
use Rattle.std.proofs.lemmas.Option.{same_Some}
use Rattle.pw_files.proofs.Standing.{Has, has_by, contains_by}
use Rattle.pw_graph.specs.declared.graph.CallGraph.{CallGraph}
use Rattle.pw_graph.specs.CallGraph.{Calls}

neither : (x b : ℕ) (xs : List ℕ) → (x ≡ b → ⊥) → (Has b xs → ⊥) → (x ≡ b) ⊎ Has b xs → ⊥
neither x b xs one others (inl e) = one e
neither x b xs one others (inr h) = others h

has_told : (b : ℕ) (row : List ℕ) → Has b row ⊎ (Has b row → ⊥)
has_told b [] = inr (λ h. h)
has_told b (x ∷ xs) = elim (cases_eq x b) [
  | inl e ↦ inl (inl e)
  | inr other ↦ elim (has_told b xs) [
    | inl h ↦ inl (inr h)
    | inr none ↦ inr (neither x b xs other none)
  ]
]

pub calls_by_row : (g : CallGraph) (a b : ℕ) (o : Option (List ℕ)) → slice_get g.calls a ≡ o → Calls g a b ⊎ (Calls g a b → ⊥)
calls_by_row g a b None e = inr (λ c. absurd (let there : None ≡ Some c.row = sym e ∙ c.at in cc))
calls_by_row g a b (Some row) e = elim (has_told b row) [
  | inl h ↦ inl (record { row = row; at = e; stands = contains_by b row h })
  | inr none ↦ inr (λ c. none (has_by b row (subst (λ (r : List ℕ). Contains r b) (sym (same_Some row c.row (sym e ∙ c.at))) c.stands)))
]

module _ (g : CallGraph) (number : ℕ → ℕ) where
  pub record Other (f r : ℕ) : Type 0 where
    pub caller : ℕ
    pub calls : Calls g caller f
    pub differs : number caller ≡ r → ⊥

  one_more : (f r m : ℕ) → ((c : ℕ) → c < m → Calls g c f → number c ≡ r) → (Calls g m f → number m ≡ r) → (c : ℕ) → c < suc m → Calls g c f → number c ≡ r
  one_more f r m all last c lt calls = elim (cases_lt c m) [
    | inl below ↦ all c below calls
    | inr past ↦
        let same : m ≡ c = omega (arith, lt, past) in
        subst (λ k. number k ≡ r) same (last (subst (λ k. Calls g k f) (sym same) calls))
  ]

  pub search : (f r m : ℕ) → ((c : ℕ) → c < m → Calls g c f → number c ≡ r) ⊎ Other f r
  search f r zero = inl (λ c lt calls. absurd (omega (arith, lt)))
  search f r (suc m) = elim (search f r m) [
    | inr o ↦ inr o
    | inl all ↦ elim (cases_eq (number m) r) [
      | inl e ↦ inl (one_more f r m all (λ calls. e))
      | inr other ↦ elim (calls_by_row g m f (slice_get g.calls m) refl) [
        | inl c ↦ inr (record { caller = m; calls = c; differs = other })
        | inr none ↦ inl (one_more f r m all (λ calls. absurd (none calls)))
      ]
    ]
  ]
