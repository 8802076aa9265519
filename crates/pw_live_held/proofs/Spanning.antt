-- Points of spans, one behind the other.
use Rattle.std.proofs.Common.{◌≡◌, ℕ, ◌+◌, ◌<◌, ◌≤◌, true, false, List, length, get_or, take, refl, sym, subst, inl, inr}
use Rattle.std.specs.Prelude.{Contains, ◌↔◌}
use Rattle.std.proofs.lemmas.List.{take_all}
use Rattle.pw_live_spans.specs.Spans.{IsIn, Covers}
use Rattle.pw_live_spans.proofs.Steps.{first_more}

-- ---- a point of a kind

pub found_in : (P : ℕ → Type 0) (spans : List (ℕ × ℕ)) (span : ℕ × ℕ) → Contains spans span → ((q : ℕ) × (span.0 ≤ q) × (q < span.1) × P q) → (true ≡ true) ↔ ((q : ℕ) × Covers spans q × P q)
found_in P spans span there w = (λ _. (w.0, (span, there, (w.1, w.2)), w.3), λ _. refl)

pub none_in : (P : ℕ → Type 0) (spans : List (ℕ × ℕ)) (i : ℕ) → length spans ≤ i → ((q : ℕ) → Covers (take i spans) q → ¬ P q) → (false ≡ true) ↔ ((q : ℕ) × Covers spans q × P q)
none_in P spans i le none = (λ e. absurd cc, λ w. absurd (none w.0 (subst (λ (ss : List (ℕ × ℕ)). Covers ss w.0) (sym (take_all i spans le)) w.1) w.2))

pub none_so_far : (P : ℕ → Type 0) (spans : List (ℕ × ℕ)) (i : ℕ) (span : ℕ × ℕ) → i < length spans → get_or spans i span ≡ span
    → ¬ ((q : ℕ) × (span.0 ≤ q) × (q < span.1) × P q) → ((q : ℕ) → Covers (take i spans) q → ¬ P q) → (q : ℕ) → Covers (take (i + 1) spans) q → ¬ P q
none_so_far P spans i span lt is here before q c h = elim ((first_more spans i span c.0 lt is).0 c.1) [
  | inl old ↦ before q (c.0, old, c.2) h
  | inr same ↦
      let inside : IsIn span q = subst (λ (s : ℕ × ℕ). IsIn s q) same c.2 in
      here (q, inside.0, inside.1, h)
]
