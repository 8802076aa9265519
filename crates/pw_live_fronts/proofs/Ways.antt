-- The ways on from block to block, block by block.
use Rattle.std.proofs.Common.{◌≡◌, ℕ, ◌+◌, ◌-◌, ◌<◌, ◌≤◌, List, [], ◌++◌, length, map, get_or, sym, ap, subst, ◌∙◌, arith, inl, inr}
use Rattle.std.specs.Prelude.{Some, slice_get, Contains, ◌↔◌}
use Rattle.std.proofs.lemmas.Bool.{cases_eq}
use Rattle.std.proofs.lemmas.List.{length-map, get_or-map}
use Rattle.std.proofs.lemmas.List.Elements.{Contains-get_or, Contains-append_left, Contains-append_right, Contains-append_cases}
use Rattle.std.proofs.lemmas.Option.{same_Some, slice_get_within}
use Rattle.pw_fix.specs.Solution.{HasEdge}
use Rattle.pw_flow.specs.Outline.{Stretch, Outline}
use Rattle.pw_live_fronts.specs.Flowing.{node_of, IsEdge}

-- ---- what items of a list become

mapped : (h : ℕ → ℕ × ℕ) (b : ℕ) (bs : List ℕ) → Contains bs b → Contains (map h bs) (h b)
mapped h b bs c = (c.0, (let lt = c.1 in let size = length-map bs h in omega (arith, lt, size)), get_or-map h bs c.0 b (h b) c.1 ∙ ap h c.2)

mapped_back : (h : ℕ → ℕ × ℕ) (e : ℕ × ℕ) (bs : List ℕ) → Contains (map h bs) e → (b : ℕ) × Contains bs b × (h b ≡ e)
mapped_back h e bs c =
    let lt : c.0 < length bs = let low = c.1 in let size = length-map bs h in omega (arith, low, size) in
    (get_or bs c.0 0, Contains-get_or bs c.0 0 lt, sym (get_or-map h bs c.0 0 e lt) ∙ c.2)

-- ---- one more block

abbrev pub way_on : Outline → ℕ → ℕ → ℕ × ℕ
way_on f place b = (length f.blocks - 1 - b, length f.blocks - 1 - place)

pub edges_none : (f : Outline) (m n : ℕ) → HasEdge [] m n ↔ ((e : IsEdge f m n) × (e.before < 0))
edges_none f m n = (λ h. absurd (let lt : h.0 < 0 = h.1 in omega (arith, lt)), λ e. absurd (let lt = e.1 in omega (arith, lt)))

pub edges_more : (f : Outline) (place : ℕ) (s : Stretch) (old new : List (ℕ × ℕ)) → slice_get f.blocks place ≡ Some s → new ≡ old ++ map (way_on f place) s.next
    → ((m n : ℕ) → HasEdge old m n ↔ ((e : IsEdge f m n) × (e.before < place)))
    → (m n : ℕ) → HasEdge new m n ↔ ((e : IsEdge f m n) × (e.before < place + 1))
edges_more f place s old new is are before m n = (
  λ h. elim (Contains-append_cases old (map (way_on f place) s.next) (m, n) (subst (λ (es : List (ℕ × ℕ)). Contains es (m, n)) are h)) [
    | inl o ↦ let e = (before m n).0 o in (e.0, (let lt = e.1 in omega (arith, lt)))
    | inr w ↦
        let b = mapped_back (way_on f place) (m, n) s.next w in (
          record { before = place; after = b.0; block = s; at = is; goes = b.1; from = sym (ap (λ (e : ℕ × ℕ). e.0) b.2); to = sym (ap (λ (e : ℕ × ℕ). e.1) b.2) },
          omega arith,
        )
  ],
  λ e. elim (cases_eq e.0.before place) [
    | inl same ↦
        let its : e.0.block ≡ s = same_Some e.0.block s (sym e.0.at ∙ ap (slice_get f.blocks) same ∙ is) in
        let goes : Contains s.next e.0.after = subst (λ (x : Stretch). Contains x.next e.0.after) its e.0.goes in
        let to : length f.blocks - 1 - place ≡ n = sym (e.0.to ∙ ap (node_of f) same) in
        let both : way_on f place e.0.after ≡ (m, n) = ap (λ (k : ℕ). (k, length f.blocks - 1 - place)) (sym e.0.from) ∙ ap (λ (k : ℕ). (m, k)) to in
        let there = Contains-append_right old (map (way_on f place) s.next) (way_on f place e.0.after) (mapped (way_on f place) e.0.after s.next goes) in
        subst (λ (es : List (ℕ × ℕ)). Contains es (m, n)) (sym are) (subst (Contains (old ++ map (way_on f place) s.next)) both there)
    | inr other ↦
        let lt = e.1 in
        subst (λ (es : List (ℕ × ℕ)). Contains es (m, n)) (sym are) (Contains-append_left old (map (way_on f place) s.next) (m, n) ((before m n).1 (e.0, omega (arith, lt, other))))
  ],
)

pub edges_all : (f : Outline) (place : ℕ) (edges : List (ℕ × ℕ)) → length f.blocks ≤ place
    → ((m n : ℕ) → HasEdge edges m n ↔ ((e : IsEdge f m n) × (e.before < place)))
    → (m n : ℕ) → HasEdge edges m n ↔ IsEdge f m n
edges_all f place edges le before m n = (
  λ h. ((before m n).0 h).0,
  λ e. (before m n).1 (e, (let lt = slice_get_within f.blocks e.before e.block e.at in omega (arith, lt, le))),
)
