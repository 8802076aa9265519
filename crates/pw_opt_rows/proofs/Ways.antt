-- The ways on from block to block, block by block.
use Rattle.std.proofs.Common.{◌≡◌, ℕ, ◌+◌, ◌<◌, ◌≤◌, List, ◌++◌, All, length, map, get_or, sym, ap, subst, ◌∙◌, arith, inl, inr}
use Rattle.std.specs.Prelude.{Some, slice_get, Contains, ◌↔◌}
use Rattle.std.specs.List.{AllByRecursion}
use Rattle.std.proofs.lemmas.Bool.{cases_eq}
use Rattle.std.proofs.lemmas.List.{length-map, get_or-map}
use Rattle.std.proofs.lemmas.List.Elements.{Contains-get_or, Contains-append_left, Contains-append_right, Contains-append_cases, All-from_recursion, All-contains}
use Rattle.std.proofs.lemmas.Option.{same_Some, slice_get_within, get_or_from_slice_get}
use Rattle.pw_fix.proofs.Places.{All-at, All-from_at}
use Rattle.pw_fix.specs.Solution.{HasEdge}
use Rattle.pw_flow.specs.declared.flow.Block.{Block}
use Rattle.pw_flow.specs.Uses.{successors}
use Rattle.pw_opt_rows.specs.Outflows.{HasWays, IsEdge}

-- ---- what items of a list become

mapped : (h : ℕ → ℕ × ℕ) (b : ℕ) (bs : List ℕ) → Contains bs b → Contains (map h bs) (h b)
mapped h b bs c = (c.0, (let lt = c.1 in let size = length-map bs h in omega (arith, lt, size)), get_or-map h bs c.0 b (h b) c.1 ∙ ap h c.2)

mapped_back : (h : ℕ → ℕ × ℕ) (e : ℕ × ℕ) (bs : List ℕ) → Contains (map h bs) e → (b : ℕ) × Contains bs b × (h b ≡ e)
mapped_back h e bs c =
    let lt : c.0 < length bs = let low = c.1 in let size = length-map bs h in omega (arith, low, size) in
    (get_or bs c.0 0, Contains-get_or bs c.0 0 lt, sym (get_or-map h bs c.0 0 e lt) ∙ c.2)

-- ---- one more block

-- the edges from the first blocks
abbrev pub IsEdgeBelow : List Block → ℕ → ℕ → ℕ → Type 0
IsEdgeBelow blocks place m n = (block : Block) × (m < place) × (slice_get blocks m ≡ Some block) × Contains (successors block.end) n

pub edges_more : (blocks : List Block) (place : ℕ) (block : Block) (old new : List (ℕ × ℕ)) → slice_get blocks place ≡ Some block
    → new ≡ old ++ map (λ (b : ℕ). (place, b)) (successors block.end)
    → ((m n : ℕ) → HasEdge old m n ↔ IsEdgeBelow blocks place m n) → (m n : ℕ) → HasEdge new m n ↔ IsEdgeBelow blocks (place + 1) m n
edges_more blocks place block old new is are before m n =
    let way : ℕ → ℕ × ℕ = λ (b : ℕ). (place, b) in (
      λ h. elim (Contains-append_cases old (map way (successors block.end)) (m, n) (subst (λ (es : List (ℕ × ℕ)). Contains es (m, n)) are h)) [
        | inl o ↦ let e = (before m n).0 o in (e.0, (let lt = e.1 in omega (arith, lt)), e.2, e.3)
        | inr w ↦
            let b = mapped_back way (m, n) (successors block.end) w in
            let from : place ≡ m = ap (λ (e : ℕ × ℕ). e.0) b.2 in
            let to : b.0 ≡ n = ap (λ (e : ℕ × ℕ). e.1) b.2 in
            (block, omega (arith, from), subst (λ (k : ℕ). slice_get blocks k ≡ Some block) from is, subst (Contains (successors block.end)) to b.1)
      ],
      λ e. subst (λ (es : List (ℕ × ℕ)). Contains es (m, n)) (sym are) (elim (cases_eq m place) [
        | inl same ↦
            let its : e.0 ≡ block = same_Some e.0 block (sym e.2 ∙ ap (slice_get blocks) same ∙ is) in
            let goes : Contains (successors block.end) n = subst (λ (x : Block). Contains (successors x.end) n) its e.3 in
            subst (λ (k : ℕ). Contains (old ++ map way (successors block.end)) (k, n)) (sym same)
            (Contains-append_right old (map way (successors block.end)) (place, n) (mapped way n (successors block.end) goes))
        | inr other ↦
            let lt = e.1 in
            Contains-append_left old (map way (successors block.end)) (m, n) ((before m n).1 (e.0, omega (arith, lt, other), e.2, e.3))
      ]),
    )

pub edges_all : (blocks : List Block) (place : ℕ) (edges : List (ℕ × ℕ)) → length blocks ≤ place
    → ((m n : ℕ) → HasEdge edges m n ↔ IsEdgeBelow blocks place m n) → (m n : ℕ) → HasEdge edges m n ↔ IsEdge blocks m n
edges_all blocks place edges le before m n = (
  λ h. let e = (before m n).0 h in (e.0, e.2, e.3),
  λ e. (before m n).1 (e.0, (let lt = slice_get_within blocks m e.0 e.1 in omega (arith, lt, le)), e.1, e.2),
)

-- ---- all edges are between blocks

edge_within : (blocks : List Block) (w : HasWays blocks) (m n : ℕ) → IsEdge blocks m n → (m < length blocks) × (n < length blocks)
edge_within blocks w m n e =
    let all = All-from_recursion (λ c. c < length blocks) (successors e.0.end)
    (All-at (λ (b : Block). AllByRecursion (λ c. c < length blocks) (successors b.end)) blocks m e.0 (All-from_recursion (λ (b : Block). AllByRecursion (λ c. c < length blocks) (successors b.end)) blocks w.within) e.1) in
    (slice_get_within blocks m e.0 e.1, All-contains (λ c. c < length blocks) (successors e.0.end) n all e.2)

edges_within : (blocks : List Block) (w : HasWays blocks) (edges : List (ℕ × ℕ)) → ((m n : ℕ) → HasEdge edges m n ↔ IsEdge blocks m n)
    → All (λ (e : ℕ × ℕ). (e.0 < length blocks) × (e.1 < length blocks)) edges
edges_within blocks w edges exact =
    All-from_at (λ (e : ℕ × ℕ). (e.0 < length blocks) × (e.1 < length blocks)) edges
    (λ k e is. edge_within blocks w e.0 e.1 ((exact e.0 e.1).0 (k, slice_get_within edges k e is, get_or_from_slice_get edges k e e is)))

pub edges_inside : (blocks : List Block) (w : HasWays blocks) (edges : List (ℕ × ℕ)) (count : ℕ) → count ≡ length blocks → ((m n : ℕ) → HasEdge edges m n ↔ IsEdge blocks m n)
    → All (λ (e : ℕ × ℕ). (e.0 < count) × (e.1 < count)) edges
edges_inside blocks w edges count is exact =
    subst (λ (k : ℕ). All (λ (e : ℕ × ℕ). (e.0 < k) × (e.1 < k)) edges) (sym is) (edges_within blocks w edges exact)
