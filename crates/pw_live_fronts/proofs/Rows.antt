-- The rows of the least solution hold what is live at the fronts of blocks.
use Rattle.std.proofs.Common.{◌≡◌, ◌-◌, ◌<◌, ℕ, zero, suc, true, List, [], ◌∷◌, length, get_or, sym, ap, subst, ◌∙◌, arith}
use Rattle.std.specs.Prelude.{Some, slice_get, vec_len, Contains, ◌↔◌, All}
use Rattle.std.specs.List.{AllByRecursion}
use Rattle.std.proofs.lemmas.Option.{same_Some, slice_get_within}
use Rattle.std.proofs.lemmas.List.Elements.{All-contains, All-from_recursion, Contains-get_or}
use Rattle.pw_fix.specs.Row.{Holds, IsSubset}
use Rattle.pw_fix.specs.Solution.{HasEdge, IsSolution, AreDerived}
use Rattle.pw_fix.specs.declared.bit_row.BitRow.{BitRow}
use Rattle.pw_fix.proofs.Places.{at_index}
use Rattle.pw_flow.specs.Outline.{Stretch, Outline}
use Rattle.pw_live.specs.Liveness.{is_live_in}
use Rattle.pw_live_fronts.specs.Blocks.{IsStretch, IsOutline, uses_first, defines_any}
use Rattle.pw_live_fronts.specs.Flowing.{IsNeededRow, node_of, IsEdge}
use Rattle.pw_live_fronts.specs.Exposing.{IsNumber, IsExposed, IsUsedFirst, IsDefined}
use Rattle.pw_live_fronts.specs.LiveFronts.{AreFronts}
use Rattle.pw_live_fronts.specs.declared.fronts.Fronts.{Fronts}
use Rattle.pw_live_fronts.specs.declared.named.Exposed.{Exposed}
use Rattle.pw_live_fronts.proofs.Names.{one_name}
use Rattle.pw_live_fronts.proofs.Needed.{rows_are_needed}
use Rattle.pw_live_fronts.proofs.Needs.{needed_is_live, live_is_used}

-- ---- lawful outlines

pub stretch_at : (f : Outline) → IsOutline f → (b : ℕ) (s : Stretch) → slice_get f.blocks b ≡ Some s → IsStretch f.temps (length f.blocks) s
stretch_at f lawful b s is = by f.blocks b lawful.blocks is
  where
    by : (blocks : List Stretch) (b : ℕ) → AllByRecursion (IsStretch f.temps (length f.blocks)) blocks → slice_get blocks b ≡ Some s → IsStretch f.temps (length f.blocks) s
    by [] b all e = absurd cc
    by (x ∷ xs) zero all e = subst (IsStretch f.temps (length f.blocks)) (same_Some x s e) all.0
    by (x ∷ xs) (suc b) all e = by xs b all.1 e

goes_within : (f : Outline) → IsOutline f → (b c : ℕ) (s : Stretch) → slice_get f.blocks b ≡ Some s → Contains s.next c → c < length f.blocks
goes_within f lawful b c s is there = All-contains (λ c. c < length f.blocks) s.next c (All-from_recursion (λ c. c < length f.blocks) s.next (stretch_at f lawful b s is).next) there

-- every edge goes between nodes
pub edge_within : (f : Outline) → IsOutline f → (m n : ℕ) → IsEdge f m n → (m < length f.blocks) × (n < length f.blocks)
edge_within f lawful m n edge =
    let there = slice_get_within f.blocks edge.before edge.block edge.at in
    let from = edge.from in
    let to = edge.to in
    (omega (arith, there, from), omega (arith, there, to))

pub all_within : (f : Outline) → IsOutline f → (nodes : ℕ) → nodes ≡ length f.blocks → (edges : List (ℕ × ℕ)) → ((m n : ℕ) → HasEdge edges m n ↔ IsEdge f m n) → All (λ (e : ℕ × ℕ). (e.0 < nodes) × (e.1 < nodes)) edges
all_within f lawful nodes count edges each = λ k d lt.
    let e : ℕ × ℕ = get_or edges k d in
    let w = edge_within f lawful e.0 e.1 ((each e.0 e.1).0 (Contains-get_or edges k d lt)) in
    (omega (arith, w.0, count), omega (arith, w.1, count))

module _ (f : Outline) (lawful : IsOutline f) (e : Exposed) (len : ℕ) (edges : List (ℕ × ℕ)) (Uses Defines : ℕ → ℕ → Type 0) (rows : List BitRow)
    (exposes : (b t : ℕ) (s : Stretch) → slice_get f.blocks b ≡ Some s → uses_first t s.acts s.uses ≡ true → IsExposed e t)
    (uses : (b i : ℕ) (s : Stretch) → slice_get f.blocks b ≡ Some s → Uses (node_of f b) i ↔ IsUsedFirst e s i)
    (defines : (b i : ℕ) (s : Stretch) → slice_get f.blocks b ≡ Some s → Defines (node_of f b) i ↔ IsDefined e s i)
    (each : (m n : ℕ) → HasEdge edges m n ↔ IsEdge f m n)
    (nothing : BitRow) (empty_len : nothing.len ≡ len) (empty : (v : ℕ) → Holds nothing v → ⊥)
    (solution : IsSolution {E = BitRow} (λ row. row.len ≡ len) IsSubset (λ n x y. IsNeededRow (Uses n) (Defines n) x y) (length f.blocks) edges rows)
    (derived : AreDerived {E = BitRow} (λ row. row.len ≡ len) IsSubset (λ n x y. IsNeededRow (Uses n) (Defines n) x y) edges rows) where
  gens : (t i : ℕ) → IsNumber e t i → (b : ℕ) (s : Stretch) → slice_get f.blocks b ≡ Some s → Uses (node_of f b) i ↔ (uses_first t s.acts s.uses ≡ true)
  gens t i is b s at = (
    λ h. let u = (uses b i s at).0 h in subst (λ (n : ℕ). uses_first n s.acts s.uses ≡ true) (one_name e u.0 t i u.1 is) u.2,
    λ h. (uses b i s at).1 (t, is, h),
  )

  kills : (t i : ℕ) → IsNumber e t i → (b : ℕ) (s : Stretch) → slice_get f.blocks b ≡ Some s → Defines (node_of f b) i ↔ (defines_any t s.acts ≡ true)
  kills t i is b s at = (
    λ h. let u = (defines b i s at).0 h in subst (λ (n : ℕ). defines_any n s.acts ≡ true) (one_name e u.0 t i u.1 is) u.2,
    λ h. (defines b i s at).1 (t, is, h),
  )

  within : (m n : ℕ) → HasEdge edges m n → m < length f.blocks
  within m n h = (edge_within f lawful m n ((each m n).0 h)).0

  -- a row of a node that holds the number of a temporary
  pub row_is_live : (t i b : ℕ) (row : BitRow) → IsNumber e t i → b < length f.blocks → slice_get rows (node_of f b) ≡ Some row → Holds row i ↔ (is_live_in f t b ≡ true)
  row_is_live t i b row is lt at =
      let first = rows_are_needed len (length f.blocks) edges Uses Defines rows within nothing empty_len empty solution derived (node_of f b) row at i in
      let then = needed_is_live f t i edges Uses Defines (gens t i is) (kills t i is) each (goes_within f lawful) b lt in
      (λ h. then.0 (first.0 h), λ h. first.1 (then.1 h))

  -- what is live has a row that holds its number
  pub live_has_row : (t b : ℕ) → b < length f.blocks → is_live_in f t b ≡ true → (i : ℕ) × IsNumber e t i × (row : BitRow) × (slice_get rows (node_of f b) ≡ Some row) × Holds row i
  live_has_row t b lt live =
      let used = live_is_used f t b lt live in
      let number = exposes used.1 t used.0 used.2 used.3 in
      let size = solution.each_node in
      let row = at_index rows (node_of f b) (omega (arith, size, lt)) in
      (number.0, number.1, row.0, row.1, (row_is_live t number.0 b row.0 number.1 lt row.1).1 live)

-- the rows and the numbers together
pub are_fronts : (f : Outline) (lawful : IsOutline f) (v : Fronts) (len nodes : ℕ) (edges : List (ℕ × ℕ)) (Uses Defines : ℕ → ℕ → Type 0)
    (exposes : (b t : ℕ) (s : Stretch) → slice_get f.blocks b ≡ Some s → uses_first t s.acts s.uses ≡ true → IsExposed v.exposed t)
    (uses : (b i : ℕ) (s : Stretch) → slice_get f.blocks b ≡ Some s → Uses (node_of f b) i ↔ IsUsedFirst v.exposed s i)
    (defines : (b i : ℕ) (s : Stretch) → slice_get f.blocks b ≡ Some s → Defines (node_of f b) i ↔ IsDefined v.exposed s i)
    (each : (m n : ℕ) → HasEdge edges m n ↔ IsEdge f m n)
    (nothing : BitRow) (empty_len : nothing.len ≡ len) (empty : (v : ℕ) → Holds nothing v → ⊥) →
    nodes ≡ length f.blocks →
    IsSolution {E = BitRow} (λ row. row.len ≡ len) IsSubset (λ n x y. IsNeededRow (Uses n) (Defines n) x y) nodes edges v.rows.items →
    AreDerived {E = BitRow} (λ row. row.len ≡ len) IsSubset (λ n x y. IsNeededRow (Uses n) (Defines n) x y) edges v.rows.items →
    vec_len v.exposed.numbers ≡ f.temps → AreFronts f v
are_fronts f lawful v len nodes edges Uses Defines exposes uses defines each nothing empty_len empty count solution derived temps =
    let solved : IsSolution {E = BitRow} (λ row. row.len ≡ len) IsSubset (λ n x y. IsNeededRow (Uses n) (Defines n) x y) (length f.blocks) edges v.rows.items =
    subst (λ (k : ℕ). IsSolution {E = BitRow} (λ row. row.len ≡ len) IsSubset (λ n x y. IsNeededRow (Uses n) (Defines n) x y) k edges v.rows.items) count solution in
    let size : vec_len v.rows ≡ length f.blocks = v.rows.ok.0 ∙ solved.each_node in
    record {
      blocks = size;
      temps = temps;
      live = λ b t lt.
          let place : vec_len v.rows - 1 - b ≡ node_of f b = ap (λ (k : ℕ). k - 1 - b) size in (
            λ h. (row_is_live f lawful v.exposed len edges Uses Defines v.rows.items exposes uses defines each nothing empty_len empty solved derived t h.number b h.row h.is lt (ap (slice_get v.rows.items) (sym place) ∙ h.at)).0 h.holds,
            λ l.
                let r = live_has_row f lawful v.exposed len edges Uses Defines v.rows.items exposes uses defines each nothing empty_len empty solved derived t b lt l in
                record { number = r.0; is = r.1; row = r.2; at = ap (slice_get v.rows.items) place ∙ r.3; holds = r.4 },
          );
    }
