-- What flows from each function itself, and rows that are filled place by place.
use Rattle.std.specs.Prelude.{ℕ, ◌≡◌, ◌<◌, ◌≤◌, ◌+◌, ◌⊎◌, ◌↔◌, IfOk, length}
use Rattle.std.proofs.Common.{Result, Ok, Err, arith, refl, sym, subst, inl, inr}
use Rattle.std.proofs.lemmas.Bool.{cases_eq, cases_lt}
use Rattle.pw_fix.specs.Row.{Holds}
use Rattle.pw_fix.specs.Table.{HoldsAt}
use Rattle.pw_fix.specs.declared.bit_row.BitRow.{BitRow}
use Rattle.pw_fix.specs.declared.bit_rows.BitRows.{BitRows}
use Rattle.pw_graph.specs.declared.graph.CallGraph.{CallGraph}
use Rattle.pw_graph.specs.CallGraph.{Path, IsGraph}
use Rattle.pw_graph_refs.specs.Flows.{Walk, edges_from, FlowsTo}
use Rattle.pw_graph_refs.proofs.Edges.{walk_path, path_walk, calls_within}
use Rattle.pw_graph_refs.proofs.Flowing.{walk_within}

-- each place has itself, for those before one
pub own_first : (table : BitRows) → ((n v : ℕ) → HoldsAt table n v → ⊥) → (n v : ℕ) → HoldsAt table n v ↔ ((n < 0) × (v ≡ n))
own_first table empty n v = (λ h. absurd (empty n v h), λ w. absurd (omega (arith, w.0)))

pub own_more : (i : ℕ) (now new : BitRows) → ((n v : ℕ) → HoldsAt now n v ↔ ((n < i) × (v ≡ n))) → ((n v : ℕ) → HoldsAt new n v ↔ (((n ≡ i) × (v ≡ i)) ⊎ HoldsAt now n v))
    → (n v : ℕ) → HoldsAt new n v ↔ ((n < i + 1) × (v ≡ n))
own_more i now new before after n v = (
  λ h. elim ((after n v).0 h) [
    | inl here ↦ (omega (arith, here.0), omega (arith, here.0, here.1))
    | inr k ↦ let w = (before n v).0 k in (omega (arith, w.0), w.1)
  ],
  λ w. (after n v).1 (elim (cases_eq n i) [
    | inl e ↦ inl (e, omega (arith, e, w.1))
    | inr other ↦ inr ((before n v).1 (below w.0 other, w.1))
  ]),
) where
  below : n < i + 1 → (n ≡ i → ⊥) → n < i
  below lt other = elim (cases_lt n i) [ inl k ↦ k | inr ge ↦ absurd (other (omega (arith, lt, ge))) ]

pub own_all : (count i : ℕ) (now : BitRows) → count ≤ i → i ≤ count → ((n v : ℕ) → HoldsAt now n v ↔ ((n < i) × (v ≡ n))) → (n v : ℕ) → HoldsAt now n v ↔ ((n < count) × (v ≡ n))
own_all count i now low high before = let same : i ≡ count = omega (arith, low, high) in subst (λ (k : ℕ). (n v : ℕ) → HoldsAt now n v ↔ ((n < k) × (v ≡ n))) same before

-- a row has what stands at its own place, for those before one
pub some_first : (P : ℕ → Type 0) (row : BitRow) → ((f : ℕ) → Holds row f → ⊥) → (f : ℕ) → Holds row f ↔ ((f < 0) × P f)
some_first P row empty f = (λ h. absurd (empty f h), λ w. absurd (omega (arith, w.0)))

pub some_more : (P : ℕ → Type 0) (i : ℕ) (now new : BitRow) → ((f : ℕ) → Holds now f ↔ ((f < i) × P f)) → ((f : ℕ) → Holds new f ↔ (Holds now f ⊎ ((f ≡ i) × P i))) → (f : ℕ) → Holds new f ↔ ((f < i + 1) × P f)
some_more P i now new before after f = (
  λ h. elim ((after f).0 h) [
    | inl k ↦ let w = (before f).0 k in (omega (arith, w.0), w.1)
    | inr here ↦ (omega (arith, here.0), subst P (sym here.0) here.1)
  ],
  λ w. (after f).1 (elim (cases_eq f i) [
    | inl e ↦ inr (e, subst P e w.1)
    | inr other ↦ inl ((before f).1 (below w.0 other, w.1))
  ]),
) where
  below : f < i + 1 → (f ≡ i → ⊥) → f < i
  below lt other = elim (cases_lt f i) [ inl k ↦ k | inr ge ↦ absurd (other (omega (arith, lt, ge))) ]

-- what flows from each function itself comes back to those that come to call themselves
pub cycle_flows : (g : CallGraph) (own : BitRows) → IsGraph g → ((n v : ℕ) → HoldsAt own n v ↔ ((n < length g.functions) × (v ≡ n))) → (f : ℕ) → FlowsTo (edges_from 0 g.calls) own f f ↔ Path g f f
cycle_flows g own ok is f = (
  λ h. let k = (is h.from f).0 h.has in walk_path g (subst (λ (n : ℕ). Walk (edges_from 0 g.calls) n f) (sym k.1) h.walk),
  λ path. let walk = path_walk g path in record { from = f; walk = walk; has = (is f f).1 (walk_within (length g.functions) (edges_from 0 g.calls) (calls_within g ok) walk, refl) },
)

pub cycle_holds : (g : CallGraph) (own table : BitRows) (row : BitRow) → IsGraph g → ((n v : ℕ) → HoldsAt own n v ↔ ((n < length g.functions) × (v ≡ n))) → ((n v : ℕ) → HoldsAt table n v ↔ FlowsTo (edges_from 0 g.calls) own n v)
    → table.len ≡ length g.functions → ((f : ℕ) → Holds row f ↔ ((f < table.len) × HoldsAt table f f)) → (f : ℕ) → Holds row f ↔ Path g f f
cycle_holds g own table row ok is flows width holds f = (
  λ h. (cycle_flows g own ok is f).0 ((flows f f).0 ((holds f).0 h).1),
  λ path.
      let lt = walk_within (length g.functions) (edges_from 0 g.calls) (calls_within g ok) (path_walk g path) in
      (holds f).1 (omega (arith, lt, width), (flows f f).1 ((cycle_flows g own ok is f).1 path)),
)

-- what a row holds in the end
pub some_all : (P : ℕ → Type 0) (count i : ℕ) (row : BitRow) → count ≤ i → i ≤ count → ((f : ℕ) → Holds row f ↔ ((f < i) × P f)) → (f : ℕ) → Holds row f ↔ ((f < count) × P f)
some_all P count i row low high before = let same : i ≡ count = omega (arith, low, high) in subst (λ (k : ℕ). (f : ℕ) → Holds row f ↔ ((f < k) × P f)) same before

pub cycles_found : {E : Type 0} (g : CallGraph) (own table : BitRows) (r : Result BitRow E) → IsGraph g → ((n v : ℕ) → HoldsAt own n v ↔ ((n < length g.functions) × (v ≡ n))) → ((n v : ℕ) → HoldsAt table n v ↔ FlowsTo (edges_from 0 g.calls) own n v)
    → table.len ≡ length g.functions → IfOk r (λ row. (f : ℕ) → Holds row f ↔ ((f < table.len) × HoldsAt table f f)) → IfOk r (λ row. (f : ℕ) → Holds row f ↔ Path g f f)
cycles_found g own table (Ok row) ok is flows width holds = cycle_holds g own table row ok is flows width holds
cycles_found g own table (Err e) ok is flows width holds = tt
