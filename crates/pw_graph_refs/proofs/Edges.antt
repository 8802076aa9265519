-- Calls as edges, and paths as walks.
use Rattle.std.proofs.Common.{◌≡◌, ℕ, zero, suc, ◌+◌, ◌<◌, List, [], ◌∷◌, length, refl, sym, ap, subst, ◌∙◌, arith, inl, inr}
use Rattle.std.specs.Prelude.{Some, slice_get, ◌↔◌}
use Rattle.std.proofs.lemmas.List.Elements.{All-from_recursion}
use Rattle.std.proofs.lemmas.Option.{same_Some, slice_get_within}
use Rattle.pw_fix.specs.Table.{HoldsAt}
use Rattle.pw_fix.specs.Solution.{HasEdge}
use Rattle.pw_fix.specs.declared.bit_rows.BitRows.{BitRows}
use Rattle.pw_files.proofs.Standing.{Has, has_by, contains_by, each_by, has_map, has_map_back, has_left, has_right, has_split}
use Rattle.pw_graph.specs.declared.graph.CallGraph.{CallGraph}
use Rattle.pw_graph.specs.CallGraph.{Calls, Path, call, on, References, IsReachedFromUser, ReachesUser, IsGraph, IsTable}
use Rattle.pw_graph_refs.specs.Flows.{Walk, edge, further, edges_of, edges_from, turned, AreWithin, FlowsTo}

record EdgeAt (n : ℕ) (rows : List (List ℕ)) (a b : ℕ) : Type 0 where
  place : ℕ
  counted : a ≡ n + place
  row : List ℕ
  at : slice_get rows place ≡ Some row
  stands : Has b row

edge_back : (n : ℕ) (rows : List (List ℕ)) (a b : ℕ) → Has (a, b) (edges_from n rows) → EdgeAt n rows a b
edge_back n [] a b h = absurd h
edge_back n (row ∷ rows) a b h = elim (has_split (a, b) (edges_of n row) (edges_from (suc n) rows) h) [
  | inl k ↦
      let p = has_map_back (λ to. (n, to)) (a, b) row k in
      let from : n ≡ a = ap (λ (e : ℕ × ℕ). e.0) p.2 in
      let to : p.0 ≡ b = ap (λ (e : ℕ × ℕ). e.1) p.2 in
      record { place = 0; counted = omega (arith, from); row = row; at = refl; stands = subst (λ x. Has x row) to p.1 }
  | inr k ↦ let r = edge_back (suc n) rows a b k in record { place = suc r.place; counted = omega (arith, r.counted); row = r.row; at = r.at; stands = r.stands }
]

edge_there : (n : ℕ) (rows : List (List ℕ)) (k b : ℕ) (row : List ℕ) → slice_get rows k ≡ Some row → Has b row → Has (n + k, b) (edges_from n rows)
edge_there n [] k b row at h = absurd cc
edge_there n (r ∷ rows) zero b row at h =
    let same : r ≡ row = same_Some r row at in
    let place : n ≡ n + 0 = omega arith in
    has_left (n + 0, b) (edges_of n r) (edges_from (suc n) rows) (subst (λ m. Has (m, b) (edges_of n r)) place (has_map (λ to. (n, to)) b r (subst (λ (xs : List ℕ). Has b xs) (sym same) h)))
edge_there n (r ∷ rows) (suc k) b row at h =
    let place : suc n + k ≡ n + suc k = omega arith in
    has_right (n + suc k, b) (edges_of n r) (edges_from (suc n) rows) (subst (λ m. Has (m, b) (edges_from (suc n) rows)) place (edge_there (suc n) rows k b row at h))

abbrev calls_of : CallGraph → List (ℕ × ℕ)
calls_of g = edges_from 0 g.calls

edge_calls : (g : CallGraph) (a b : ℕ) → HasEdge (calls_of g) a b → Calls g a b
edge_calls g a b e =
    let r = edge_back 0 g.calls a b (has_by (a, b) (calls_of g) e) in
    let place : r.place ≡ a = omega (arith, r.counted) in
    record { row = r.row; at = subst (λ k. slice_get g.calls k ≡ Some r.row) place r.at; stands = contains_by b r.row r.stands }

calls_edge : (g : CallGraph) (a b : ℕ) → Calls g a b → HasEdge (calls_of g) a b
calls_edge g a b c =
    let place : 0 + a ≡ a = omega arith in
    contains_by (a, b) (calls_of g) (subst (λ m. Has (m, b) (calls_of g)) place (edge_there 0 g.calls a b c.row c.at (has_by b c.row c.stands)))

turn : (edges : List (ℕ × ℕ)) (a b : ℕ) → HasEdge (turned edges) a b → HasEdge edges b a
turn edges a b e =
    let p = has_map_back (λ (d : ℕ × ℕ). (d.1, d.0)) (a, b) edges (has_by (a, b) (turned edges) e) in
    let one : p.0.1 ≡ a = ap (λ (d : ℕ × ℕ). d.0) p.2 in
    let two : p.0.0 ≡ b = ap (λ (d : ℕ × ℕ). d.1) p.2 in
    contains_by (b, a) edges (subst (λ (d : ℕ × ℕ). Has d edges) (ap (λ m. (m, p.0.1)) two ∙ ap (λ m. (b, m)) one) p.1)

turn_back : (edges : List (ℕ × ℕ)) (a b : ℕ) → HasEdge edges b a → HasEdge (turned edges) a b
turn_back edges a b e = contains_by (a, b) (turned edges) (has_map (λ (d : ℕ × ℕ). (d.1, d.0)) (b, a) edges (has_by (b, a) edges e))

-- ---- paths

join : (g : CallGraph) {a b c : ℕ} → Path g a b → Path g b c → Path g a c
join g (call a b calls) path = on a b _ calls path
join g (on a b c calls rest) path = on a b _ calls (join g rest path)

pub walk_path : (g : CallGraph) {a b : ℕ} → Walk (calls_of g) a b → Path g a b
walk_path g (edge a b e) = call a b (edge_calls g a b e)
walk_path g (further a b c walk e) = join g (walk_path g walk) (call b c (edge_calls g b c e))

before : (edges : List (ℕ × ℕ)) {a b c : ℕ} → HasEdge edges a b → Walk edges b c → Walk edges a c
before edges e (edge b c d) = further _ b c (edge _ b e) d
before edges e (further b d c walk f) = further _ d c (before edges e walk) f

pub path_walk : (g : CallGraph) {a b : ℕ} → Path g a b → Walk (calls_of g) a b
path_walk g (call a b calls) = edge a b (calls_edge g a b calls)
path_walk g (on a b c calls path) = before (calls_of g) (calls_edge g a b calls) (path_walk g path)

back_path : (g : CallGraph) {a b : ℕ} → Walk (turned (calls_of g)) a b → Path g b a
back_path g (edge a b e) = call b a (edge_calls g b a (turn (calls_of g) a b e))
back_path g (further a b c walk e) = on c b a (edge_calls g c b (turn (calls_of g) b c e)) (back_path g walk)

path_back : (g : CallGraph) {a b : ℕ} → Path g a b → Walk (turned (calls_of g)) b a
path_back g (call a b calls) = edge b a (turn_back (calls_of g) b a (calls_edge g a b calls))
path_back g (on a b c calls path) = further c b a (path_back g path) (turn_back (calls_of g) b a (calls_edge g a b calls))

-- ---- within the graph

each_within : (g : CallGraph) → IsGraph g → (e : ℕ × ℕ) → Has e (calls_of g) → (e.0 < length g.functions) × (e.1 < length g.functions)
each_within g graph e h =
    let r = edge_back 0 g.calls e.0 e.1 h in
    let place : r.place ≡ e.0 = omega (arith, r.counted) in
    let lt = slice_get_within g.calls r.place r.row r.at in
    let size = graph.call_rows in
    (omega (arith, place, lt, size), graph.calls_within e.0 e.1 (edge_calls g e.0 e.1 (contains_by e (calls_of g) h)))

pub calls_within : (g : CallGraph) → IsGraph g → AreWithin (length g.functions) (calls_of g)
calls_within g graph = All-from_recursion (λ e. (e.0 < length g.functions) × (e.1 < length g.functions)) (calls_of g) (each_by (λ e. (e.0 < length g.functions) × (e.1 < length g.functions)) (calls_of g) (each_within g graph))

pub back_within : (g : CallGraph) → IsGraph g → AreWithin (length g.functions) (turned (calls_of g))
back_within g graph = All-from_recursion (λ e. (e.0 < length g.functions) × (e.1 < length g.functions)) (turned (calls_of g)) (each_by (λ e. (e.0 < length g.functions) × (e.1 < length g.functions)) (turned (calls_of g)) (λ e h.
    let p = has_map_back (λ (d : ℕ × ℕ). (d.1, d.0)) e (calls_of g) h in
    let w = each_within g graph p.0 p.1 in
    subst (λ (d : ℕ × ℕ). (d.0 < length g.functions) × (d.1 < length g.functions)) p.2 (w.1, w.0)))

-- ---- the sets

pub from_callers : (g : CallGraph) (own table : BitRows) → IsTable g (References g) own → ((n v : ℕ) → HoldsAt table n v ↔ FlowsTo (calls_of g) own n v) → (n v : ℕ) → HoldsAt table n v ↔ IsReachedFromUser g n v
from_callers g own table owns is n v = (
  λ h. let c = (is n v).0 h in record { user = c.from; path = walk_path g c.walk; refers = (owns.of c.from v).0 c.has },
  λ r. (is n v).1 (record { from = r.user; walk = path_walk g r.path; has = (owns.of r.user v).1 r.refers }),
)

pub from_callees : (g : CallGraph) (own table : BitRows) → IsTable g (References g) own → ((n v : ℕ) → HoldsAt table n v ↔ FlowsTo (turned (calls_of g)) own n v) → (n v : ℕ) → HoldsAt table n v ↔ ReachesUser g n v
from_callees g own table owns is n v = (
  λ h. let c = (is n v).0 h in record { user = c.from; path = back_path g c.walk; refers = (owns.of c.from v).0 c.has },
  λ r. (is n v).1 (record { from = r.user; walk = path_back g r.path; has = (owns.of r.user v).1 r.refers }),
)
