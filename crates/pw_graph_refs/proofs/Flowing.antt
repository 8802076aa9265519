-- The least solution has what flows along walks, and nothing else.
use Rattle.std.proofs.Common.{◌≡◌, ◌⊎◌, ℕ, ◌<◌, List, length, sym, subst, ◌∙◌, arith, inl, inr, set}
use Rattle.std.specs.Prelude.{Some, slice_get, ◌↔◌}
use Rattle.std.proofs.lemmas.Bool.{cases_eq}
use Rattle.std.proofs.lemmas.Option.{slice_get_within, same_Some}
use Rattle.std.proofs.lemmas.List.Elements.{All-contains}
use Rattle.pw_fix.specs.Row.{Holds, IsSubset}
use Rattle.pw_fix.specs.Table.{HoldsAt}
use Rattle.pw_fix.specs.Solution.{HasEdge, IsSolution, Derivable, least, flows, steps, joins, Place, into, value_of, AreDerived}
use Rattle.pw_fix.specs.declared.bit_row.BitRow.{BitRow}
use Rattle.pw_fix.specs.declared.bit_rows.BitRows.{BitRows}
use Rattle.pw_fix.proofs.Derivations.{derivable_own}
use Rattle.pw_fix.proofs.Places.{All-at, at_index, set_cases, slice_get-set_same, slice_get-set_other}
use Rattle.pw_fix.proofs.Tables.{RowHolds}
use Rattle.pw_fix.proofs.Unions.{join_is_union}
use Rattle.pw_graph_refs.specs.Flows.{IsHanded, Walk, edge, further, AreWithin, IsDelivered, FlowsTo}

-- a row that is joined into one of a table
pub join_row : (rows : List BitRow) (n : ℕ) (old new row : BitRow) → slice_get rows n ≡ Some old → ((k : ℕ) → Holds new k ↔ (Holds old k ⊎ Holds row k)) → (m k : ℕ) → RowHolds (set rows n new) m k ↔ (RowHolds rows m k ⊎ ((m ≡ n) × Holds row k))
join_row rows n old new row e holds m k =
    let there : n < length rows = slice_get_within rows n old e in (
      (λ h. elim (set_cases rows n m new h.0 h.1) [
        | inl w ↦ elim ((holds k).0 (subst (λ r. Holds r k) w.1 h.2)) [
          | inl had ↦ inl (old, subst (λ j. slice_get rows j ≡ Some old) (sym w.0) e, had)
          | inr put ↦ inr (w.0, put)
        ]
        | inr w ↦ inl (h.0, w.1, h.2)
      ]),
      (λ h. elim h [
        | inl r ↦ elim (cases_eq m n) [
          | inl same ↦
              let its : r.0 ≡ old = same_Some r.0 old (sym r.1 ∙ subst (λ j. slice_get rows j ≡ Some old) (sym same) e) in
              (new, subst (λ j. slice_get (set rows n new) j ≡ Some new) (sym same) (slice_get-set_same rows n new there), (holds k).1 (inl (subst (λ x. Holds x k) its r.2)))
          | inr other ↦ (r.0, slice_get-set_other rows n m new other ∙ r.1, r.2)
        ]
        | inr w ↦ (new, subst (λ j. slice_get (set rows n new) j ≡ Some new) (sym w.0) (slice_get-set_same rows n new there), (holds k).1 (inr w.1))
      ]),
    )

module _ (own : BitRows) (edges : List (ℕ × ℕ)) (nodes : ℕ) (values : List BitRow) (within : AreWithin nodes edges) where
  abbrev IsOwn : BitRow → Type 0
  IsOwn row = row.len ≡ own.len

  abbrev gives : ℕ → BitRow → BitRow → Type 0
  gives n x y = IsHanded (HoldsAt own n) x y

  abbrev Has : ℕ → ℕ → Type 0
  Has n v = HoldsAt own n v ⊎ FlowsTo edges own n v

  edge_within : (m n : ℕ) → HasEdge edges m n → m < nodes
  edge_within m n e = (All-contains (λ e. (e.0 < nodes) × (e.1 < nodes)) edges (m, n) within e).0

  -- ---- no more than that

  abbrev Fits : Place → BitRow → Type 0
  Fits (into n) x = (v : ℕ) → Holds x v → FlowsTo edges own n v
  Fits (value_of n) x = (v : ℕ) → Holds x v → Has n v

  nothing_fits : (p : Place) (x : BitRow) → ((v : ℕ) → Holds x v → ⊥) → Fits p x
  nothing_fits (into n) x none = λ v h. absurd (none v h)
  nothing_fits (value_of n) x none = λ v h. absurd (none v h)

  along : (m n v : ℕ) → HasEdge edges m n → Has m v → FlowsTo edges own n v
  along m n v e (inl h) = record { from = m; walk = edge m n e; has = h }
  along m n v e (inr c) = record { from = c.from; walk = further c.from m n c.walk e; has = c.has }

  both_fit : (p : Place) (x y z : BitRow) → ((v : ℕ) → Holds z v → Holds x v ⊎ Holds y v) → Fits p x → Fits p y → Fits p z
  both_fit (into n) x y z union one two = λ v h. elim (union v h) [ inl k ↦ one v k | inr k ↦ two v k ]
  both_fit (value_of n) x y z union one two = λ v h. elim (union v h) [ inl k ↦ one v k | inr k ↦ two v k ]

  module _ (nothing : BitRow) (empty_len : nothing.len ≡ own.len) (empty : (v : ℕ) → Holds nothing v → ⊥) where
    derivable_fits : {p : Place} {x : BitRow} → Derivable IsOwn IsSubset gives edges p x → Fits p x
    derivable_fits (least p x l) = nothing_fits p x (λ v h. empty v (l.least nothing empty_len v h))
    derivable_fits (flows m n x e d) = λ v h. along m n v e (derivable_fits d v h)
    derivable_fits (steps n y z d o g) = λ v h. elim ((g v).0 h) [ inl k ↦ inr (derivable_fits d v k) | inr k ↦ inl k ]
    derivable_fits (joins p x y z d e j) =
        both_fit p x y z (λ v h. (join_is_union own.len x y z (derivable_own IsOwn IsSubset gives edges d) (derivable_own IsOwn IsSubset gives edges e) j v).0 h) (derivable_fits d) (derivable_fits e)

    -- ---- no less

    module _ (solution : IsSolution IsOwn IsSubset gives nodes edges values) (derived : AreDerived IsOwn IsSubset gives edges values) where
      own_held : (n : ℕ) (x : BitRow) → slice_get values n ≡ Some x → (v : ℕ) → HoldsAt own n v → Holds x v
      own_held n x at v h =
          let s = solution.at_least_step n x at in
          s.2 v ((s.1.given v).1 (inr h))

      handed : (m n : ℕ) (y x : BitRow) → HasEdge edges m n → slice_get values m ≡ Some y → slice_get values n ≡ Some x → (v : ℕ) → Holds y v → Holds x v
      handed m n y x e one two v h =
          let s = solution.at_least_step n x two in
          s.2 v ((s.1.given v).1 (inl (s.1.joined.above m y e one v h)))

      value_at : (m n : ℕ) → HasEdge edges m n → (y : BitRow) × (slice_get values m ≡ Some y)
      value_at m n e = at_index values m (let lt : m < nodes = edge_within m n e in let size = solution.each_node in omega (arith, lt, size))

      walk_held : {m n : ℕ} → Walk edges m n → (x : BitRow) → slice_get values n ≡ Some x → (v : ℕ) → HoldsAt own m v → Holds x v
      walk_held (edge m n e) x at v h = let y = value_at m n e in handed m n y.0 x e y.1 at v (own_held m y.0 y.1 v h)
      walk_held (further m n k walk e) x at v h = let y = value_at n k e in handed n k y.0 x e y.1 at v (walk_held walk y.0 y.1 v h)

      deliver : {m n : ℕ} → Walk edges m n → (v : ℕ) → HoldsAt own m v → IsDelivered edges values n v
      deliver (edge m n e) v h = let y = value_at m n e in record { from = m; row = y.0; edge = e; at = y.1; has = own_held m y.0 y.1 v h }
      deliver (further m n k walk e) v h = let y = value_at n k e in record { from = n; row = y.0; edge = e; at = y.1; has = walk_held walk y.0 y.1 v h }

      -- what is delivered is what comes along walks
      pub delivered : (table : BitRows) → ((n v : ℕ) → HoldsAt table n v ↔ IsDelivered edges values n v) → (n v : ℕ) → HoldsAt table n v ↔ FlowsTo edges own n v
      delivered table is n v = (
        λ h. let d = (is n v).0 h in along d.from n v d.edge (derivable_fits (derived d.from d.row d.at) v d.has),
        λ c. (is n v).1 (deliver c.walk v c.has),
      )

pub walk_within : (nodes : ℕ) (edges : List (ℕ × ℕ)) → AreWithin nodes edges → {m n : ℕ} → Walk edges m n → m < nodes
walk_within nodes edges within (edge m n e) = (All-contains (λ e. (e.0 < nodes) × (e.1 < nodes)) edges (m, n) within e).0
walk_within nodes edges within (further m n k walk e) = walk_within nodes edges within walk

-- an empty row for each node
abbrev pub Empties : BitRows → ℕ → Type 0
Empties own nodes = (n : ℕ) → n < nodes → (row : BitRow) × (row.len ≡ own.len) × ((v : ℕ) → Holds row v → ⊥)

pub delivered_by : (own : BitRows) (edges : List (ℕ × ℕ)) (nodes : ℕ) (values : List BitRow) → AreWithin nodes edges → Empties own nodes
    → IsSolution {E = BitRow} (λ row. row.len ≡ own.len) IsSubset (λ n x y. IsHanded (HoldsAt own n) x y) nodes edges values → AreDerived {E = BitRow} (λ row. row.len ≡ own.len) IsSubset (λ n x y. IsHanded (HoldsAt own n) x y) edges values
    → (table : BitRows) → ((n v : ℕ) → HoldsAt table n v ↔ IsDelivered edges values n v) → (n v : ℕ) → HoldsAt table n v ↔ FlowsTo edges own n v
delivered_by own edges nodes values within empties solution derived table is n v = (
  λ h.
      let d = (is n v).0 h in
      let lt = slice_get_within values d.from d.row d.at in
      let size = solution.each_node in
      let e = empties d.from (omega (arith, lt, size)) in
      (delivered own edges nodes values within e.0 e.1 e.2 solution derived table is n v).0 h,
  λ c.
      let e = empties c.from (walk_within nodes edges within c.walk) in
      (delivered own edges nodes values within e.0 e.1 e.2 solution derived table is n v).1 c,
)

pub only_delivered : (old new : BitRows) (edges : List (ℕ × ℕ)) (values : List BitRow) → ((n v : ℕ) → HoldsAt old n v → ⊥) → ((n v : ℕ) → HoldsAt new n v ↔ (HoldsAt old n v ⊎ IsDelivered edges values n v)) → (n v : ℕ) → HoldsAt new n v ↔ IsDelivered edges values n v
only_delivered old new edges values empty is n v = (λ h. elim ((is n v).0 h) [ inl k ↦ absurd (empty n v k) | inr d ↦ d ], λ d. (is n v).1 (inr d))

row_length : (table : BitRows) (n : ℕ) (row : BitRow) → slice_get table.rows.items n ≡ Some row → row.len ≡ table.len
row_length table n row at = All-at (λ (r : BitRow). r.len ≡ table.len) table.rows.items n row table.uniform at

-- the rows of an empty table are empty
pub empty_rows : (own table : BitRows) (nodes : ℕ) → table.len ≡ own.len → length table.rows.items ≡ nodes → ((n v : ℕ) → HoldsAt table n v → ⊥) → Empties own nodes
empty_rows own table nodes same size empty n lt =
    let row = at_index table.rows.items n (let count = size in omega (arith, lt, count)) in
    (row.0, row_length table n row.0 row.1 ∙ same, λ v h. empty n v (row.0, row.1, h))
