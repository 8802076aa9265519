-- What the loops that make the tables and the edges keep true, one item further.
use Rattle.std.proofs.Common.{◌≡◌, ◌⊎◌, ℕ, suc, ◌+◌, ◌<◌, ◌≤◌, List, [], ◌∷◌, ◌++◌, length, get_or, take, sym, ap, subst, ◌∙◌, arith, inl, inr, All, append_assoc, add-zero}
use Rattle.std.specs.Prelude.{Some, slice_get, Contains, ◌↔◌}
use Rattle.std.proofs.lemmas.Bool.{cases_eq}
use Rattle.std.proofs.lemmas.Option.{same_Some, slice_get_within, get_or_from_slice_get, slice_get-get_or}
use Rattle.pw_files.proofs.Standing.{each_by, contains_by}
use Rattle.std.proofs.lemmas.Grind.{take_at_read}
use Rattle.std.proofs.lemmas.List.{length-take-le, append-nil}
use Rattle.std.proofs.lemmas.List.Elements.{All-from_recursion, Contains-append_left, Contains-push, Contains-push_cases}
use Rattle.pw_fix.specs.Row.{Holds}
use Rattle.pw_fix.specs.Table.{HoldsAt}
use Rattle.pw_fix.specs.declared.bit_row.BitRow.{BitRow}
use Rattle.pw_fix.specs.declared.bit_rows.BitRows.{BitRows}
use Rattle.pw_graph.specs.declared.graph.CallGraph.{CallGraph}
use Rattle.pw_graph.specs.CallGraph.{References, IsGraph}
use Rattle.pw_graph.proofs.Steps.{take_whole}
use Rattle.pw_graph_refs.specs.Flows.{edges_of, edges_from, IsMarked, IsDelivered}

next_item : {X : Type 0} (xs : List X) (i : ℕ) (x : X) → i < length xs → x ≡ get_or xs i x → take (i + 1) xs ≡ take i xs ++ x ∷ []
next_item {X} xs i x lt at = (take_at_read xs i x lt).1 ∙ ap (λ (y : X). take i xs ++ y ∷ []) (sym at)

-- ---- marks

pub mark_put : (refs : List (ℕ × ℕ × ℕ)) (i place : ℕ) (r : ℕ × ℕ × ℕ) (old now new : BitRows) → i < length refs → r ≡ get_or refs i r
    → ((n v : ℕ) → HoldsAt now n v ↔ (HoldsAt old n v ⊎ ((n ≡ place) × IsMarked (take i refs) v)))
    → ((n v : ℕ) → HoldsAt new n v ↔ (HoldsAt now n v ⊎ ((n ≡ place) × (v ≡ r.0) × ((0 < r.1) ⊎ (0 < r.2)))))
    → (n v : ℕ) → HoldsAt new n v ↔ (HoldsAt old n v ⊎ ((n ≡ place) × IsMarked (take (i + 1) refs) v))
mark_put refs i place r old now new lt at before after n v =
    let more = next_item refs i r lt at in (
      λ h. elim ((after n v).0 h) [
        | inl k ↦ elim ((before n v).0 k) [
          | inl o ↦ inl o
          | inr m ↦ inr (m.0, record { reads = m.1.reads; writes = m.1.writes; stands = subst (λ (ys : List (ℕ × ℕ × ℕ)). Contains ys (v, m.1.reads, m.1.writes)) (sym more) (Contains-append_left (take i refs) (r ∷ []) (v, m.1.reads, m.1.writes) m.1.stands); some = m.1.some })
        ]
        | inr m ↦ inr (m.0, record { reads = r.1; writes = r.2; stands = subst (λ (ys : List (ℕ × ℕ × ℕ)). Contains ys (v, r.1, r.2)) (sym more) (subst (λ k. Contains (take i refs ++ r ∷ []) (k, r.1, r.2)) (sym m.1) (Contains-push (take i refs) r)); some = m.2 })
      ],
      λ h. elim h [
        | inl o ↦ (after n v).1 (inl ((before n v).1 (inl o)))
        | inr m ↦ elim (Contains-push_cases (take i refs) r (v, m.1.reads, m.1.writes) (subst (λ (ys : List (ℕ × ℕ × ℕ)). Contains ys (v, m.1.reads, m.1.writes)) more m.1.stands)) [
          | inl k ↦ (after n v).1 (inl ((before n v).1 (inr (m.0, record { reads = m.1.reads; writes = m.1.writes; stands = k; some = m.1.some }))))
          | inr e ↦ (after n v).1 (inr (
            m.0,
            sym (ap (λ (t : ℕ × ℕ × ℕ). t.0) e),
            elim m.1.some [
              | inl lt0 ↦ inl (subst (λ k. 0 < k) (sym (ap (λ (t : ℕ × ℕ × ℕ). t.1) e)) lt0)
              | inr lt0 ↦ inr (subst (λ k. 0 < k) (sym (ap (λ (t : ℕ × ℕ × ℕ). t.2) e)) lt0)
            ],
          ))
        ]
      ],
    )

pub mark_none : (place : ℕ) (old : BitRows) (n v : ℕ) → HoldsAt old n v ↔ (HoldsAt old n v ⊎ ((n ≡ place) × IsMarked [] v))
mark_none place old n v = (λ h. inl h, λ h. elim h [ inl k ↦ k | inr m ↦ let lt0 = m.1.stands.1 in absurd (omega (arith, lt0)) ])

pub mark_end : (refs : List (ℕ × ℕ × ℕ)) (i place : ℕ) (old now : BitRows) → length refs ≤ i → ((n v : ℕ) → HoldsAt now n v ↔ (HoldsAt old n v ⊎ ((n ≡ place) × IsMarked (take i refs) v))) → (n v : ℕ) → HoldsAt now n v ↔ (HoldsAt old n v ⊎ ((n ≡ place) × IsMarked refs v))
mark_end refs i place old now le holds = subst (λ (ys : List (ℕ × ℕ × ℕ)). (n v : ℕ) → HoldsAt now n v ↔ (HoldsAt old n v ⊎ ((n ≡ place) × IsMarked ys v))) (take_whole refs i le) holds

pub own_none : (g : CallGraph) (now : BitRows) → ((n v : ℕ) → HoldsAt now n v → ⊥) → (n v : ℕ) → HoldsAt now n v ↔ ((n < 0) × References g n v)
own_none g now empty n v = (λ h. absurd (empty n v h), λ w. let lt0 = w.0 in absurd (omega (arith, lt0)))

pub own_put : (g : CallGraph) (i : ℕ) (row : List (ℕ × ℕ × ℕ)) (now new : BitRows) → slice_get g.refs i ≡ Some row → ((n v : ℕ) → HoldsAt now n v ↔ ((n < i) × References g n v)) → ((n v : ℕ) → HoldsAt new n v ↔ (HoldsAt now n v ⊎ ((n ≡ i) × IsMarked row v)))
    → (n v : ℕ) → HoldsAt new n v ↔ ((n < i + 1) × References g n v)
own_put g i row now new at before after n v = (
  λ h. elim ((after n v).0 h) [
    | inl k ↦ let w = (before n v).0 k in let lt = w.0 in (omega (arith, lt), w.1)
    | inr m ↦ let same = m.0 in (omega (arith, same), record { reads = m.1.reads; writes = m.1.writes; weighs = record { row = row; at = subst (λ k. slice_get g.refs k ≡ Some row) (sym same) at; stands = m.1.stands }; some = m.1.some })
  ],
  λ w. elim (cases_eq n i) [
    | inl e ↦
        let k = w.1.weighs in
        let its : k.row ≡ row = same_Some k.row row (sym k.at ∙ subst (λ m. slice_get g.refs m ≡ Some row) (sym e) at) in
        (after n v).1 (inr (e, record { reads = w.1.reads; writes = w.1.writes; stands = subst (λ (ys : List (ℕ × ℕ × ℕ)). Contains ys (v, w.1.reads, w.1.writes)) its k.stands; some = w.1.some }))
    | inr other ↦ let lt = w.0 in (after n v).1 (inl ((before n v).1 (omega (arith, lt, other), w.1)))
  ],
)

pub own_end : (g : CallGraph) (i : ℕ) (now : BitRows) → length g.refs ≤ i → ((n v : ℕ) → HoldsAt now n v ↔ ((n < i) × References g n v)) → (n v : ℕ) → HoldsAt now n v ↔ References g n v
own_end g i now le holds n v = (
  λ h. ((holds n v).0 h).1,
  λ r. let lt = slice_get_within g.refs n r.weighs.row r.weighs.at in (holds n v).1 (omega (arith, lt, le), r),
)

-- ---- edges

edges_push : (n : ℕ) (rows : List (List ℕ)) (row : List ℕ) → edges_from n (rows ++ row ∷ []) ≡ edges_from n rows ++ edges_of (n + length rows) row
edges_push n [] row = append-nil (edges_of n row) ∙ ap (λ m. edges_of m row) (sym (add-zero n))
edges_push n (r ∷ rows) row =
    let same : suc n + length rows ≡ n + length (r ∷ rows) = omega arith in
    ap (λ (es : List (ℕ × ℕ)). edges_of n r ++ es) (edges_push (suc n) rows row ∙ ap (λ m. edges_from (suc n) rows ++ edges_of m row) same) ∙ sym (append_assoc (edges_of n r) (edges_from (suc n) rows) (edges_of (n + length (r ∷ rows)) row))

pub edges_more : (rows : List (List ℕ)) (i : ℕ) (row : List ℕ) → i < length rows → row ≡ get_or rows i row → edges_from 0 (take (i + 1) rows) ≡ edges_from 0 (take i rows) ++ edges_of i row
edges_more rows i row lt at =
    let size : length (take i rows) ≡ i = length-take-le i rows (omega (arith, lt)) in
    let place : 0 + length (take i rows) ≡ i = omega (arith, size) in
    ap (λ (rs : List (List ℕ)). edges_from 0 rs) (next_item rows i row lt at) ∙ edges_push 0 (take i rows) row ∙ ap (λ m. edges_from 0 (take i rows) ++ edges_of m row) place

-- ---- deliveries

pub deliver_put : (edges : List (ℕ × ℕ)) (i : ℕ) (e : ℕ × ℕ) (values : List BitRow) (row : BitRow) (old now new : BitRows) → i < length edges → e ≡ get_or edges i e → slice_get values e.0 ≡ Some row
    → ((n v : ℕ) → HoldsAt now n v ↔ (HoldsAt old n v ⊎ IsDelivered (take i edges) values n v)) → ((n v : ℕ) → HoldsAt new n v ↔ (HoldsAt now n v ⊎ ((n ≡ e.1) × Holds row v)))
    → (n v : ℕ) → HoldsAt new n v ↔ (HoldsAt old n v ⊎ IsDelivered (take (i + 1) edges) values n v)
deliver_put edges i e values row old now new lt at there before after n v =
    let more = next_item edges i e lt at in (
      λ h. elim ((after n v).0 h) [
        | inl k ↦ elim ((before n v).0 k) [
          | inl o ↦ inl o
          | inr d ↦ inr (record { from = d.from; row = d.row; edge = subst (λ (ys : List (ℕ × ℕ)). Contains ys (d.from, n)) (sym more) (Contains-append_left (take i edges) (e ∷ []) (d.from, n) d.edge); at = d.at; has = d.has })
        ]
        | inr w ↦ inr (record { from = e.0; row = row; edge = subst (λ (ys : List (ℕ × ℕ)). Contains ys (e.0, n)) (sym more) (subst (λ m. Contains (take i edges ++ e ∷ []) (e.0, m)) (sym w.0) (Contains-push (take i edges) e)); at = there; has = w.1 })
      ],
      λ h. elim h [
        | inl o ↦ (after n v).1 (inl ((before n v).1 (inl o)))
        | inr d ↦ elim (Contains-push_cases (take i edges) e (d.from, n) (subst (λ (ys : List (ℕ × ℕ)). Contains ys (d.from, n)) more d.edge)) [
          | inl k ↦ (after n v).1 (inl ((before n v).1 (inr (record { from = d.from; row = d.row; edge = k; at = d.at; has = d.has }))))
          | inr same ↦
              let from : e.0 ≡ d.from = ap (λ (p : ℕ × ℕ). p.0) same in
              let its : d.row ≡ row = same_Some d.row row (sym d.at ∙ subst (λ m. slice_get values m ≡ Some row) from there) in
              (after n v).1 (inr (sym (ap (λ (p : ℕ × ℕ). p.1) same), subst (λ (x : BitRow). Holds x v) its d.has))
        ]
      ],
    )

pub deliver_none : (values : List BitRow) (old : BitRows) (n v : ℕ) → HoldsAt old n v ↔ (HoldsAt old n v ⊎ IsDelivered [] values n v)
deliver_none values old n v = (λ h. inl h, λ h. elim h [ inl k ↦ k | inr d ↦ let lt0 = d.edge.1 in absurd (omega (arith, lt0)) ])

pub deliver_end : (edges : List (ℕ × ℕ)) (i : ℕ) (values : List BitRow) (old now : BitRows) → length edges ≤ i → ((n v : ℕ) → HoldsAt now n v ↔ (HoldsAt old n v ⊎ IsDelivered (take i edges) values n v)) → (n v : ℕ) → HoldsAt now n v ↔ (HoldsAt old n v ⊎ IsDelivered edges values n v)
deliver_end edges i values old now le holds = subst (λ (ys : List (ℕ × ℕ)). (n v : ℕ) → HoldsAt now n v ↔ (HoldsAt old n v ⊎ IsDelivered ys values n v)) (take_whole edges i le) holds

-- ---- items

pub item_at : {X : Type 0} (xs : List X) (i : ℕ) (d : X) → i < length xs → get_or xs i d ≡ get_or xs i (get_or xs i d)
item_at xs i d lt = sym (get_or_from_slice_get xs i (get_or xs i d) (get_or xs i d) (slice_get-get_or xs i d lt))

pub refs_below : (g : CallGraph) → IsGraph g → (i n : ℕ) (row : List (ℕ × ℕ × ℕ)) → slice_get g.refs i ≡ Some row → n ≡ length g.globals → All (λ r. r.0 < n) row
refs_below g graph i n row at size = All-from_recursion (λ r. r.0 < n) row (each_by (λ r. r.0 < n) row (λ r h.
    let lt = graph.refs_within i r.0 r.1 r.2 (record { row = row; at = at; stands = contains_by r row h }) in omega (arith, lt, size)))
