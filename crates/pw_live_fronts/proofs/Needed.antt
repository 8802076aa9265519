-- The least solution of a problem over rows of bits in which a node adds what it needs itself to what flows in, without
-- what it defines: it has what some walk of edges leads to.
use Rattle.std.proofs.Common.{◌≡◌, ◌⊎◌, ℕ, ◌<◌, List, arith, inl, inr}
use Rattle.std.specs.Prelude.{Some, slice_get, ◌↔◌}
use Rattle.pw_fix.specs.Row.{Holds, IsSubset}
use Rattle.pw_fix.specs.Solution.{HasEdge, IsSolution, Derivable, least, flows, steps, joins, Place, into, value_of, AreDerived}
use Rattle.pw_fix.specs.declared.bit_row.BitRow.{BitRow}
use Rattle.pw_fix.proofs.Derivations.{derivable_own}
use Rattle.pw_fix.proofs.Places.{at_index}
use Rattle.pw_fix.proofs.Unions.{join_is_union}
use Rattle.pw_live_fronts.specs.Flowing.{IsNeededRow, Needed, itself, behind}

module _ (len nodes : ℕ) (edges : List (ℕ × ℕ)) (Gen Kill : ℕ → ℕ → Type 0) (values : List BitRow)
    (within : (m n : ℕ) → HasEdge edges m n → m < nodes) where
  abbrev IsOwn : BitRow → Type 0
  IsOwn row = row.len ≡ len

  abbrev gives : ℕ → BitRow → BitRow → Type 0
  gives n x y = IsNeededRow (Gen n) (Kill n) x y

  -- ---- no more than that

  record Comes (n v : ℕ) : Type 0 where
    from : ℕ
    edge : HasEdge edges from n
    needed : Needed edges Gen Kill v from

  abbrev Fits : Place → BitRow → Type 0
  Fits (into n) x = (v : ℕ) → Holds x v → Comes n v
  Fits (value_of n) x = (v : ℕ) → Holds x v → Needed edges Gen Kill v n

  nothing_fits : (p : Place) (x : BitRow) → ((v : ℕ) → Holds x v → ⊥) → Fits p x
  nothing_fits (into n) x none = λ v h. absurd (none v h)
  nothing_fits (value_of n) x none = λ v h. absurd (none v h)

  both_fit : (p : Place) (x y z : BitRow) → ((v : ℕ) → Holds z v → Holds x v ⊎ Holds y v) → Fits p x → Fits p y → Fits p z
  both_fit (into n) x y z union one two = λ v h. elim (union v h) [ inl k ↦ one v k | inr k ↦ two v k ]
  both_fit (value_of n) x y z union one two = λ v h. elim (union v h) [ inl k ↦ one v k | inr k ↦ two v k ]

  module _ (nothing : BitRow) (empty_len : nothing.len ≡ len) (empty : (v : ℕ) → Holds nothing v → ⊥) where
    derivable_fits : {p : Place} {x : BitRow} → Derivable IsOwn IsSubset gives edges p x → Fits p x
    derivable_fits (least p x l) = nothing_fits p x (λ v h. empty v (l.least nothing empty_len v h))
    derivable_fits (flows m n x e d) = λ v h. record { from = m; edge = e; needed = derivable_fits d v h }
    derivable_fits (steps n y z d o g) = λ v h. elim ((g v).0 h) [
      | inl k ↦ itself n k
      | inr k ↦ let c = derivable_fits d v k.0 in behind n c.from c.edge k.1 c.needed
    ]
    derivable_fits (joins p x y z d e j) =
        both_fit p x y z (λ v h. (join_is_union len x y z (derivable_own IsOwn IsSubset gives edges d) (derivable_own IsOwn IsSubset gives edges e) j v).0 h) (derivable_fits d) (derivable_fits e)

    -- ---- no less

    module _ (solution : IsSolution IsOwn IsSubset gives nodes edges values) (derived : AreDerived IsOwn IsSubset gives edges values) where
      value_at : (m n : ℕ) → HasEdge edges m n → (y : BitRow) × (slice_get values m ≡ Some y)
      value_at m n e = at_index values m (let lt : m < nodes = within m n e in let size = solution.each_node in omega (arith, lt, size))

      held : (v : ℕ) {n : ℕ} → Needed edges Gen Kill v n → (x : BitRow) → slice_get values n ≡ Some x → Holds x v
      held v (itself n own) x at = let s = solution.at_least_step n x at in s.2 v ((s.1.given v).1 (inl own))
      held v (behind n m e stays needed) x at =
          let s = solution.at_least_step n x at in
          let y = value_at m n e in
          s.2 v ((s.1.given v).1 (inr (s.1.joined.above m y.0 e y.1 v (held v needed y.0 y.1), stays)))

      -- a value has what is needed from its node on
      pub rows_are_needed : (n : ℕ) (x : BitRow) → slice_get values n ≡ Some x → (v : ℕ) → Holds x v ↔ Needed edges Gen Kill v n
      rows_are_needed n x at v = (derivable_fits (derived n x at) v, λ h. held v h x at)
