-- Lists of rows after a change of one row.
use Rattle.std.proofs.Common.{◌≡◌, ℕ, ◌<◌, List, length, Some, sym, subst, inl, inr, ◌⊎◌, ◌↔◌, set, ◌∙◌}
use Rattle.std.specs.Prelude.{slice_get}
use Rattle.std.proofs.lemmas.Bool.{cases_eq}
use Rattle.std.proofs.lemmas.Option.{same_Some, slice_get_within}
use Rattle.pw_fix.specs.Row.{Holds}
use Rattle.pw_fix.specs.declared.bit_row.BitRow.{BitRow}
use Rattle.pw_fix.proofs.Places.{set_cases, slice_get-set_same, slice_get-set_other}

-- row m of the list holds k
abbrev pub RowHolds : List BitRow → ℕ → ℕ → Type 0
RowHolds rows m k = (row : BitRow) × (slice_get rows m ≡ Some row) × Holds row k

-- the row at n is the only one that can hold there
pub row_at : (rows : List BitRow) (n k : ℕ) (row : BitRow) → slice_get rows n ≡ Some row → RowHolds rows n k → Holds row k
row_at rows n k row e h = subst (λ r. Holds r k) (same_Some h.0 row (sym h.1 ∙ e)) h.2

pub insert_row : (rows : List BitRow) (n i : ℕ) (old new : BitRow) → slice_get rows n ≡ Some old → ((k : ℕ) → Holds new k ↔ ((k ≡ i) ⊎ Holds old k)) → (m k : ℕ) → RowHolds (set rows n new) m k ↔ (((m ≡ n) × (k ≡ i)) ⊎ RowHolds rows m k)
insert_row rows n i old new e holds m k =
    let there : n < length rows = slice_get_within rows n old e in (
      (λ h. elim (set_cases rows n m new h.0 h.1) [
        | inl w ↦ elim ((holds k).0 (subst (λ r. Holds r k) w.1 h.2)) [
          | inl same ↦ inl (w.0, same)
          | inr had ↦ inr (old, rw w.0 e, had)
        ]
        | inr w ↦ inr (h.0, w.1, h.2)
      ]),
      elim [
        | inl w ↦ (new, rw w.0 (slice_get-set_same rows n new there), (holds k).1 (inl w.1))
        | inr h ↦ elim (cases_eq m n) [
          | inl same ↦ (new, rw same (slice_get-set_same rows n new there), (holds k).1 (inr (row_at rows n k old e (rw same at h))))
          | inr other ↦ (h.0, slice_get-set_other rows n m new other ∙ h.1, h.2)
        ]
      ],
    )
