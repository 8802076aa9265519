-- What is known at the start: all may be anything.
use Rattle.std.specs.Prelude.{◌≡◌, ◌≢◌, ℕ, suc, ◌<◌, ◌==◌, if◌then◌else◌, Bool, true, false, List, [], ◌∷◌, length, replicate, slice_index_or}
use Rattle.std.proofs.Common.{set, refl, sym, ap, ◌∙◌, arith, inl, inr}
use Rattle.std.proofs.lemmas.Bool.{cases_lt, ne_eqb}
use Rattle.std.proofs.lemmas.List.{get_or_past, get_or-replicate, length-replicate}
use Rattle.pw_opt_rules.specs.declared.flat.Flat.{Flat}
use Rattle.pw_opt_rules.specs.declared.flat.Flat.TheVariants.{Many}
use Rattle.pw_opt_rules.specs.Rows.{known}
use Rattle.pw_opt_rows.specs.Joins.{HasWhatMay, IsOwnRow}
use Rattle.pw_opt_rows.specs.Outflows.{entered}
use Rattle.pw_opt_rows.specs.RowLaws.{one_or_many}

pub all_many : (count t : ℕ) → known (replicate count Many) t ≡ Many
all_many count t = elim (cases_lt t count) [
  | inl lt ↦ get_or-replicate count t Many Many lt
  | inr ge ↦ let size : length (replicate count Many) ≡ count = length-replicate count Many in get_or_past (replicate count Many) t Many (omega (arith, ge, size))
]

many_may : (may : ℕ → ℕ → Bool) (count : ℕ) → HasWhatMay may (replicate count Many)
many_may may count t n e = absurd (one_or_many n (sym (all_many count t) ∙ e))

pub many_own : (may : ℕ → ℕ → Bool) (count : ℕ) → IsOwnRow may count (replicate count Many)
many_own may count = (length-replicate count Many, many_may may count)

-- ---- what is known at the front of a block

pub entered_may : (may : ℕ → ℕ → Bool) (count n : ℕ) (row : List Flat) → HasWhatMay may row → HasWhatMay may (entered count n row)
entered_may may count n row has = by (n == 0)
  where
    by : (c : Bool) → HasWhatMay may (if c then replicate count Many else row)
    by true = many_may may count
    by false = has

no_start : (n : ℕ) → suc n ≢ 0
no_start n e = absurd (omega (arith, e))

-- elsewhere it is what flows in
pub entered_on : (count n : ℕ) (row : List Flat) → entered count (suc n) row ≡ row
entered_on count n row = ap (λ (c : Bool). if c then replicate count Many else row) (ne_eqb (suc n) 0 (no_start n))

-- ---- rows of which the first is at Many

-- the row at a place
abbrev pub row_at : List (List Flat × List Flat) → ℕ → List Flat × List Flat
row_at rows n = slice_index_or rows n ([], [])

pub opened_first : (rows : List (List Flat × List Flat)) (many : List Flat × List Flat) → 0 < length rows → row_at (set rows 0 many) 0 ≡ many
opened_first [] many lt = absurd (omega (arith, lt))
opened_first (row ∷ rows) many lt = refl

pub opened_on : (rows : List (List Flat × List Flat)) (many : List Flat × List Flat) (n : ℕ) → row_at (set rows 0 many) (suc n) ≡ row_at rows (suc n)
opened_on [] many n = refl
opened_on (row ∷ rows) many n = refl
