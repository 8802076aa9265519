-- Joins of what is known, and how far up it is.
use Rattle.std.specs.Prelude.{ℕ, ◌≡◌, ◌==◌, if◌then◌else◌, Bool, true, List, length, sum_by}
use Rattle.pw_opt_rules.specs.declared.flat.Flat.{Flat}
use Rattle.pw_opt_rules.specs.declared.flat.Flat.TheVariants.{Bottom, One, Many}
use Rattle.pw_opt_rules.specs.Rows.{known}

-- what is known where two paths meet
abbrev pub joined : Flat → Flat → Flat
joined Bottom y = y
joined (One a) Bottom = One a
joined (One a) (One b) = if a == b then One a else Many
joined (One a) Many = Many
joined Many y = Many

abbrev pub flat_rank : Flat → ℕ
flat_rank Bottom = 0
flat_rank (One a) = 1
flat_rank Many = 2

abbrev pub row_rank : List Flat → ℕ
row_rank row = sum_by flat_rank row

-- the row has no one thing but what a temporary may have
abbrev pub HasWhatMay : (ℕ → ℕ → Bool) → List Flat → Type 0
HasWhatMay may row = (t n : ℕ) → known row t ≡ One n → may t n ≡ true

-- a row of so many temporaries that has what they may have
abbrev pub IsOwnRow : (ℕ → ℕ → Bool) → ℕ → List Flat → Type 0
IsOwnRow may temps row = (length row ≡ temps) × HasWhatMay may row
