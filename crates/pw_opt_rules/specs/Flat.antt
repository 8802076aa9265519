-- What is known of a temporary, in order: least is Bottom, where no path leads; then each thing that it may have on every
-- path; greatest is Many.
use Rattle.std.specs.Prelude.{ℕ, ◌≡◌, ◌==◌, Bool, false}
use Rattle.pw_opt_rules.specs.declared.flat.Flat.{Flat}
use Rattle.pw_opt_rules.specs.declared.flat.Flat.TheVariants.{Bottom, One, Many}

abbrev pub IsBelow : Flat → Flat → Type 0
IsBelow Bottom y = Unit {0}
IsBelow (One a) Bottom = ⊥
IsBelow (One a) (One b) = a ≡ b
IsBelow (One a) Many = Unit {0}
IsBelow Many Bottom = ⊥
IsBelow Many (One b) = ⊥
IsBelow Many Many = Unit {0}

-- whether it is that one thing
abbrev pub is_one : ℕ → Flat → Bool
is_one n (One m) = m == n
is_one n x = false

-- what comes of one thing or of two that are known, where nothing comes of what no path has, and anything of what may be
-- anything
abbrev pub of_one : (ℕ → Flat) → Flat → Flat
of_one f Bottom = Bottom
of_one f (One a) = f a
of_one f Many = Many

abbrev pub of_two : (ℕ → ℕ → Flat) → Flat → Flat → Flat
of_two f Bottom y = Bottom
of_two f (One a) Bottom = Bottom
of_two f (One a) (One b) = f a b
of_two f (One a) Many = Many
of_two f Many Bottom = Bottom
of_two f Many (One b) = Many
of_two f Many Many = Many
