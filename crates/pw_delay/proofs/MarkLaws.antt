-- Marks: the first beginning of a block counts.
use Rattle.std.proofs.Common.{◌≡◌, ℕ, ◌+◌, ◌≤◌, ◌==◌, Bool, true, false, if◌then◌else◌, List, [], ◌∷◌, ap, arith}
use Rattle.std.proofs.lemmas.List.Sums.{sum_by-cons}
use Rattle.pw_delay.specs.declared.items.Item.{Item}
use Rattle.pw_delay.specs.declared.items.Item.TheVariants.{Plain, Turns, Mark}
use Rattle.pw_delay.specs.Placement.{size, sizes, words_from, mark_at}

-- a block begins no later than the items end
pub mark_at_within : (long : Bool) (at : ℕ) (items : List Item) (b : ℕ) → mark_at long at items b ≤ at + sizes long items
mark_at_within long at [] b = omega arith
mark_at_within long at (Plain w ∷ rest) b =
    let e = sum_by-cons (size long) (Plain w) rest in
    let h = mark_at_within long (at + size long (Plain w)) rest b in omega arith
mark_at_within long at (Turns turn slot ∷ rest) b =
    let e = sum_by-cons (size long) (Turns turn slot) rest in
    let h = mark_at_within long (at + size long (Turns turn slot)) rest b in omega arith
mark_at_within long at (Mark n ∷ rest) b = by (n == b) (mark_at_within long at rest b)
  where
    all : sizes long (Mark n ∷ rest) ≡ 0 + sizes long rest
    all = sum_by-cons (size long) (Mark n) rest

    by : (t : Bool) → mark_at long at rest b ≤ at + sizes long rest → (if t then at else mark_at long at rest b) ≤ at + sizes long (Mark n ∷ rest)
    by true h = let e = all in omega arith
    by false h = let e = all in omega arith

-- words are the same by tables that are the same
pub words_alike : (long : Bool) (f g : ℕ → ℕ) (at : ℕ) (items : List Item) → ((b : ℕ) → f b ≡ g b) → words_from long f at items ≡ words_from long g at items
words_alike long f g at items same = let e : f ≡ g = λ i b. same b i in ap (λ h. words_from long h at items) e
