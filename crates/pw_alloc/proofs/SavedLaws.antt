-- Laws of saved registers.
use Rattle.std.proofs.Common.{ℕ, ◌+◌, ◌≤◌, ◌<◌, List, [], ◌∷◌, length, arith}
use Rattle.std.specs.List.{AllByRecursion}
use Rattle.pw_db.specs.Database.{EachTwo}
use Rattle.pw_db.specs.Limits.{first_register, last_register, register_count}
use Rattle.pw_webflow.specs.declared.web.WebFn.{WebFn}
use Rattle.pw_alloc.specs.ValidPlaces.{IsSaved}

-- numbers that rise, from one on and below another
pub few_between : (low high : ℕ) (rs : List ℕ) → low ≤ high → AllByRecursion (λ r. low ≤ r) rs → AllByRecursion (λ r. r < high) rs → EachTwo (λ r q. r < q) rs → length rs + low ≤ high
few_between low high [] le above below rising = omega (arith, le)
few_between low high (r ∷ rs) le above below rising =
    omega (arith, above.0, few_between (r + 1) high rs (omega (arith, below.0)) (next rs rising.0) below.1 rising.1)
  where
    next : (qs : List ℕ) → AllByRecursion (λ q. r < q) qs → AllByRecursion (λ q. r + 1 ≤ q) qs
    next [] h = tt
    next (q ∷ qs) h = (omega (arith, h.0), next qs h.1)

all_low : (rs : List ℕ) → AllByRecursion (λ r. (first_register ≤ r) × (r ≤ last_register)) rs → AllByRecursion (λ r. first_register ≤ r) rs
all_low [] h = tt
all_low (r ∷ rs) h = (h.0.0, all_low rs h.1)

all_high : (rs : List ℕ) → AllByRecursion (λ r. (first_register ≤ r) × (r ≤ last_register)) rs → AllByRecursion (λ r. r < last_register + 1) rs
all_high [] h = tt
all_high (r ∷ rs) h = (omega (arith, h.0.1), all_high rs h.1)

pub few_kept : (f : WebFn) (saved : List ℕ) → IsSaved f saved → length saved ≤ register_count
few_kept f saved h =
    omega (arith, few_between first_register (last_register + 1) saved (omega arith) (all_low saved h.kept) (all_high saved h.kept) h.rising)
