use Rattle.std.proofs.Common.{◌≤◌, ℕ, All, take}
use Rattle.pw_opt_places.proofs.places.greatest.Given as goal

abbrev pub invariant-loop-n : goal.invariant-loop-n
invariant-loop-n l = All (λ n. n ≤ l.most) (take l.n-index l.numbers) × ((n : ℕ) → All (λ m. m ≤ n) l.numbers → l.most ≤ n)
