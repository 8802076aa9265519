use Rattle.std.proofs.Common.{◌≡◌, ℕ, ◌<◌, get_or}
use Rattle.std.specs.Prelude.{bit_or}
use Rattle.pw_fix.proofs.words.covers_words.Given as goal

abbrev pub invariant-loop-k : goal.invariant-loop-k
invariant-loop-k l = (j : ℕ) → j < l.k → bit_or (get_or l.b j 0) (get_or l.a j 0) ≡ get_or l.b j 0
