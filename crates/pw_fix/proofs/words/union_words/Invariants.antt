use Rattle.std.proofs.Common.{◌≡◌, ℕ, ◌<◌, ◌≤◌, ◌^◌, get_or}
use Rattle.std.specs.Prelude.{bit_or}
use Rattle.std.specs.Bool.{OnTrue, OnFalse}
use Rattle.pw_fix.specs.Words.{HasBit}
use Rattle.pw_fix.proofs.words.union_words.Given as goal

abbrev pub invariant-loop-k : goal.invariant-loop-k
invariant-loop-k l = record {
  done : (j : ℕ) → j < l.k → get_or l.into j 0 ≡ bit_or (get_or l.fn.into j 0) (get_or l.from j 0);
  rest : (j : ℕ) → l.k ≤ j → get_or l.into j 0 ≡ get_or l.fn.into j 0;
  changed : OnTrue l.changed ((i : ℕ) × HasBit l.from i × ¬ (HasBit l.fn.into i));
  unchanged : OnFalse l.changed (l.into ≡ l.fn.into);
  fits : (j : ℕ) → get_or l.fn.into j 0 < 2 ^ 64;
}
