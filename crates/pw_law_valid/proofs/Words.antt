-- Numbers below the limit on tokens are words.
use Rattle.std.specs.Prelude.{ℕ, ◌≤◌, All}
use Rattle.std.proofs.Common.{arith}
use Rattle.pw_token.specs.Limits.{token_limit}
use Rattle.pw_types.specs.TypedTrees.{Symbol, External, Internal, Hidden, ModuleValue}
use Rattle.pw_law_checked.specs.Names.{HasWord, AreNumbered}
use Rattle.pw_law_valid.specs.Numbered.{IsNumberedBelow}

below_word : (n : ℕ) (s : Symbol) → n ≤ token_limit → IsNumberedBelow n s → HasWord s
below_word n (External name) few below = tt
below_word n (Internal name) few below = tt
below_word n (Hidden k) few below = omega (arith, few, below)

pub all_words : (n : ℕ) (m : ModuleValue) → n ≤ token_limit → All (λ g. IsNumberedBelow n g.name) m.globals → AreNumbered m
all_words n m few h = λ k d below. below_word n _ few (h k d below)
