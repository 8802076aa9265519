-- Sizes that 64 bits do not tell.
use Rattle.std.proofs.Common.{◌≡◌, ℕ, ◌≤◌, ◌-◌, ◌^◌, Option, None, Some, option_map, unwrap_or, arith}
use Rattle.pw_value.specs.Caps.{capped}

pub size_beyond : (size : Option ℕ) (n : ℕ) → Some n ≡ option_map capped size → n ≡ 2 ^ 64 - 1 → 2 ^ 64 - 1 ≤ unwrap_or size 0
size_beyond None n e is = absurd (cc)
size_beyond (Some m) n e is =
    let same : n ≡ capped m = cc in
    omega arith
