-- How large shifted fields are.
use Rattle.std.proofs.Common.{ℕ, ◌+◌, ◌-◌, ◌*◌, ◌^◌, ◌%◌, ◌<◌, ◌≤◌, arith}
use Rattle.std.proofs.Math.Nat.{mul-lt-mul_of_pos_right, mod-lt}
use Rattle.std.proofs.Math.Pow.{pow_mono}
use Rattle.std.proofs.lemmas.Nat.{pow-add, pow_pos}

-- `len` bits that are moved left by 31 - p still fit a word
pub deposited_small : (word p len : ℕ) → p < 32 → len ≤ p + 1 → word % 2 ^ len * 2 ^ (31 - p) < 2 ^ 32
deposited_small word p len place short =
    let low : word % 2 ^ len < 2 ^ len = mod-lt word (pow_pos len) in
    let moved : word % 2 ^ len * 2 ^ (31 - p) < 2 ^ len * 2 ^ (31 - p) = mul-lt-mul_of_pos_right low (pow_pos (31 - p)) in
    let e : len + (31 - p) ≤ 32 = omega arith in
    let top : 2 ^ (len + (31 - p)) ≤ 2 ^ 32 = pow_mono e in
    omega (arith, moved, top, pow-add 2 len (31 - p))
