-- A count that is told as far as 64 bits can tell it keeps a limit where the count itself does.
use Rattle.std.proofs.Common.{◌≡◌, ◌<◌, ◌-◌, ◌^◌, ℕ, nat_lt, nat_le, not, Option, [], ◌∷◌, ap, ◌∙◌, arith}
use Rattle.std.proofs.lemmas.Bool.Decides.{nat_tests}
use Rattle.pw_value.specs.Caps.{capped}
use Rattle.pw_check_walk.specs.declared.constraints.CheckFault.{CheckFault}
use Rattle.pw_check_walk.specs.declared.constraints.CheckKind.TheVariants.{Limit}
use Rattle.pw_check_walk.specs.declared.constraints.Which.{Which}
use Rattle.pw_check_walk.specs.Causes.{keeps}
use Rattle.pw_check_walk.specs.Found.{found_behind, with_cause}

capped_kept : (most n : ℕ) → most < 2 ^ 64 - 1 → not (nat_le (capped n) most) ≡ nat_lt most n
capped_kept most n less = grind (arith, nat_tests)

pub kept : (best : Option CheckFault) (limit : Which) (most token count n : ℕ) → most < 2 ^ 64 - 1 → count ≡ capped n
    → with_cause best (not (nat_le count most)) (record { kind = Limit limit count; token = token }) ≡ found_behind best (keeps limit most token n ∷ [])
kept best limit most token count n less is =
    ap (λ k. with_cause best (not (nat_le k most)) (record { kind = Limit limit k; token = token })) is
    ∙ ap (λ b. with_cause best b (record { kind = Limit limit (capped n); token = token })) (capped_kept most n less)
