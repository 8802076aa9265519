-- Registers that a callee keeps, each list rising.
use Rattle.std.proofs.Common.{ℕ, suc, ◌+◌, ◌≤◌, List, [], ◌∷◌, length, subst, arith, inl, inr}
use Rattle.pw_files.proofs.Standing.{Has}
use Rattle.pw_db.specs.Limits.{last_register}
use Rattle.pw_db.specs.Database.{AreKeptFrom}

pub kept_from : (least : ℕ) (rs : List ℕ) (r : ℕ) → AreKeptFrom least rs → Has r rs → (least ≤ r) × (r ≤ last_register)
kept_from least [] r all h = absurd h
kept_from least (q ∷ rs) r all (inl e) = (subst (λ (n : ℕ). least ≤ n) e all.0, subst (λ (n : ℕ). n ≤ last_register) e all.1)
kept_from least (q ∷ rs) r all (inr h) = let k = kept_from (suc q) rs r all.2 h in let low = all.0 in (omega (arith, k.0, low), k.1)

-- there are not many
pub few_kept : (least : ℕ) (rs : List ℕ) → least ≤ last_register + 1 → AreKeptFrom least rs → length rs + least ≤ last_register + 1
few_kept least [] low all = omega (arith, low)
few_kept least (q ∷ rs) low all = let high = all.1 in let few = few_kept (suc q) rs (omega (arith, high)) all.2 in let up = all.0 in omega (arith, few, up)
