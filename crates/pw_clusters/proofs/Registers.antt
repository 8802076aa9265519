-- The last registers.
use Rattle.std.proofs.Common.{◌≡◌, ◌⊎◌, ℕ, zero, suc, ◌+◌, ◌-◌, ◌≤◌, ◌<◌, ◌==◌, Bool, true, false, if◌then◌else◌, List, [], refl, arith, inl, inr}
use Rattle.std.specs.Prelude.{Contains}
use Rattle.std.specs.List.{range_with_len}
use Rattle.pw_files.proofs.Standing.{Has, has_by}
use Rattle.pw_db.specs.Limits.{first_register, last_register, colour_limit}
use Rattle.pw_summary.specs.Summary.{need_limit}
use Rattle.pw_clusters.specs.Saving.{last_registers, saves_by, free_by}

within : (a n r : ℕ) → Has r (range_with_len a n) → (a ≤ r) × (r < a + n)
within a zero r h = absurd h
within a (suc n) r (inl e) = (omega (arith, e), omega (arith, e))
within a (suc n) r (inr h) = let k = within (a + 1) n r h in (omega (arith, k.0), omega (arith, k.1))

pub kept : (k r : ℕ) → k ≤ need_limit → Contains (last_registers k) r → (first_register ≤ r) × (r ≤ last_register)
kept k r le c = let w = within (last_register + 1 - k) k r (has_by r (last_registers k) c) in (omega (arith, le, w.0), omega (arith, le, w.1))

pub above_webs : (k r : ℕ) → k ≤ need_limit → Contains (last_registers k) r → first_register + colour_limit ≤ r
above_webs k r le c = let w = within (last_register + 1 - k) k r (has_by r (last_registers k) c) in omega (arith, le, w.0)

either : (b : Bool) (rs : List ℕ) → ((if b then rs else []) ≡ []) ⊎ ((if b then [] else rs) ≡ [])
either true rs = inr refl
either false rs = inl refl

pub apart : (f root k : ℕ) → (saves_by f root k ≡ []) ⊎ (free_by f root k ≡ [])
apart f root k = either (root == f) (last_registers k)
