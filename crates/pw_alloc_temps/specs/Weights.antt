-- The weight of a temporary: how often it is used and defined, by how deep in loops that is.
use Rattle.std.specs.Prelude.{ℕ, zero, suc, ◌+◌, ◌*◌, ◌^◌, min, ◌==◌, if◌then◌else◌, nat_lt, List, [], ◌∷◌, sum_by}
use Rattle.std.specs.List.{count_by}
use Rattle.pw_flow.specs.Outline.{Act, Stretch, Outline}
use Rattle.pw_live.specs.Liveness.{is_that}

-- each operand counts, and the result
abbrev pub counted_in : ℕ → Act → ℕ
counted_in t a = count_by (λ u. u == t) a.uses + (if is_that a.defines t then 1 else 0)

-- from that depth on deeper loops count no more
abbrev pub depth_limit : ℕ
depth_limit = 4

abbrev pub weight_in : ℕ → Stretch → ℕ
weight_in t s = 8 ^ (min depth_limit s.depth) * (sum_by (counted_in t) s.acts + count_by (λ u. u == t) s.uses)

-- the start of the function counts once for each parameter
abbrev pub weight : Outline → ℕ → ℕ
weight f t = sum_by (weight_in t) f.blocks + (if nat_lt t f.params then 1 else 0)

-- the temporaries by weight downward, then by number upward: so many from one on
abbrev pub put_by_weight : Outline → ℕ → List ℕ → List ℕ
put_by_weight f t [] = t ∷ []
put_by_weight f t (u ∷ rest) = if nat_lt (weight f t) (weight f u) then u ∷ put_by_weight f t rest else t ∷ u ∷ rest

abbrev pub by_weight : Outline → ℕ → ℕ → List ℕ
by_weight f t zero = []
by_weight f t (suc more) = put_by_weight f t (by_weight f (suc t) more)
