-- The registers that a root saves for its cluster: the last of those that a callee keeps, as many as the member needs that
-- needs most. The members are free to use them; every other function neither saves nor has free any.
use Rattle.std.specs.Prelude.{ℕ, suc, ◌≡◌, Some, slice_get, ◌+◌, ◌-◌, ◌==◌, ◌&&◌, not, if◌then◌else◌, max, List, [], ◌∷◌, slice_index}
use Rattle.std.specs.List.{range_with_len}
use Rattle.pw_db.specs.Limits.{last_register}
use Rattle.pw_clusters.specs.Clusters.{IsMember}

-- the greatest need among the members of the cluster of a root, where functions stand from a place on, each with its root and
-- its need
abbrev pub greatest_need : ℕ → ℕ → List ℕ → List ℕ → ℕ
greatest_need r f [] needs = 0
greatest_need r f (root ∷ roots) [] = greatest_need r (suc f) roots []
greatest_need r f (root ∷ roots) (n ∷ needs) =
    max (if (root == r) && not (f == r) then n else 0) (greatest_need r (suc f) roots needs)

-- so many registers, the last ones
abbrev pub last_registers : ℕ → List ℕ
last_registers k = range_with_len (last_register + 1 - k) k

-- what a function saves, by its place, its own root, and the greatest need of the members of its root's cluster
abbrev pub saves_by : ℕ → ℕ → ℕ → List ℕ
saves_by f root k = if root == f then last_registers k else []

abbrev pub free_by : ℕ → ℕ → ℕ → List ℕ
free_by f root k = if root == f then [] else last_registers k

-- some member of the root's cluster needs so many
pub record IsNeed (roots needs : List ℕ) (r n : ℕ) : Type 0 where
  pub member : ℕ
  pub is : IsMember roots r member
  pub need : slice_get needs member ≡ Some n

-- both of each function, where all have their roots and their needs by their places
abbrev pub need_in : List ℕ → List ℕ → ℕ → ℕ
need_in roots needs root = greatest_need root 0 roots needs

abbrev pub saves_at : List ℕ → List ℕ → ℕ → List ℕ
saves_at roots needs f = saves_by f (slice_index roots f) (need_in roots needs (slice_index roots f))

abbrev pub free_at : List ℕ → List ℕ → ℕ → List ℕ
free_at roots needs f = free_by f (slice_index roots f) (need_in roots needs (slice_index roots f))
