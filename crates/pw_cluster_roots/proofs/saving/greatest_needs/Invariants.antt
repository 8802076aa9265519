use Rattle.std.proofs.Common.{◌≡◌, ℕ, take, length}
use Rattle.std.specs.Prelude.{slice_index}
use Rattle.pw_clusters.specs.Saving.{need_in}
use Rattle.pw_cluster_roots.proofs.saving.greatest_needs.Given as goal

abbrev pub invariant-loop-place : goal.invariant-loop-place
invariant-loop-place l = (length l.most.items ≡ length l.roots) × ((r : ℕ) → slice_index l.most.items r ≡ need_in (take l.place l.roots) (take l.place l.needs) r)
