use Rattle.std.proofs.Common.{◌≡◌, ◌<◌, ℕ, length}
use Rattle.std.specs.Prelude.{◌↔◌}
use Rattle.pw_fix.specs.Row.{Holds}
use Rattle.pw_clusters.specs.Clusters.{IsInner}
use Rattle.pw_cluster_roots.proofs.inner.inner_of.Given as goal

abbrev pub invariant-loop-place : goal.invariant-loop-place
invariant-loop-place l = record { width : l.inner.len ≡ length l.graph.functions; holds : (f : ℕ) → Holds l.inner f ↔ ((f < l.place) × IsInner l.summaries l.graph f) }
