use Rattle.std.proofs.Common.{◌≡◌, map, take}
use Rattle.pw_cluster_roots.specs.Inner.{all_defined}
use Rattle.pw_cluster_roots.proofs.inner.defined_names.Given as goal

abbrev pub invariant-loop-each : goal.invariant-loop-each
invariant-loop-each l = map (λ n. n.now) l.names.items ≡ all_defined (take l.each-index l.summaries)
