-- Roots among the functions that may work for others alone are roots.
use Rattle.std.proofs.Common.{ℕ, List, Result, Ok, Err}
use Rattle.std.specs.Prelude.{IfOk}
use Rattle.std.specs.Global.{Vec}
use Rattle.pw_fix.specs.declared.bit_row.BitRow.{BitRow}
use Rattle.pw_summary.specs.declared.summary.Summary.{Summary}
use Rattle.pw_graph.specs.declared.graph.CallGraph.{CallGraph}
use Rattle.pw_clusters.specs.Clusters.{AreRoots}
use Rattle.pw_cluster_roots.specs.Rounds.{AreRootsAmong, MayBeInner}
use Rattle.pw_cluster_roots.specs.Inner.{AreInner}

pub may_be : (ss : List Summary) (g : CallGraph) (inner : BitRow) → AreInner ss g inner → MayBeInner g inner
may_be ss g inner are = record {
  width = are.width;
  called = λ f h. let is = (are.of f).0 h in (is.caller, is.called);
  once = λ f h path. let is = (are.of f).0 h in is.no_cycle path;
}

pub are_roots : (ss : List Summary) (g : CallGraph) (inner : BitRow) (roots : List ℕ) → AreInner ss g inner → AreRootsAmong g inner roots → AreRoots ss g roots
are_roots ss g inner roots are found = record {
  each = found.each;
  of_callers = λ f r is have. found.of_callers f r ((are.of f).1 is) have;
  itself = λ f lt none. found.itself f lt (λ r h have. none r ((are.of f).0 h) have);
}

pub roots_of : {E : Type 0} (ss : List Summary) (g : CallGraph) (inner : BitRow) (r : Result (Vec ℕ) E) → AreInner ss g inner → IfOk r (λ v. AreRootsAmong g inner v.items) → IfOk r (λ v. AreRoots ss g v.items)
roots_of ss g inner (Ok v) are found = are_roots ss g inner v.items are found
roots_of ss g inner (Err e) are found = tt
