use Rattle.std.proofs.Common.{◌≡◌, ◌∙◌, ℕ, List, ap, length, subst, sym}
use Rattle.std.specs.Prelude.{◌↔◌}
use Rattle.pw_graph.specs.CallGraph.{Calls}
use Rattle.pw_webs.specs.Walking.{Leads}
use Rattle.pw_webs.proofs.RegionLaws.{steps_callees}
use Rattle.pw_webs.proofs.Beside.{callers_of_graph}
use Rattle.pw_cluster_roots.proofs.RootLaws.{may_be, roots_of}
use Rattle.pw_cluster_roots.proofs.roots.find_roots.Goals as goal

pub callers_of-requires-clause-steps : goal.callers_of-requires-clause-steps
callers_of-requires-clause-steps c = steps_callees c.args.graph.now c.requires.graph c.as_slice.result.now c.as_slice.ensures

pub inner_of-requires-clause-callers : goal.inner_of-requires-clause-callers
inner_of-requires-clause-callers c =
    let g = c.args.graph.now in
    let callers = c.in_ok-callers.callers.items in
    subst (λ (rs : List (List ℕ)). (a b : ℕ) → Leads rs a b ↔ Calls g b a) (sym c.deref.ensures.value)
    (callers_of_graph g callers (subst (λ (rs : List (List ℕ)). (a b : ℕ) → Leads callers a b ↔ Leads rs b a) c.as_slice.ensures c.in_ok-callers.ensures.callers))

pub roots_among-requires-clause-callers : goal.roots_among-requires-clause-callers
roots_among-requires-clause-callers c =
    let g = c.args.graph.now in
    let callers = c.in_ok-callers.callers.items in
    subst (λ (rs : List (List ℕ)). (a b : ℕ) → Leads rs a b ↔ Calls g b a) (sym c.deref-2.ensures.value)
    (callers_of_graph g callers (subst (λ (rs : List (List ℕ)). (a b : ℕ) → Leads callers a b ↔ Leads rs b a) c.as_slice.ensures c.in_ok-callers.ensures.callers))

pub roots_among-requires-clause-inner : goal.roots_among-requires-clause-inner
roots_among-requires-clause-inner c = may_be c.args.summaries.now c.args.graph.now c.in_ok-inner.inner c.in_ok-inner.ensures

pub returns : goal.returns
returns c = roots_of c.args.summaries.now c.args.graph.now c.in_ok-inner.inner c.roots_among.result c.in_ok-inner.ensures c.roots_among.ensures
