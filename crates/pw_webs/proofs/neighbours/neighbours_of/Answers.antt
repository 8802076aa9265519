use Rattle.std.proofs.Common.{◌⊎◌, ◌∙◌, ℕ, List, ap, length, subst}
use Rattle.std.specs.Prelude.{◌↔◌}
use Rattle.pw_webs.specs.Walking.{Leads}
use Rattle.pw_webs.proofs.RegionLaws.{steps_callees}
use Rattle.pw_webs.proofs.Beside.{callers_of_graph, both_of_graph}
use Rattle.pw_webs.proofs.neighbours.neighbours_of.Goals as goal

pub callers_of-requires-clause-steps : goal.callers_of-requires-clause-steps
callers_of-requires-clause-steps c = steps_callees c.args.graph.now c.requires c.as_slice-callees.result.now c.as_slice-callees.ensures

pub returns : goal.returns
returns c =
    let g = c.args.graph.now in
    let callers = c.in_ok-callers.callers.items in
    let both = c.in_ok-both.both.items in
    let same = c.as_slice-callees.ensures in
    let are = subst (λ (rs : List (List ℕ)). (a b : ℕ) → Leads callers a b ↔ Leads rs b a) same c.in_ok-callers.ensures.callers in
    let seen = subst (λ (rs : List (List ℕ)). (a b : ℕ) → Leads both a b ↔ (Leads c.as_slice-callees.result.now a b ⊎ Leads rs a b)) c.deref.ensures.value c.in_ok-both.ensures.either in
    let is = subst (λ (rs : List (List ℕ)). (a b : ℕ) → Leads both a b ↔ (Leads rs a b ⊎ Leads callers a b)) same seen in
    record {
      callees = same;
      callers = callers_of_graph g callers are;
      both = both_of_graph g callers both are is;
      count_callers = c.in_ok-callers.ensures.count ∙ ap length same ∙ c.requires.call_rows;
      count_both = c.in_ok-both.ensures.count ∙ ap length same ∙ c.requires.call_rows;
    }
