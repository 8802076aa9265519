use Rattle.std.proofs.Common.{◌≡◌, ◌<◌, ◌∙◌, ℕ, All, List, ap, length, subst, sym}
use Rattle.std.specs.Prelude.{slice_index}
use Rattle.std.proofs.lemmas.Result.{IfOk-weaker}
use Rattle.pw_clusters.specs.Clusters.{AreRoots}
use Rattle.pw_clusters.specs.Saving.{need_in}
use Rattle.pw_colour.specs.Giving.{AreClusters}
use Rattle.pw_colour.proofs.Clustering.{roots_fit}
use Rattle.pw_colour.proofs.analysing.database_of.Goals as goal

pub greatest_needs-requires-clause-count : goal.greatest_needs-requires-clause-count
greatest_needs-requires-clause-count c =
    ap length c.as_slice.ensures ∙ c.requires.graph.need_rows ∙ sym c.in_ok-roots.ensures.each ∙ sym (ap length c.deref.ensures.value)

pub greatest_needs-requires-clause-within : goal.greatest_needs-requires-clause-within
greatest_needs-requires-clause-within c =
    let g = c.args.graph.now in
    let roots = c.in_ok-roots.roots.items in
    subst (λ (rs : List ℕ). All (λ r. r < length rs) rs) (sym c.deref.ensures.value)
    (roots_fit (length g.functions) roots c.in_ok-roots.ensures.each (c.roots_are_one.ensures.within c.args.summaries.now g roots c.requires.of c.in_ok-roots.ensures))

pub database_with-requires-clause-clusters : goal.database_with-requires-clause-clusters
database_with-requires-clause-clusters c =
    let g = c.args.graph.now in
    let roots = c.in_ok-roots.roots.items in
    let most = c.in_ok-needs.needs.items in
    let count : length most ≡ length roots = c.in_ok-needs.ensures.count ∙ ap length c.deref.ensures.value in
    let needs : (r : ℕ) → slice_index most r ≡ need_in roots g.needs r = λ r.
    c.in_ok-needs.ensures.needs r ∙ ap (λ (rs : List ℕ). need_in rs c.as_slice.result.now r) c.deref.ensures.value ∙ ap (λ (ns : List ℕ). need_in roots ns r) c.as_slice.ensures in
    let are : AreClusters g roots most = record {
      each = c.in_ok-roots.ensures.each;
      within = c.roots_are_one.ensures.within c.args.summaries.now g roots c.requires.of c.in_ok-roots.ensures;
      count = count;
      needs = needs;
      few = λ r. c.few_registers_are_saved.ensures.few roots g.needs r c.requires.graph.needs;
    } in
    subst (λ (rs : List ℕ). AreClusters g rs c.deref-3.result.now) (sym c.deref-2.ensures.value) (subst (λ (ns : List ℕ). AreClusters g roots ns) (sym c.deref-3.ensures.value) are)

pub returns-clause-functions : goal.returns-clause-functions
returns-clause-functions c =
    let ss = c.args.summaries.now in
    let are = subst (λ (rs : List ℕ). AreRoots ss c.args.graph.now rs) (sym c.deref-2.ensures.value) c.in_ok-roots.ensures in
    IfOk-weaker c.database_with.result _ _ (λ db h. h ss c.requires.of are) c.database_with.ensures.functions
