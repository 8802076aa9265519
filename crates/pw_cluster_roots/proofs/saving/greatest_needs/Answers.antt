use Rattle.std.proofs.Common.{◌≡◌, ◌∙◌, ◌+◌, ◌<◌, ℕ, List, length, take, get_or, max, ap, subst, sym}
use Rattle.std.specs.Prelude.{slice_index}
use Rattle.pw_webs.proofs.WalkLaws.{item_at}
use Rattle.pw_clusters.specs.Saving.{need_in}
use Rattle.pw_cluster_roots.proofs.Lists.{written_back}
use Rattle.pw_cluster_roots.proofs.NeedLaws.{adds, next_needs}
use Rattle.pw_cluster_roots.proofs.saving.greatest_needs.Goals as goal

pub loop-place-preserved : goal.loop-place-preserved
loop-place-preserved c =
    let roots = c.args.roots.now in
    let needs = c.args.needs.now in
    let i = c.loop-place.place in
    let root : ℕ = get_or roots i 0 in
    let need : ℕ = get_or needs i 0 in
    let old = c.loop-place.most.items in
    let news = c.raise.new.most in
    let value = c.deref_mut.ensures.value in
    let count = c.raise.ensures.count ∙ ap (λ (xs : List ℕ). length xs) value in
    let lt = c.loop-place-test.true in
    let also = subst (λ (n : ℕ). i < n) (sym c.requires.count) lt in
    let back = written_back c.loop-place.most.len news _ (c.loop-place.most.ok.0 ∙ sym count) in (
      subst (λ (xs : List ℕ). length xs ≡ length roots) (sym back) (count ∙ c.loop-place.invariant.0),
      λ r. subst (λ (xs : List ℕ). slice_index xs r ≡ need_in (take (i + 1) roots) (take (i + 1) needs) r) (sym back)
          (c.raise.ensures.most r ∙ ap (λ (xs : List ℕ). max (adds r i root need) (slice_index xs r)) value ∙ ap (max (adds r i root need)) (c.loop-place.invariant.1 r)
          ∙ sym (next_needs roots needs i root need r c.requires.count lt (item_at roots i 0 lt) (item_at needs i 0 also))),
    )
