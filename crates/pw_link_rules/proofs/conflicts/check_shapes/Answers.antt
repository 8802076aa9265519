use Rattle.std.proofs.Common.{◌++◌, List, ℕ, map, subst, ap, inr, ◌∙◌}
use Rattle.std.specs.List.{flat_map}
use Rattle.std.specs.List.Sorted.{IsPermutation}
use Rattle.pw_link_rules.specs.declared.interface.Interface.{Interface}
use Rattle.pw_link_rules.specs.Linking.{declared_in}
use Rattle.pw_link_rules.specs.Entries.{declaration}
use Rattle.pw_link_rules.proofs.Sorted.{get_mapped, mapped_within}
use Rattle.pw_link_rules.proofs.Clashes.{told_conflict, none_in_conflict}
use Rattle.pw_link_rules.proofs.conflicts.check_shapes.Goals as goal

pub returns-in-Some : goal.returns-in-Some
returns-in-Some c =
    let modules = c.args.modules.now in
    let all = c.sorted-all.result.items in
    let source = c.in_ok-declarations.ensures ∙ ap (λ (i : Interface). declared_in i ++ flat_map declared_in modules) c.requires in
    let perm = subst (λ (ds : List (List ℕ × List ℕ × List ℕ)). IsPermutation ds (map declaration all)) source c.sorted-all.ensures.same in
    let first = rw (c.deref.ensures.value, ← c.in-Some.i-is, ← c.in-Some.j-is) at c.in-Some.ensures in
    let low = mapped_within declaration all c.in-Some.i first.two.low first.two.at_low in
    let high = mapped_within declaration all c.in-Some.j first.two.high first.two.at_high in
    inr (told_conflict modules (map declaration all) c.in-Some.i c.in-Some.j perm c.sorted-all.ensures.order first (declaration c.index.result.now) (declaration c.index-in-Some.result.now)
    (get_mapped declaration all c.in-Some.i c.index.result.now low c.index.ensures) (get_mapped declaration all c.in-Some.j c.index-in-Some.result.now high c.index-in-Some.ensures) c.in_ok-told-in-Some.field-0 c.in_ok-told-in-Some.ensures)

pub returns : goal.returns
returns c =
    let modules = c.args.modules.now in
    let all = c.sorted-all.result.items in
    let source = c.in_ok-declarations.ensures ∙ ap (λ (i : Interface). declared_in i ++ flat_map declared_in modules) c.requires in
    let perm = subst (λ (ds : List (List ℕ × List ℕ × List ℕ)). IsPermutation ds (map declaration all)) source c.sorted-all.ensures.same in
    none_in_conflict modules (map declaration all) perm (rw c.deref.ensures.value at c.in-None.ensures)
