use Rattle.std.proofs.Common.{◌++◌, ◌+◌, List, ℕ, map, subst, ap, inr, ◌∙◌}
use Rattle.std.specs.List.{flat_map}
use Rattle.std.specs.List.Sorted.{IsPermutation}
use Rattle.pw_link_rules.specs.declared.interface.Interface.{Interface}
use Rattle.pw_link_rules.specs.Linking.{defined_in}
use Rattle.pw_link_rules.specs.Entries.{definition}
use Rattle.pw_link_rules.proofs.Sorted.{get_mapped, mapped_within}
use Rattle.pw_link_rules.proofs.Twice.{told_twice, none_twice}
use Rattle.pw_link_rules.proofs.duplicates.check_once.Goals as goal

pub returns-in-Some : goal.returns-in-Some
returns-in-Some c =
    let modules = c.args.modules.now in
    let all = c.sorted-all.result.items in
    let source = c.in_ok-definitions.ensures ∙ ap (λ (i : Interface). defined_in i ++ flat_map defined_in modules) c.requires in
    let perm = subst (λ (ds : List (List ℕ × List ℕ)). IsPermutation ds (map definition all)) source c.sorted-all.ensures.same in
    let first = rw c.deref.ensures.value at c.in-Some.ensures in
    let low = mapped_within definition all c.in-Some.i first.two.low first.two.at_low in
    let high = mapped_within definition all (c.in-Some.i + 1) first.two.high first.two.at_high in
    inr (told_twice modules (map definition all) c.in-Some.i perm c.sorted-all.ensures.order first (definition c.index.result.now) (definition c.index-in-Some.result.now)
    (get_mapped definition all c.in-Some.i c.index.result.now low c.index.ensures) (get_mapped definition all (c.in-Some.i + 1) c.index-in-Some.result.now high c.index-in-Some.ensures) c.in_ok-told-in-Some.field-0 c.in_ok-told-in-Some.ensures)

pub returns : goal.returns
returns c =
    let modules = c.args.modules.now in
    let all = c.sorted-all.result.items in
    let source = c.in_ok-definitions.ensures ∙ ap (λ (i : Interface). defined_in i ++ flat_map defined_in modules) c.requires in
    let perm = subst (λ (ds : List (List ℕ × List ℕ)). IsPermutation ds (map definition all)) source c.sorted-all.ensures.same in
    none_twice modules (map definition all) perm (rw c.deref.ensures.value at c.in-None.ensures)
