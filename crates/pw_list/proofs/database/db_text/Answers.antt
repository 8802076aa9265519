use Rattle.std.proofs.Common.{◌≡◌, ◌++◌, List, ℕ, map, ap, subst, ◌∙◌, rules}
use Rattle.std.specs.List.{flat_map}
use Rattle.std.specs.FinMap as finite
use Rattle.std.specs.List.Sorted.{IsPermutation}
use Rattle.pw_db.specs.declared.database.Role.TheVariants.{Entry, Member}
use Rattle.pw_db.specs.declared.database.Directives.{Directives}
use Rattle.pw_list.specs.DatabaseText.{uses, webs_by_number, webs_text, shared_lines}
use Rattle.pw_list.specs.Gathering.{IsByNumber, lines_from, use_view}
use Rattle.pw_list.proofs.Gathered.{Uses, text_is}
use Rattle.pw_list.proofs.database.db_text.Goals as goal

pub returns : goal.returns
returns c =
    let fs = c.args.db.now.functions in
    let es = map use_view c.in_ok-by_number.field-0.items in
    let ms = map use_view c.in_ok-by_number-2.field-0.items in
    let entries : map use_view c.in_ok-entries.field-0.entries.items ≡ uses Entry fs = search rules in
    let members : map use_view c.in_ok-entries.field-0.members.items ≡ uses Member fs = search rules in
    let webs = c.in_ok-webs.ensures ∙ ap (λ (gs : List (List ℕ × Directives)). finite.entries (webs_by_number gs)) c.as_slice-functions.ensures in
    let lines = text_is fs c.in_ok-webs.webs.entries es ms webs
    (subst (λ (us : Uses). IsByNumber us es) entries c.in_ok-by_number.ensures.order) (subst (λ (us : Uses). IsByNumber us ms) members c.in_ok-by_number-2.ensures.order)
    (subst (λ (us : Uses). IsPermutation us es) entries c.in_ok-by_number.ensures.same) (subst (λ (us : Uses). IsPermutation us ms) members c.in_ok-by_number-2.ensures.same) in
    let done : c.push_webs.new.out.items ≡ webs_text fs = c.in_ok-push_webs.ensures ∙ ap (λ (xs : List ℕ). xs ++ lines_from (map (λ e. e.1.now) c.in_ok-webs.webs.entries) es ms) c.new-text.ensures.items ∙ lines in
    c.in_ok-push_shared.ensures ∙ ap (λ (xs : List ℕ). xs ++ flat_map shared_lines c.as_slice-functions.result.now) done
    ∙ ap (λ (gs : List (List ℕ × Directives)). webs_text fs ++ flat_map shared_lines gs) c.as_slice-functions.ensures
