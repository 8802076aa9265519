use Rattle.std.proofs.Common.{◌≡◌, ◌<◌, ◌∙◌, [], ℕ, All, List, ap, arith, length, map, subst, sym}
use Rattle.std.specs.Prelude.{Option}
use Rattle.std.proofs.lemmas.Result.{IfOk-weaker}
use Rattle.std.proofs.lemmas.List.Elements.{All-from_recursion}
use Rattle.std.proofs.lemmas.List.Sorted.{length_permutation}
use Rattle.pw_files.proofs.Standing.{Has, each_by, has_map}
use Rattle.pw_db.specs.Database.{EachTwo}
use Rattle.pw_webs.specs.declared.web.RawWeb.{RawWeb}
use Rattle.pw_webs.specs.Webs.{IsSameWeb, IsRawWeb, StandsBefore}
use Rattle.pw_colour.specs.declared.directing.Coloured.{Coloured}
use Rattle.pw_colour.specs.Colours.{numbered, AreColoured}
use Rattle.pw_colour.specs.Giving.{coloured as seen, paired}
use Rattle.pw_colour.proofs.Ranks.{two_at}
use Rattle.pw_colour.proofs.Same.{differ}
use Rattle.pw_colour.proofs.Given.{has_paired}
use Rattle.pw_colour.proofs.Unique.{raw_in}
use Rattle.pw_colour.proofs.Lawful.{numbered_has}
use Rattle.pw_colour.proofs.Entries.{is_database, few_webs}
use Rattle.pw_colour.proofs.analysing.database_with.Goals as goal

pub ranked-requires : goal.ranked-requires
ranked-requires c = two_at StandsBefore c.in_ok-webs.field-0.items c.in_ok-webs.ensures.webs.order

pub registers-requires-clause-places : goal.registers-requires-clause-places
registers-requires-clause-places c =
    let g = c.args.graph.now in
    let ws = c.in_ok-webs.field-0.items in
    let cs = c.in_ok-all.all.items in
    let P : RawWeb → Type 0 = λ (w : RawWeb). w.members.len ≡ c.len.result in
    let each : All P cs = All-from_recursion P cs (each_by P cs (λ w h. (raw_in g ws cs c.in_ok-webs.ensures.webs c.in_ok-all.ensures.same w h).member_places ∙ sym c.len.ensures)) in
    subst (λ (xs : List RawWeb). All P xs) (sym c.deref.ensures.value) each

pub registers-requires-clause-differ : goal.registers-requires-clause-differ
registers-requires-clause-differ c =
    let g = c.args.graph.now in
    let ws = c.in_ok-webs.field-0.items in
    let cs = c.in_ok-all.all.items in
    let raws = each_by (IsRawWeb g) cs (raw_in g ws cs c.in_ok-webs.ensures.webs c.in_ok-all.ensures.same) in
    subst (λ (xs : List RawWeb). EachTwo (λ u w. IsSameWeb u w → ⊥) xs) (sym c.deref.ensures.value) (differ g cs raws c.in_ok-all.ensures.order)

pub numbered-requires-clause-few : goal.numbered-requires-clause-few
numbered-requires-clause-few c =
    let g = c.args.graph.now in
    let ws = c.in_ok-webs.field-0.items in
    let cs = c.in_ok-all.all.items in
    let size : length c.deref-2.result.now ≡ length ws = ap length c.deref-2.ensures.value ∙ length_permutation ws cs c.in_ok-all.ensures.same in
    let few = few_webs (length ws) (length g.globals) (length g.functions) c.in_ok-webs.ensures.count c.requires.graph.globals c.requires.graph.functions in
    omega (arith, size, few)

pub database-requires-clause-globals : goal.database-requires-clause-globals
database-requires-clause-globals c =
    let g = c.args.graph.now in
    let ws = c.in_ok-webs.field-0.items in
    let cs = c.in_ok-all.all.items in
    let found = c.in_ok-coloured.coloured.items in
    let numbers : map seen found ≡ numbered 0 (paired cs c.in_ok-given.given.items) =
    c.in_ok-coloured.ensures ∙ ap (λ (xs : List RawWeb). numbered 0 (paired xs c.deref-3.result.now)) c.deref-2.ensures.value ∙ ap (λ (rs : List (Option ℕ)). numbered 0 (paired cs rs)) c.deref-3.ensures.value in
    let P : Coloured → Type 0 = λ (x : Coloured). x.web.now.global < length g.globals in
    let each : All P found = All-from_recursion P found (each_by P found (λ x h.
    let there = numbered_has 0 (paired cs c.in_ok-given.given.items) (seen x) (subst (λ (qs : List (ℕ × RawWeb × ℕ)). Has (seen x) qs) numbers (has_map seen x found h)) in
    (raw_in g ws cs c.in_ok-webs.ensures.webs c.in_ok-all.ensures.same x.web.now (has_paired cs c.in_ok-given.given.items x.web.now _ there)).global)) in
    subst (λ (xs : List Coloured). All P xs) (sym c.deref-4.ensures.value) each

pub returns-clause-functions : goal.returns-clause-functions
returns-clause-functions c =
    let g = c.args.graph.now in
    let ws = c.in_ok-webs.field-0.items in
    let cs = c.in_ok-all.all.items in
    let rs = c.in_ok-given.given.items in
    let numbers : map seen c.deref-4.result.now ≡ numbered 0 (paired cs rs) =
    ap (λ (xs : List Coloured). map seen xs) c.deref-4.ensures.value ∙ c.in_ok-coloured.ensures ∙ ap (λ (xs : List RawWeb). numbered 0 (paired xs c.deref-3.result.now)) c.deref-2.ensures.value
    ∙ ap (λ (ys : List (Option ℕ)). numbered 0 (paired cs ys)) c.deref-3.ensures.value in
    let count : length rs ≡ length cs = c.in_ok-given.ensures.count ∙ ap length c.deref.ensures.value in
    let given = subst (λ (xs : List RawWeb). AreColoured c.args.colours [] (paired xs rs)) c.deref.ensures.value c.in_ok-given.ensures.coloured in
    IfOk-weaker c.database.result _ _ (λ db h ss of are. is_database ss g c.args.colours ws cs rs (map seen c.deref-4.result.now) db.functions c.args.clusters.roots.now of are c.in_ok-webs.ensures.webs c.in_ok-all.ensures.same c.in_ok-all.ensures.order count given numbers h) c.database.ensures.functions
