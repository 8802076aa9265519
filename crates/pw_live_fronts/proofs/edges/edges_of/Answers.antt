use Rattle.std.proofs.Common.{◌≡◌, ◌-◌, ◌<◌, ◌≤◌, ◌∙◌, ◌++◌, ℕ, List, ap, length, map, refl, subst, sym, All}
use Rattle.std.specs.Prelude.{Some, slice_get}
use Rattle.std.proofs.lemmas.List.Elements.{All-from_recursion}
use Rattle.std.proofs.lemmas.Option.{slice_get_read}
use Rattle.pw_flow.specs.Outline.{Stretch}
use Rattle.pw_live_fronts.proofs.Rows.{stretch_at}
use Rattle.pw_live_fronts.proofs.Ways.{way_on, edges_more, edges_all}
use Rattle.pw_live_fronts.proofs.edges.edges_of.Goals as goal

pub add_edges-requires : goal.add_edges-requires
add_edges-requires c =
    let f = c.args.f.now in
    let place = c.loop-place.place in
    let s = c.index-blocks-place.result in
    let there : slice_get f.blocks place ≡ Some s =
    subst (λ (bs : List Stretch). slice_get bs place ≡ Some s) c.blocks-blocks.ensures (slice_get_read c.blocks-blocks.result.now (length c.blocks-blocks.result.now) place s refl c.loop-place-test.true c.index-blocks-place.is) in
    let size : length c.blocks-blocks.result.now ≡ length f.blocks = ap (λ (bs : List Stretch). length bs) c.blocks-blocks.ensures in
    let all : All (λ b. b < length f.blocks) s.next = All-from_recursion (λ b. b < length f.blocks) s.next (stretch_at f c.requires place s there).next in
    subst (λ (n : ℕ). All (λ b. b < n) c.next.result.now) (sym size) (subst (λ (bs : List ℕ). All (λ b. b < length f.blocks) bs) (sym c.next.ensures) all)

pub loop-place-preserved : goal.loop-place-preserved
loop-place-preserved c =
    let f = c.args.f.now in
    let place = c.loop-place.place in
    let s = c.index-blocks-place.result in
    let old = c.loop-place.edges.items in
    let there : slice_get f.blocks place ≡ Some s =
    subst (λ (bs : List Stretch). slice_get bs place ≡ Some s) c.blocks-blocks.ensures (slice_get_read c.blocks-blocks.result.now (length c.blocks-blocks.result.now) place s refl c.loop-place-test.true c.index-blocks-place.is) in
    let size : length c.blocks-blocks.result.now ≡ length f.blocks = ap (λ (bs : List Stretch). length bs) c.blocks-blocks.ensures in
    edges_more f place s old c.add_edges.new.edges.items there
    (c.in_ok-add_edges.ensures ∙ ap (λ (n : ℕ). old ++ map (λ b. (n - 1 - b, n - 1 - place)) c.next.result.now) size ∙ ap (λ (bs : List ℕ). old ++ map (way_on f place) bs) c.next.ensures)
    c.loop-place.invariant

pub returns : goal.returns
returns c =
    let f = c.args.f.now in
    let size : length c.blocks-blocks.result.now ≡ length f.blocks = ap (λ (bs : List Stretch). length bs) c.blocks-blocks.ensures in
    edges_all f c.loop-place.place c.loop-place.edges.items (subst (λ (bs : List Stretch). length bs ≤ c.loop-place.place) c.blocks-blocks.ensures c.loop-place-test.false) c.loop-place.invariant
