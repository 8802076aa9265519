use Rattle.std.proofs.Common.{◌≡◌, List, ap, length}
use Rattle.pw_fix.specs.Table.{HoldsAt}
use Rattle.pw_flow.specs.Outline.{Stretch}
use Rattle.pw_live_fronts.proofs.Rows.{all_within, are_fronts}
use Rattle.pw_live_fronts.proofs.fronts.find_fronts.Goals as goal

pub invariant_of-graph : goal.invariant_of-graph
invariant_of-graph c =
    let nodes : length c.blocks-blocks.result.now ≡ length c.args.f.now.blocks = ap (λ (bs : List Stretch). length bs) c.blocks-blocks.ensures in
    record { within = all_within c.args.f.now c.requires (length c.blocks-blocks.result.now) nodes c.in_ok-edges.edges.items c.in_ok-edges.ensures }

pub returns : goal.returns
returns c =
    let f = c.args.f.now in
    let marks = c.in_ok-marks.marks in
    let nodes : length c.blocks-blocks.result.now ≡ length f.blocks = ap (λ (bs : List Stretch). length bs) c.blocks-blocks.ensures in
    are_fronts f c.requires (record { exposed = c.in_ok-exposed.exposed; rows = c.in_ok-rows.rows }) c.len-len.result (length c.blocks-blocks.result.now) c.in_ok-edges.edges.items
    (HoldsAt marks.uses) (HoldsAt marks.defines) c.in_ok-exposed.ensures.there c.in_ok-marks.ensures.uses c.in_ok-marks.ensures.defines c.in_ok-edges.ensures
    c.in_ok-_nothing._nothing c.in_ok-_nothing.ensures.length c.in_ok-_nothing.ensures.empty
    nodes c.in_ok-rows.ensures.least.solution c.in_ok-rows.ensures.derived c.in_ok-exposed.ensures.count
