use Rattle.std.proofs.Common.{◌+◌, ℕ, ◌∷◌, [], map, take, sym, ap, ◌∙◌, arith}
use Rattle.std.specs.Borrow.{Bor}
use Rattle.std.specs.List.{sum_by}
use Rattle.std.proofs.lemmas.List.{map-append}
use Rattle.pw_flow.specs.declared.flow.FlowGlobal.{FlowGlobal}
use Rattle.pw_link.specs.Layout.{standing_from}
use Rattle.pw_flow.specs.ValidFlow.{global_room}
use Rattle.pw_link.specs.Views.{standing_view}
use Rattle.pw_link.proofs.Growing.{sum_and_next, sum_more, map_more, stood_more}
use Rattle.pw_link.proofs.data.at_offsets.Goals as goal

abbrev own : Bor FlowGlobal → FlowGlobal
own g = g.now

pub overflow_cast-offset : goal.overflow_cast-offset
overflow_cast-offset c =
    let bound = sum_and_next global_room own c.args.globals.now c.loop-global.global-index c.global-item.result c.loop-global-test.true in
    let item = ap (λ (g : Bor FlowGlobal). global_room g.now) c.global-item.is in
    omega (arith, bound, item, c.global_room.ensures, c.requires)

pub overflow_add-offset : goal.overflow_add-offset
overflow_add-offset c =
    let bound = sum_and_next global_room own c.args.globals.now c.loop-global.global-index c.global-item.result c.loop-global-test.true in
    let item = ap (λ (g : Bor FlowGlobal). global_room g.now) c.global-item.is in
    omega (arith, bound, item, c.global_room.ensures, c.requires, c.loop-global.invariant.0)

pub loop-global-preserved : goal.loop-global-preserved
loop-global-preserved c =
    let more = map_more own c.args.globals.now c.loop-global.global-index c.global-item.result c.loop-global-test.true c.global-item.is in
    let sum = sum_more global_room own c.args.globals.now c.loop-global.global-index c.global-item.result c.loop-global-test.true c.global-item.is in
    let gs = map own (take c.loop-global.global-index c.args.globals.now) in (
      ap (λ (n : ℕ). n + c.global_room.result) c.loop-global.invariant.0 ∙ ap (λ (n : ℕ). sum_by global_room gs + n) c.global_room.ensures ∙ sym sum,
      ap (map standing_view) c.in_ok-push.ensures.items
          ∙ map-append standing_view c.loop-global.stood.items (record { offset = c.loop-global.offset; global = c.global-item.result } ∷ [])
          ∙ stood_more gs c.global-item.result.now (map standing_view c.loop-global.stood.items) c.loop-global.offset c.loop-global.invariant.1 c.loop-global.invariant.0
          ∙ ap (standing_from 0) (sym more),
    )
