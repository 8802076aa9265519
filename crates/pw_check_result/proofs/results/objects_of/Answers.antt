use Rattle.std.proofs.Common.{map, flat_map, refl}
use Rattle.pw_check_state.specs.StateViews.{view_state}
use Rattle.pw_check_labels.proofs.LabelNames.{names_end}
use Rattle.pw_check_rules.specs.Modules.{global_in}
use Rattle.pw_typed.specs.Views.{view_global}
use Rattle.pw_check_result.proofs.ResultLaws.{slot_on, slots_on}
use Rattle.pw_check_result.proofs.results.objects_of.Goals as goal

pub loop-slot-preserved : goal.loop-slot-preserved
loop-slot-preserved c =
    slot_on (view_state c.args.state.now) c.args.slots.now c.loop-slot.slot-index _ (map view_global c.loop-slot.globals.items) _ _
    c.loop-slot-test.true c.loop-slot.invariant c.in_ok-push_global.ensures

pub returns : goal.returns
returns c =
    let s = view_state c.args.state.now in
    names_end (flat_map (global_in s)) (global_in s) (slots_on s) c.args.slots.now c.loop-slot.slot-index
    (map view_global c.loop-slot.globals.items) _ c.loop-slot-test.false refl c.loop-slot.invariant
