use Rattle.std.proofs.Common.{length, ap, ◌∙◌, arith}
use Rattle.pw_alloc.specs.Allocation.{in_frame}
use Rattle.pw_alloc.proofs.FrameLaws.{few_arguments}
use Rattle.pw_alloc.proofs.AllocationLaws.{located_fits}
use Rattle.pw_select.proofs.SelectableLaws.{few_places, few_saved_registers, reach_located}
use Rattle.pw_select.proofs.selecting.frame_slots.Goals as goal

pub head_size-head-requires : goal.head_size-head-requires
head_size-head-requires c = few_arguments c.args.f.now.body c.requires.body

pub in_frame-temps-requires : goal.in_frame-temps-requires
in_frame-temps-requires c =
    let few = few_places c.args.f.now c.requires in
    let e = ap length c.as_slice.ensures in
    omega arith

pub overflow_cast-len : goal.overflow_cast-len
overflow_cast-len c =
    let few = few_saved_registers c.args.f.now c.requires in
    omega arith

pub slots_begin-begin-requires : goal.slots_begin-begin-requires
slots_begin-begin-requires c =
    let fits = located_fits c.args.f.now c.requires in
    let words = fits.words in
    let e = ap in_frame c.as_slice.ensures in
    omega arith

pub slot_offsets-requires : goal.slot_offsets-requires
slot_offsets-requires c =
    reach_located c.args.f.now c.slots_begin-begin.result c.head_size-head.result c.len.result c.in_frame-temps.result c.as_slice-2.result.now
    c.requires c.slots_begin-begin.ensures c.head_size-head.ensures.value c.len.ensures (c.in_frame-temps.ensures.value ∙ ap in_frame c.as_slice.ensures) c.as_slice-2.ensures
