use Rattle.std.proofs.Common.{arith}
use Rattle.pw_alloc.proofs.FrameLaws.{few_arguments}
use Rattle.pw_alloc.proofs.SavedLaws.{few_kept}
use Rattle.pw_debug_frames.proofs.saving.save_places.Goals as goal

pub head_size-head-requires : goal.head_size-head-requires
head_size-head-requires c = few_arguments c.args.f.now.body c.requires.body

pub overflow_add-i : goal.overflow_add-i
overflow_add-i c =
    let few = few_kept c.args.f.now.body c.args.f.now.saved c.requires.saved in
    omega (arith, few, c.loop-rest.invariant.count, c.in-len1-up.len_at_least)

pub overflow_mul-i : goal.overflow_mul-i
overflow_mul-i c =
    let few = few_kept c.args.f.now.body c.args.f.now.saved c.requires.saved in
    omega (arith, few, c.loop-rest.invariant.count, c.in-len1-up.len_at_least)

pub overflow_add-head : goal.overflow_add-head
overflow_add-head c =
    let few = few_kept c.args.f.now.body c.args.f.now.saved c.requires.saved in
    omega (arith, few, c.loop-rest.invariant.count, c.in-len1-up.len_at_least, c.head_size-head.ensures.small)

pub below-requires : goal.below-requires
below-requires c =
    let few = few_kept c.args.f.now.body c.args.f.now.saved c.requires.saved in
    omega (arith, few, c.loop-rest.invariant.count, c.in-len1-up.len_at_least, c.head_size-head.ensures.small)
