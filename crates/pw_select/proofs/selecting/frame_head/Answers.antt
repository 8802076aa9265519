use Rattle.pw_alloc.proofs.FrameLaws.{few_arguments}
use Rattle.pw_select.proofs.selecting.frame_head.Goals as goal

pub head_size-requires : goal.head_size-requires
head_size-requires c = few_arguments c.args.f.now.body c.requires.body
