use Rattle.std.proofs.Common.{ap, ◌∙◌, max}
use Rattle.pw_alloc.specs.Frames.{most_arguments}
use Rattle.pw_alloc.proofs.FrameLaws.{block_more}
use Rattle.pw_alloc.proofs.frames.most_of_block.Goals as goal

pub returns : goal.returns
returns c = λ rest.
    block_more c.args.least c.most_of_ops.result c.args.block.now rest
    (c.most_of_ops.ensures ∙ ap (λ ops. max c.args.least (most_arguments ops)) c.as_slice.ensures)
