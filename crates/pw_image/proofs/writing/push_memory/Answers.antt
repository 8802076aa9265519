use Rattle.std.proofs.Common.{arith}
use Rattle.pw_image.proofs.WritingLemmas.{texts_fit}
use Rattle.pw_image.proofs.writing.push_memory.Goals as goal

pub push_data-requires : goal.push_data-requires
push_data-requires c =
    rw c.as_slice-2.ensures (texts_fit c.args.memory.now.data_size c.args.memory.now.items (omega (arith, c.requires.data_fits, c.requires.stack_end)) c.requires.items)
