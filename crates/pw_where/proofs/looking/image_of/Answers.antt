use Rattle.pw_where.proofs.Loads.{functions_within, no_file_fault, ok_same}
use Rattle.pw_where.proofs.looking.image_of.Goals as goal

pub unreachable-requires : goal.unreachable-requires
unreachable-requires c = absurd (no_file_fault c.args.bytes.now c.in-Err-FileFault.field-0 c.in-Err-FileFault.field-0-0 c.in-Err-FileFault.field-0-is c.requires c.in-Err-FileFault.ensures.only)

pub returns-in-Ok-clause-image : goal.returns-in-Ok-clause-image
returns-in-Ok-clause-image c = λ k h. ok_same k.value c.in-Ok.image (c.in-Ok.ensures.only k h)

pub returns-in-Ok-clause-within : goal.returns-in-Ok-clause-within
returns-in-Ok-clause-within c =
    let k = c.requires.0 in
    let h = c.requires.1 in
    functions_within c.args.bytes.now k c.in-Ok.image h (ok_same k.value c.in-Ok.image (c.in-Ok.ensures.only k h))
