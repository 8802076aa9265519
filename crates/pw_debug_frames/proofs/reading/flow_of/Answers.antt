use Rattle.std.proofs.Common.{List, ℕ, sym, subst}
use Rattle.pw_flowfile.specs.FlowFile.{IsFlowFile}
use Rattle.pw_debug_frames.proofs.FrameLemmas.{no_fault}
use Rattle.pw_debug_frames.proofs.reading.flow_of.Goals as goal

pub unreachable-requires : goal.unreachable-requires
unreachable-requires c =
    let made = c.requires in
    absurd (no_fault c.in-Err-FileFault.field-0 c.in-Err-FileFault.field-0-0 made.flow c.in-Err-FileFault.field-0-is
    (c.in-Err-FileFault.ensures.only made.flow (subst (λ (b : List ℕ). IsFlowFile b made.flow) (sym c.as_slice.ensures) made.flow_file)))

pub returns-in-Ok-clause-file : goal.returns-in-Ok-clause-file
returns-in-Ok-clause-file c = subst (λ (b : List ℕ). IsFlowFile b c.in-Ok.flow) c.as_slice.ensures c.in-Ok.ensures.found

pub returns-in-Ok-clause-lawful : goal.returns-in-Ok-clause-lawful
returns-in-Ok-clause-lawful c = let found = c.in-Ok.ensures.found in found.1.fits.lawful
