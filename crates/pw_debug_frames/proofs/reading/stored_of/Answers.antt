use Rattle.std.proofs.Common.{List, ℕ, sym, subst}
use Rattle.pw_db_file.specs.Spelling.{IsPayload}
use Rattle.pw_debug_frames.proofs.FrameLemmas.{no_fault}
use Rattle.pw_debug_frames.proofs.reading.stored_of.Goals as goal

pub unreachable-requires : goal.unreachable-requires
unreachable-requires c =
    let made = c.requires in
    absurd (no_fault c.in-Err-FileFault.field-0 c.in-Err-FileFault.field-0-0 made.stored c.in-Err-FileFault.field-0-is
    (c.in-Err-FileFault.ensures.only made.stored (subst (λ (b : List ℕ). IsPayload b made.stored) (sym c.as_slice.ensures) made.payload)))

pub returns-in-Ok-clause-payload : goal.returns-in-Ok-clause-payload
returns-in-Ok-clause-payload c = subst (λ (b : List ℕ). IsPayload b c.in-Ok.functions) c.as_slice.ensures c.in-Ok.ensures.found

pub returns-in-Ok-clause-lawful : goal.returns-in-Ok-clause-lawful
returns-in-Ok-clause-lawful c = let found = c.in-Ok.ensures.found in found.1.contents.lawful.functions
