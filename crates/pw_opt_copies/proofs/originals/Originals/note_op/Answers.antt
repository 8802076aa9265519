use Rattle.std.proofs.Common.{◌≡◌, true, sym, subst}
use Rattle.pw_flow.specs.declared.flow.Op.{Op}
use Rattle.pw_opt_copies.specs.Originals.{is_noted}
use Rattle.pw_opt_copies.proofs.originals.Originals.note_op.Goals as goal

pub returns-in-Copy-clause-noted : goal.returns-in-Copy-clause-noted
returns-in-Copy-clause-noted c = subst (λ (o : Op). is_noted c.note.new.self o ≡ true) (sym c.in-Copy.is) (c.note.ensures.noted c.in-Copy.field-0)
