use Rattle.std.proofs.Common.{sym, subst}
use Rattle.std.specs.Prelude.{Contains}
use Rattle.pw_summary_parts.proofs.writing.push_reference_items.Goals as goal

pub push_reference-requires-clause-stands : goal.push_reference-requires-clause-stands
push_reference-requires-clause-stands c = subst (λ r. Contains c.args.names.now r.0) (sym c.reference-item.is) (c.requires.stand c.loop-reference.reference-index _ c.loop-reference-test.true)
