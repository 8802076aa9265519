use Rattle.std.proofs.Common.{subst}
use Rattle.pawc.specs.Flushed.{IsUntold}
use Rattle.pawc.proofs.Untold.{untold_is_flushed}
use Rattle.pawc.proofs.finish.Goals as goal

pub returns-clause-whole : goal.returns-clause-whole
returns-clause-whole g c untold =
    untold_is_flushed c.args.answer c.flush-flushed.result _ c.flush-flushed.ensures.whole (subst IsUntold c.after_flush.ensures.answer untold)
