use Rattle.std.proofs.Common.{◌∙◌}
use Rattle.pw_live.specs.Liveness.{has}
use Rattle.pw_db.specs.Limits.{kept_registers}
use Rattle.pw_alloc_masks.specs.Masks.{in_mask}
use Rattle.pw_alloc_registers.proofs.Choosing.{find_left, in_neither}
use Rattle.pw_alloc_registers.proofs.colouring.first_unshared.Goals as goal

pub returns-clause-first : goal.returns-clause-first
returns-clause-first c = λ cs mask.
    c.first_in.ensures.first
    ∙ find_left (in_mask c.both-both.result) (λ r. has r cs) (in_mask c.args.away) kept_registers
    (λ r. in_neither c.args.cluster c.args.away c.both-both.result r (has r cs) (mask r) (c.both-both.ensures r))
