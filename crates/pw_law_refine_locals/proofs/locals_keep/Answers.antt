use Rattle.pw_law_refine_locals.proofs.Beginning.{SlotLaws}
use Rattle.pw_law_refine_locals.proofs.Scopes.{locals-keep, locals-leave}
use Rattle.pw_law_refine_locals.proofs.locals_keep.Goals as goal

pub returns-clause-blocks : goal.returns-clause-blocks
returns-clause-blocks c = locals-keep (record { sizes = c.slots_stand.ensures.sizes; alone = c.slots_stand.ensures.apart; stands = c.stretches_last.ensures.stands })

pub returns-clause-functions : goal.returns-clause-functions
returns-clause-functions c = locals-leave (record { sizes = c.slots_stand.ensures.sizes; alone = c.slots_stand.ensures.apart; stands = c.stretches_last.ensures.stands })
