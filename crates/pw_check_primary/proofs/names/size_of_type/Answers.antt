use Rattle.std.proofs.Common.{rules, ap}
use Rattle.pw_check_walk.proofs.CallLaws.{same_call}
use Rattle.pw_check_walk.specs.Walks.{outcome}
use Rattle.pw_check_primary.proofs.Counting.{uncounted_err, uncounted_ok}
use Rattle.pw_check_primary.proofs.Forms.{sizeof_type_form}
use Rattle.pw_check_primary.proofs.names.size_of_type.Goals as goal

pub returns-in_err-size : goal.returns-in_err-size
returns-in_err-size g c =
    same_call _ _ _ _ _ (ap outcome (sizeof_type_form _ _ _ _))
    (uncounted_err _ _ _ _ _ c.set_counting.ensures c.type_size.ensures c.in_err-size.was (search rules))

pub returns : goal.returns
returns g c =
    same_call _ _ _ _ _ (ap outcome (sizeof_type_form _ _ _ _))
    (uncounted_ok _ _ _ _ _ _ _ c.is_counting-before.ensures c.set_counting.ensures c.set_counting-2.ensures
    c.type_size.ensures c.in_ok-size.was (search rules))
