use Rattle.std.proofs.Common.{◌≡◌, arith}
use Rattle.pw_check_names.proofs.NestingLaws.{scoped_left, left_is, left_none}
use Rattle.pw_check_names.proofs.scoped.VisibleNames.leave.Goals as goal

pub invariant_of-self : goal.invariant_of-self
invariant_of-self c =
    scoped_left _ _ _ _ _ _ c.self.invariant c.in-Some.ensures.items _ _ c.leave.ensures c.leave-in-Some.ensures

pub returns-in-Some : goal.returns-in-Some
returns-in-Some c =
    rw (← c.self.view_is)
    (left_is _ _ _ _ _ _ c.self.invariant c.in-Some.ensures.items _ _ c.leave.ensures c.leave-in-Some.ensures)

pub returns-in-None : goal.returns-in-None
returns-in-None c =
    let none : c.self.inside.depth ≡ 0 = omega (arith, c.self.invariant.counted, c.in-None.ensures.cases.0, c.self.inside.starts.ok.0) in
    rw (← c.self.view_is) (left_none _ _ _ _ _ none c.leave-in-None.ensures c.leave-in-None-2.ensures)
