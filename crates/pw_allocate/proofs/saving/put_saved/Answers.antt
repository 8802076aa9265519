use Rattle.std.proofs.Common.{◌≡◌, true, false, rules, arith}
use Rattle.std.proofs.lemmas.Grind.{common_steps}
use Rattle.pw_alloc_temps.specs.Temporaries.{is_saved}
use Rattle.pw_allocate.proofs.SavingLaws.{saved_here, saved_not}
use Rattle.pw_allocate.proofs.saving.put_saved.Goals as goal

pub returns-in_ok-push : goal.returns-in_ok-push
returns-in_ok-push c =
    let here : is_saved c.args.directives.now c.args.registers.now c.args.r ≡ true = cc in
    let step = saved_here c.args.directives.now c.args.registers.now c.args.r (omega arith) here in
    grind (rules, arith, common_steps, step)

pub returns-else-is_saved : goal.returns-else-is_saved
returns-else-is_saved c =
    let none : is_saved c.args.directives.now c.args.registers.now c.args.r ≡ false = cc in
    let step = saved_not c.args.directives.now c.args.registers.now c.args.r (omega arith) none in
    grind (rules, arith, common_steps, step)
