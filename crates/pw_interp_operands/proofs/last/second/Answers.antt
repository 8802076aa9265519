use Rattle.std.proofs.Common.{Some, ap, rules, sym}
use Rattle.pw_value.specs.declared.value.Value.TheVariants as V
use Rattle.pw_cmean.specs.Acts.{give}
use Rattle.pw_interp_todo.specs.Operands.{second_behind}
use Rattle.pw_interp_todo.proofs.LeadLaws.{followed, leaves, named, then_more, then_stops}
use Rattle.pw_interp_operands.proofs.last.second.Goals as goal

pub returns-in_err-second : goal.returns-in_err-second
unfolding second_behind
returns-in_err-second c bound =
    then_stops _ c.tested.ensures c.in_err-second.was (search rules)

pub returns : goal.returns
unfolding second_behind
returns c bound =
    then_more _ c.tested.ensures c.in_ok-second.was
    (followed (named (ap (λ n. give (Some (V.Num n))) (sym c.word.ensures))) (leaves _))
