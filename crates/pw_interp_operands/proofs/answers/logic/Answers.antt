use Rattle.std.proofs.Common.{rules, ap, sym, ◌∙◌, refl, Some}
use Rattle.pw_value.specs.declared.value.Value.TheVariants as V
use Rattle.pw_cmean.specs.Acts.{give}
use Rattle.pw_interp_todo.specs.Operands.{second_behind}
use Rattle.pw_interp_todo.proofs.LeadLaws.{branch_off, branch_on, followed, leaves, named, then_more, then_stops}
use Rattle.pw_interp_operands.proofs.NodeLaws.{logic_is}
use Rattle.pw_interp_operands.proofs.answers.logic.Goals as goal

pub returns-in_err-first : goal.returns-in_err-first
returns-in_err-first c a is bound = followed (named (logic_is _ _ _ _ _ _ _ _ is)) (then_stops _ c.tested.ensures c.in_err-first.was (search rules))

pub returns-then-decides : goal.returns-then-decides
returns-then-decides c a is bound =
    followed (named (logic_is _ _ _ _ _ _ _ _ is))
    (then_more _ c.tested.ensures c.in_ok-first.was
    (branch_on _ (sym c.decides.ensures ∙ c.if-decides.true)
    (followed (named (ap (λ n. give (Some (V.Num n))) (sym c.word.ensures))) (leaves _))))

pub returns : goal.returns
returns c a is bound =
    followed (named (logic_is _ _ _ _ _ _ _ _ is))
    (then_more _ c.tested.ensures c.in_ok-first.was
    (branch_off _ (sym c.decides.ensures ∙ c.if-decides.false) (leaves _)))
