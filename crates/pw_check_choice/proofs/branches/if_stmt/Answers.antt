use Rattle.std.proofs.Common.{refl, ap, ◌∙◌, rules}
use Rattle.pw_check_walk.proofs.CallLaws.{step_ok, step_err}
use Rattle.pw_check_labels.proofs.Steps.{ends, same}
use Rattle.std.proofs.Common.{[], ◌∷◌, ◌++◌}
use Rattle.pw_check_choice.proofs.BranchLaws.{if_split, if_made}
use Rattle.pw_check_choice.proofs.branches.if_stmt.Goals as goal

pub returns-in_err-first : goal.returns-in_err-first
returns-in_err-first g c = same (if_split _ _ _ _ _) (step_err _ c.arm_rule.ensures c.in_err-first.was (search rules))

pub returns-in_err-behind : goal.returns-in_err-behind
returns-in_err-behind g c =
    same (if_split _ _ _ _ _)
    (step_ok _ c.arm_rule.ensures c.in_ok-first.was
    (step_err _ (rw (c.in_ok-push.ensures.items ∙ ap (λ xs. xs ++ c.in_ok-first.first ∷ []) c.new-arms.ensures.items) at c.alternative_rule.ensures) c.in_err-behind.was (search rules)))

pub returns : goal.returns
returns g c =
    same (if_split _ _ _ _ _)
    (step_ok _ c.arm_rule.ensures c.in_ok-first.was
    (step_ok _ (rw (c.in_ok-push.ensures.items ∙ ap (λ xs. xs ++ c.in_ok-first.first ∷ []) c.new-arms.ensures.items) at c.alternative_rule.ensures) c.in_ok-behind.was
    (ends (if_made c.args.token c.in_ok-behind.behind) refl)))
