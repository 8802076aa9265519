use Rattle.std.proofs.Common.{rules, refl, sym, ap}
use Rattle.pw_check_state.specs.StateViews.{view_state}
use Rattle.pw_tree.specs.Views.{view_inits}
use Rattle.pw_types.specs.Views.{view_qtype}
use Rattle.pw_check_walk.proofs.CallLaws.{step_ok, step_err}
use Rattle.pw_check_init_parts.specs.FilledViews.{view_context}
use Rattle.pw_check_init_parts.proofs.WalkLemmas.{same_walk, done_with}
use Rattle.pw_check_rules.specs.Initialisers.{inits_rule}
use Rattle.pw_check_init.proofs.ObjectLemmas.{list_joined}
use Rattle.pw_check_init.proofs.object.object_list.Goals as goal

pub returns-in_err-listed : goal.returns-in_err-listed
returns-in_err-listed g c =
    same_walk (list_joined (view_context c.args.cx.now) (view_qtype c.args.q) (view_inits c.args.items.now) (view_state c.args.state.now)) (step_err _ (same_walk (ap (λ p. inits_rule (view_inits c.args.items.now) (view_context c.args.cx.now) p.0 p.1 (view_state c.args.state.now)) (sym c.in_ok-begun.ensures)) c.inits_rule.ensures) c.in_err-listed.was (search rules))

pub returns : goal.returns
returns g c =
    same_walk (list_joined (view_context c.args.cx.now) (view_qtype c.args.q) (view_inits c.args.items.now) (view_state c.args.state.now)) (step_ok _ (same_walk (ap (λ p. inits_rule (view_inits c.args.items.now) (view_context c.args.cx.now) p.0 p.1 (view_state c.args.state.now)) (sym c.in_ok-begun.ensures)) c.inits_rule.ensures) c.in_ok-listed.was (done_with refl (cc (c.in_ok-ty.ensures, c.in_ok-count.ensures)) refl))
