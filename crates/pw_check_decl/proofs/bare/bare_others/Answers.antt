use Rattle.std.proofs.Common.{rules, refl, sym, ap}
use Rattle.pw_check_state.specs.StateViews.{view_state}
use Rattle.pw_tree.specs.Views.{view_specifiers}
use Rattle.pw_check_walk.proofs.CallLaws.{step_ok, step_err}
use Rattle.pw_check_init_parts.proofs.WalkLemmas.{same_walk, done_with}
use Rattle.pw_typed.specs.Views.{view_initialisers}
use Rattle.pw_check_rules.specs.Declarations.{specified_rule}
use Rattle.pw_check_decl.proofs.BareLemmas.{others_joined}
use Rattle.pw_check_decl.proofs.bare.bare_others.Goals as goal

pub returns-in_err-specified : goal.returns-in_err-specified
returns-in_err-specified g c = same_walk (others_joined (view_specifiers c.args.specifiers.now) (view_state c.args.state.now)) (step_err _ (same_walk (ap (λ n. specified_rule (view_specifiers c.args.specifiers.now) n (view_state c.args.state.now)) (sym c.first_of_list-first.ensures)) c.specifiers.ensures) c.in_err-specified.was (search rules))

pub returns-in_err-storage_rule : goal.returns-in_err-storage_rule
returns-in_err-storage_rule g c = same_walk (others_joined (view_specifiers c.args.specifiers.now) (view_state c.args.state.now)) (step_ok _ (same_walk (ap (λ n. specified_rule (view_specifiers c.args.specifiers.now) n (view_state c.args.state.now)) (sym c.first_of_list-first.ensures)) c.specifiers.ensures) c.in_ok-specified.was (step_err _ c.storage_rule.ensures.follows c.in_err-storage_rule.was (search rules)))

pub returns-in_err-something_rule : goal.returns-in_err-something_rule
returns-in_err-something_rule g c =
    same_walk (others_joined (view_specifiers c.args.specifiers.now) (view_state c.args.state.now)) (step_ok _ (same_walk (ap (λ n. specified_rule (view_specifiers c.args.specifiers.now) n (view_state c.args.state.now)) (sym c.first_of_list-first.ensures)) c.specifiers.ensures) c.in_ok-specified.was (step_ok _ c.storage_rule.ensures.follows c.in_ok-storage_rule.was (step_err _ (c.something_rule.ensures.follows _) c.in_err-something_rule.was (search rules))))

pub returns : goal.returns
returns g c =
    same_walk (others_joined (view_specifiers c.args.specifiers.now) (view_state c.args.state.now)) (step_ok _ (same_walk (ap (λ n. specified_rule (view_specifiers c.args.specifiers.now) n (view_state c.args.state.now)) (sym c.first_of_list-first.ensures)) c.specifiers.ensures) c.in_ok-specified.was (step_ok _ c.storage_rule.ensures.follows c.in_ok-storage_rule.was (step_ok _ (c.something_rule.ensures.follows _) c.in_ok-something_rule.was (done_with refl (ap view_initialisers c.new.ensures.items) refl))))
