use Rattle.std.proofs.Common.{rules, sym, ap, arith}
use Rattle.std.proofs.lemmas.Grind.{common_steps}
use Rattle.pw_check_state.specs.StateViews.{view_state}
use Rattle.pw_tree.specs.Views.{view_specifiers}
use Rattle.pw_check_walk.proofs.CallLaws.{step_ok, step_err}
use Rattle.pw_check_init_parts.proofs.WalkLemmas.{same_walk}
use Rattle.pw_check_rules.specs.Declarations.{specified_rule}
use Rattle.pw_check_decl.proofs.DeclLemmas.{some_declared, none_declared}
use Rattle.pw_check_decl.proofs.decls.declarators_rule.Goals as goal

pub returns-then-is_empty : goal.returns-then-is_empty
returns-then-is_empty g c = same_walk (none_declared (view_specifiers c.args.specifiers.now) c.args.declarators.now (view_state c.args.state.now) (grind (arith, common_steps))) c.bare_rule.ensures

pub returns-in_err-specified : goal.returns-in_err-specified
returns-in_err-specified g c = same_walk (some_declared (view_specifiers c.args.specifiers.now) c.args.declarators.now (view_state c.args.state.now) (grind (arith, common_steps))) (step_err _ (same_walk (ap (λ n. specified_rule (view_specifiers c.args.specifiers.now) n (view_state c.args.state.now)) (sym c.first_of_list-first.ensures)) c.specifiers.ensures) c.in_err-specified.was (search rules))

pub returns-in_err-storage_rule : goal.returns-in_err-storage_rule
returns-in_err-storage_rule g c = same_walk (some_declared (view_specifiers c.args.specifiers.now) c.args.declarators.now (view_state c.args.state.now) (grind (arith, common_steps))) (step_ok _ (same_walk (ap (λ n. specified_rule (view_specifiers c.args.specifiers.now) n (view_state c.args.state.now)) (sym c.first_of_list-first.ensures)) c.specifiers.ensures) c.in_ok-specified.was (step_err _ c.storage_rule.ensures.follows c.in_err-storage_rule.was (search rules)))

pub returns : goal.returns
returns g c = same_walk (some_declared (view_specifiers c.args.specifiers.now) c.args.declarators.now (view_state c.args.state.now) (grind (arith, common_steps))) (step_ok _ (same_walk (ap (λ n. specified_rule (view_specifiers c.args.specifiers.now) n (view_state c.args.state.now)) (sym c.first_of_list-first.ensures)) c.specifiers.ensures) c.in_ok-specified.was (step_ok _ c.storage_rule.ensures.follows c.in_ok-storage_rule.was c.init_declarators_rule.ensures))
