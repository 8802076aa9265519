use Rattle.std.proofs.Common.{rules, refl}
use Rattle.pw_check_state.specs.PhraseViews.{view_specified}
use Rattle.pw_check_state.specs.StateViews.{view_state}
use Rattle.pw_tree.specs.Views.{view_init_declarator}
use Rattle.pw_check_walk.proofs.CallLaws.{step_ok, step_err}
use Rattle.pw_check_init_parts.proofs.WalkLemmas.{same_walk, done_with}
use Rattle.pw_check_decl.specs.Views.{view_made}
use Rattle.pw_check_decl.proofs.DeclLemmas.{declarator_joined}
use Rattle.pw_check_decl.proofs.decls.declarator_behind.Goals as goal

pub returns-in_err-more : goal.returns-in_err-more
returns-in_err-more g c = same_walk (declarator_joined (view_specified c.args.specified.now) (view_init_declarator c.args.d.now) (view_made c.args.made) (view_state c.args.state.now)) (step_err _ c.init_declarator_rule.ensures c.in_err-more.was (search rules))

pub returns : goal.returns
returns g c = same_walk (declarator_joined (view_specified c.args.specified.now) (view_init_declarator c.args.d.now) (view_made c.args.made) (view_state c.args.state.now)) (step_ok _ c.init_declarator_rule.ensures c.in_ok-more.was (done_with refl c.in_ok-joined.ensures refl))
